-- What is left of a whole paragraph has all its words.
use Rattle.std.proofs.Common.{refl}
use Rattle.mark_types.specs.Words.{words_of}
use Rattle.word_cutter.specs.Runs.{words_after, words_from}
use Rattle.word_cutter.proofs.Rest.of.Goals as goal

pub returns-clause-words : goal.returns-clause-words
unfolding words_after words_from words_of
returns-clause-words c = λ wordchars. refl
