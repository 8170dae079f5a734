-- What is told of a word, by what its derivations and the words that it covers are.
use Rattle.pipe_mode.proofs.StemLemmas.{told, none-told}
use Rattle.pipe_mode.proofs.stems.told_derivations_are_least.Goals as goal

pub returns-clause-told : goal.returns-clause-told
returns-clause-told c =
    told c.derivations_are.ensures.members c.covered_words_are.ensures.members

pub returns-clause-none : goal.returns-clause-none
returns-clause-none c =
    none-told c.derivations_are.ensures.members c.covered_words_are.ensures.members
