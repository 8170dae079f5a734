-- The law is a lemma on the definitions alone.
use Rattle.letter_case.proofs.MostWords.{covered-few}
use Rattle.letter_case.proofs.covered_words_are_few.Goals as goal

pub returns : goal.returns
returns c = covered-few
