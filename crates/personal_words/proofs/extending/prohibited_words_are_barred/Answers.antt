-- The law on prohibited words.
use Rattle.personal_words.proofs.LawLemmas.{prohibited-barred, left-over-other}
use Rattle.personal_words.proofs.extending.prohibited_words_are_barred.Goals as goal

pub returns-clause-barred : goal.returns-clause-barred
returns-clause-barred c = prohibited-barred

pub returns-clause-other : goal.returns-clause-other
returns-clause-other c = left-over-other
