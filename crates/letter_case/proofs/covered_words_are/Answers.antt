-- The laws are lemmas on the definitions alone.
use Rattle.letter_case.proofs.Rule.{covered-members, covered-first, covered-once}
use Rattle.letter_case.proofs.covered_words_are.Goals as goal

pub returns-clause-members : goal.returns-clause-members
returns-clause-members c = covered-members

pub returns-clause-first : goal.returns-clause-first
returns-clause-first c = covered-first

pub returns-clause-once : goal.returns-clause-once
returns-clause-once c = covered-once
