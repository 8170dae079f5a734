-- The laws are lemmas on the definitions alone.
use Rattle.conversions.proofs.Steps.{converted-nil, converted-kept, converted-replaced}
use Rattle.conversions.proofs.Best.{best_fit-is, best_fit-none}
use Rattle.conversions.proofs.conversion_goes_from_the_front.Goals as goal

pub returns-clause-end : goal.returns-clause-end
returns-clause-end c = converted-nil

pub returns-clause-kept : goal.returns-clause-kept
returns-clause-kept c = converted-kept

pub returns-clause-replaced : goal.returns-clause-replaced
returns-clause-replaced c = converted-replaced

pub returns-clause-best : goal.returns-clause-best
returns-clause-best c = best_fit-is

pub returns-clause-none : goal.returns-clause-none
returns-clause-none c = best_fit-none
