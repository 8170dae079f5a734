-- The law of the first fault, at none and at one.
use Rattle.line_faults.specs.Laws.{no-first, first-least}
use Rattle.line_faults.proofs.first_faults_are_least.Goals as goal

pub returns-clause-none : goal.returns-clause-none
returns-clause-none g c = no-first

pub returns-clause-least : goal.returns-clause-least
returns-clause-least g c = first-least
