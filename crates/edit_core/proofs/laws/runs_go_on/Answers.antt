-- By induction on the entries in front.
use Rattle.edit_core.proofs.RunLaws.{last-append, last-one, point-run, steps-apart, steps-together}
use Rattle.edit_core.proofs.RunLaws.{valid-run}
use Rattle.edit_core.proofs.laws.runs_go_on.Goals as goal

pub returns-clause-steps : goal.returns-clause-steps
returns-clause-steps c board front back =
    (steps-apart board front back, steps-together board front back)

pub returns-clause-last : goal.returns-clause-last
returns-clause-last c = last-append

pub returns-clause-one : goal.returns-clause-one
returns-clause-one c = last-one

pub returns-clause-valid : goal.returns-clause-valid
returns-clause-valid c = valid-run c.edits_are_decided.ensures.kept

pub returns-clause-point : goal.returns-clause-point
returns-clause-point c = point-run
