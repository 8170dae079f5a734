-- By the law that edits keep validity.
use Rattle.edit_core.proofs.Steps.{point-after, valid-after}
use Rattle.edit_core.proofs.laws.steps_keep_validity.Goals as goal

pub returns-clause-valid : goal.returns-clause-valid
returns-clause-valid c = valid-after c.edits_are_decided.ensures.kept

pub returns-clause-point : goal.returns-clause-point
returns-clause-point c = point-after
