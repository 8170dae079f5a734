-- The steps of a history are those of its front, and those behind it.
use Rattle.std.proofs.Common.{[], ◌∷◌}
use Rattle.edit_core.proofs.RunLaws.{run-front, run-longer, run-point, steps-apart, valid-run}
use Rattle.edit_core.proofs.laws.fronts_are_runs.Goals as goal

pub returns-clause-none : goal.returns-clause-none
returns-clause-none c opening opens valid = record { opens = opens; valid = valid; steps = tt }

pub returns-clause-front : goal.returns-clause-front
returns-clause-front c = run-front

pub returns-clause-behind : goal.returns-clause-behind
returns-clause-behind c opening front back is = (steps-apart opening front back is.steps).1

pub returns-clause-longer : goal.returns-clause-longer
returns-clause-longer c = run-longer

pub returns-clause-next : goal.returns-clause-next
returns-clause-next c opening entries entry is step =
    run-longer opening entries (entry ∷ []) is (step, tt)

pub returns-clause-valid : goal.returns-clause-valid
returns-clause-valid c run is =
    valid-run c.edits_are_decided.ensures.kept run.opening run.entries is.valid is.steps

pub returns-clause-point : goal.returns-clause-point
returns-clause-point c = run-point
