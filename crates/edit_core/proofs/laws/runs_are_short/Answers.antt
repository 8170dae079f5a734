-- By what each event can do to what waits and what is held.
use Rattle.edit_core.proofs.Furthest.{quiet-further, run-short, step-further}
use Rattle.edit_core.proofs.laws.runs_are_short.Goals as goal

pub returns-clause-quiet : goal.returns-clause-quiet
returns-clause-quiet c = quiet-further

pub returns-clause-step : goal.returns-clause-step
returns-clause-step c = step-further

pub returns-clause-run : goal.returns-clause-run
returns-clause-run c = run-short c.edits_are_decided.ensures.kept
