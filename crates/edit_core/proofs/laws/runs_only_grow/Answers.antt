-- Each step lets nothing fall, and so do more of them.
use Rattle.edit_core.proofs.Growth.{grew-after, grew-between}
use Rattle.edit_core.proofs.laws.runs_only_grow.Goals as goal

pub returns-clause-step : goal.returns-clause-step
returns-clause-step c = grew-after

pub returns-clause-run : goal.returns-clause-run
returns-clause-run c = grew-between c.edits_are_decided.ensures.kept
