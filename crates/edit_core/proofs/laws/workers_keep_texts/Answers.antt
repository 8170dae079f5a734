-- An event of a worker changes how one paragraph stands.
use Rattle.edit_core.proofs.Growth.{quiet-run}
use Rattle.edit_core.proofs.RunLaws.{none-asked}
use Rattle.edit_core.proofs.Steps.{quiet-after}
use Rattle.edit_core.proofs.laws.workers_keep_texts.Goals as goal

pub returns-clause-step : goal.returns-clause-step
returns-clause-step c = quiet-after

pub returns-clause-run : goal.returns-clause-run
returns-clause-run c = quiet-run

pub returns-clause-none_asked : goal.returns-clause-none_asked
returns-clause-none_asked c = none-asked
