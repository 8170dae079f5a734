-- A refused event has no entry.
use Rattle.edit_core.proofs.Replays.{replay-is-run}
use Rattle.edit_core.proofs.laws.replays_are_runs.Goals as goal

pub returns : goal.returns
returns c board after events = replay-is-run board events after
