-- As many tasks as are left.
use Rattle.std.proofs.Common.{◌+◌, ◌*◌, length}
use Rattle.joined_tasks.proofs.+starting.Given as goal

abbrev pub decreases-join_mut+arg3 : goal.decreases-join_mut+arg3
decreases-join_mut+arg3 g l = length l.others.now * 2 + 1

abbrev pub decreases-start_each : goal.decreases-start_each
decreases-start_each g l = length l.tasks.now * 2
