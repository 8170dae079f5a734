-- So far the workers are those of the eyes that were taken.
use Rattle.std.proofs.Common.{◌≡◌, map}
use Rattle.worker_crew.proofs.shifts_of.Given as goal

abbrev pub invariant-loop-eye : goal.invariant-loop-eye
invariant-loop-eye g l = map (λ shift. shift.worker.eye) l.shifts.items ≡ l.yielded
