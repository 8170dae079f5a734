-- So far the eyes of the workers that were taken are given back, and there is room for the others.
use Rattle.std.proofs.Common.{◌≡◌, ◌+◌, ◌≤◌, ◌++◌, length, map, vec_len}
use Rattle.std.specs.Vec.{vec_capacity}
use Rattle.worker_crew.proofs.give_back.Given as goal

abbrev pub invariant-loop-shift : goal.invariant-loop-shift
invariant-loop-shift g l =
    (l.eyes.items ≡ l.fn.eyes.items ++ map (λ shift. shift.worker.eye) l.yielded)
    × (vec_len l.eyes ≡ vec_len l.fn.eyes + length l.yielded)
    × (vec_capacity l.fn.eyes ≤ vec_capacity l.eyes)
