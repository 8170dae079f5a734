-- So far the chunks, and the one that is being filled, have the items that were taken.
use Rattle.std.proofs.Common.{◌≡◌, ◌≤◌, ◌++◌, vec_len}
use Rattle.shared_items.proofs.SharedItems.from_vec.Given as goal

abbrev pub invariant-loop-item : goal.invariant-loop-item
invariant-loop-item g l = (l.made ++ l.chunk.items ≡ l.yielded) × (vec_len l.chunk ≤ 64)
