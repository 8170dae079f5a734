-- So many items stand at the front.
use Rattle.std.proofs.Common.{◌≡◌, ◌-◌, ◌≤◌, length, map}
use Rattle.affedit_c.proofs.FrontLemmas.{begun}
use Rattle.affedit_c.proofs.fronts.write_front.Given as goal

abbrev pub invariant-loop-place : goal.invariant-loop-place
invariant-loop-place g l = record {
  left : l.place ≤ length l.items;
  room : l.place ≤ length l.fn.array;
  telling : l.telling ≡ l.fn.telling;
  array : l.array ≡ begun l.place (map (g.W.Telling.told l.fn.telling) l.items) l.fn.array;
}

abbrev pub decreases-loop-place : goal.decreases-loop-place
decreases-loop-place g l = length l.items - l.place
