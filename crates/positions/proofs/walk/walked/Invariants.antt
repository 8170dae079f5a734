-- The walk has not come past the byte, and goes on as it began.
use Rattle.std.proofs.Common.{ℕ, ◌≤◌, List, length}
use Rattle.positions.specs.Walks.{IsOnWay}
use Rattle.positions.proofs.walk.walked.Given as goal

abbrev pub invariant-loop-c : goal.invariant-loop-c
invariant-loop-c l = record {
  within : l.reached.byte ≤ l.fn.byte;
  few : l.reached.offset ≤ l.reached.byte;
  on_way : (line : List ℕ) → IsOnWay l.encoding line l.fn.from → IsOnWay l.encoding line l.reached;
}

abbrev pub decreases-loop-c : goal.decreases-loop-c
decreases-loop-c l = length l.reached.left.now
