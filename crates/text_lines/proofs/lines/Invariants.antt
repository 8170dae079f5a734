-- The good lines so far and those ahead are all good lines, and the bad one is ahead.
use Rattle.std.proofs.Common.{◌+◌, ◌-◌, length}
use Rattle.text_lines.proofs.LineLemmas.{Walks}
use Rattle.text_lines.proofs.lines.Given as goal

abbrev pub invariant-loop-line : goal.invariant-loop-line
invariant-loop-line l = Walks l.bytes l.good l.ahead

abbrev pub decreases-loop-line : goal.decreases-loop-line
decreases-loop-line l = length l.bytes + 1 - l.ahead.place
