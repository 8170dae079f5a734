-- The lines so far, with the first of those that are left, are all.
use Rattle.std.proofs.Common.{◌≡◌, ◌++◌, take}
use Rattle.aff_lines.specs.Passes.{lines_at}
use Rattle.aff_lines.specs.Rows.{lines_of}
use Rattle.aff_lines.proofs.values.first_lines.Given as goal

abbrev pub invariant-loop-left : goal.invariant-loop-left
invariant-loop-left l = lines_at l.found ++ take l.left (lines_of l.directive l.rest)
    ≡ take l.count (lines_of l.directive l.rows)

abbrev pub decreases-loop-left : goal.decreases-loop-left
decreases-loop-left l = l.left
