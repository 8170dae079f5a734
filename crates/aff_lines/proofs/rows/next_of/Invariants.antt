-- What is left holds all lines of the directive.
use Rattle.std.proofs.Common.{◌≡◌, ◌≤◌, length}
use Rattle.aff_lines.specs.Rows.{lines_of}
use Rattle.aff_lines.proofs.rows.next_of.Given as goal

abbrev pub invariant-loop-row : goal.invariant-loop-row
invariant-loop-row l = record {
  same : lines_of l.directive l.rest ≡ lines_of l.directive l.rows;
  within : length l.rest ≤ length l.rows;
}

abbrev pub decreases-loop-row : goal.decreases-loop-row
decreases-loop-row l = length l.rest
