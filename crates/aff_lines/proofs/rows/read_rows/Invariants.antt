-- So far the rows are those of the lines before the loop's place.
use Rattle.std.proofs.Common.{◌≡◌, take}
use Rattle.std.specs.List.{filter_map}
use Rattle.aff_lines.specs.Rows.{row_in}
use Rattle.aff_lines.proofs.rows.read_rows.Given as goal

abbrev pub invariant-loop-line : goal.invariant-loop-line
invariant-loop-line l = l.rows ≡ filter_map (row_in l.bytes) (take l.line-index l.lines)
