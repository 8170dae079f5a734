-- So far the values are what the rows before the loop's place say.
use Rattle.std.proofs.Common.{◌≡◌, All, take, filter_map}
use Rattle.aff_lines.specs.Passes.{lines_at}
use Rattle.aff_reader.proofs.row_values.read_listed.Given as goal

abbrev pub invariant-loop-row : goal.invariant-loop-row
invariant-loop-row g l = record {
  said : l.values ≡ filter_map (g.T.RowValue.said_in l.kind) (lines_at (take l.row-index l.rows));
  sound : All g.T.RowValue.IsSound l.values;
}
