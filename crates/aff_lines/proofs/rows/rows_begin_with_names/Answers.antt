-- The law of the lines that are rows.
use Rattle.aff_lines.proofs.RowLemmas.{row-begins}
use Rattle.aff_lines.proofs.rows.rows_begin_with_names.Goals as goal

pub returns : goal.returns
returns c = row-begins
