-- No piece stands in the empty table.
use Rattle.break_points.proofs.Tables.{empty_right}
use Rattle.break_points.proofs.table.Table.new.Goals as goal

pub returns : goal.returns
returns c = λ right. empty_right right _ c.new.ensures.empty
