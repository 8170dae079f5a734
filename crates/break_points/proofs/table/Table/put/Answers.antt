-- What is put is right, and the other answers stay.
use Rattle.break_points.proofs.Tables.{put_right}
use Rattle.break_points.proofs.table.Table.put.Goals as goal

pub returns : goal.returns
returns c =
    λ right. put_right right c.args.self.now _ c.args.piece c.args.answer
    c.in_ok-insert.ensures.updates.0
