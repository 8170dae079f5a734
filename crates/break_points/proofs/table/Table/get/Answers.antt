-- What was found for a piece is right.
use Rattle.std.proofs.Common.{rules}
use Rattle.break_points.proofs.Tables.{read_right}
use Rattle.break_points.proofs.table.Table.get.Goals as goal

pub returns : goal.returns
returns c = λ right. read_right right c.args.self.now c.args.piece c.copied.result (search rules)
