-- A row adds what it says.
use Rattle.aff_reader.proofs.TableLemmas.{table-turn}
use Rattle.aff_reader.proofs.row_values.read_listed.Goals as goal

pub loop-row-preserved : goal.loop-row-preserved
loop-row-preserved g c = record {
  said = table-turn (g.T.RowValue.said_in c.args.kind) c.loop-row.values c.push_row.new.values
      c.args.rows.now c.loop-row.row-index c.row-item.result
      c.loop-row-test.true c.row-item.is c.in_ok-push_row.ensures.said c.loop-row.invariant.said;
  sound = c.in_ok-push_row.ensures.sound c.loop-row.invariant.sound;
}
