-- A line adds its row.
use Rattle.text_lines.specs.declared.found.Line.{Line}
use Rattle.aff_lines.proofs.RowLemmas.{rows-more}
use Rattle.aff_lines.proofs.rows.read_rows.Goals as goal

pub loop-line-preserved : goal.loop-line-preserved
loop-line-preserved c =
    let none : Line = record { number = 0; from = 0; to = 0 } in
    rows-more c.args.bytes.now c.args.lines.now c.loop-line.line-index none c.loop-line.rows _
    c.line_text.result.now
    c.loop-line-test.true c.line_text.ensures c.loop-line.invariant c.in_ok-push_row.ensures
