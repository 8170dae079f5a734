-- A line adds its faults.
use Rattle.std.proofs.Common.{◌∙◌, ap}
use Rattle.line_faults.specs.Laws.{found_more}
use Rattle.aff_lines.specs.Faults.{cause_number}
use Rattle.aff_lines.specs.Grammar.{place_faults, rows_faults}
use Rattle.aff_lines.proofs.PassLemmas.{rows-step}
use Rattle.aff_lines.proofs.passes.rows_fault.Goals as goal

pub loop-line-preserved : goal.loop-line-preserved
loop-line-preserved c =
    let own = place_faults c.args.kind c.args.row c.loop-line.left c.in-Some.line.now in
    let parts = ap (rows_faults c.args.kind c.args.row c.loop-line.left) c.in-Some.ensures.0
    ∙ rows-step c.args.kind c.args.row c.loop-line.left c.saturating_sub-left.result
    c.in-Some.line.now _ c.saturating_sub-left.ensures in
    found_more cause_number c.loop-line.found own _ c.sooner-found.ensures c.place_fault.ensures
    parts c.loop-line.invariant
