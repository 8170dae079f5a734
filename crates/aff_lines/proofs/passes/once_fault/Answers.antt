-- A later line adds its faults.
use Rattle.std.proofs.Common.{ap}
use Rattle.std.specs.List.{flat_map}
use Rattle.line_faults.specs.Laws.{found_more}
use Rattle.aff_lines.specs.Faults.{cause_number}
use Rattle.aff_lines.specs.Grammar.{later_faults}
use Rattle.aff_lines.proofs.passes.once_fault.Goals as goal

pub loop-line-preserved : goal.loop-line-preserved
loop-line-preserved c =
    let faults_in = later_faults c.args.kind c.args.form in
    found_more cause_number c.loop-line.found (faults_in c.in-Some.line.now) _
    c.sooner-found.ensures c.later_fault.ensures (ap (flat_map faults_in) c.in-Some.ensures.0)
    c.loop-line.invariant
