-- A line adds its fault.
use Rattle.std.proofs.Common.{ap}
use Rattle.line_faults.specs.Laws.{found_more}
use Rattle.aff_lines.specs.Faults.{cause_number}
use Rattle.aff_lines.specs.Grammar.{left_out_faults, all_left_out}
use Rattle.aff_lines.proofs.passes.left_out_fault.Goals as goal

pub loop-line-preserved : goal.loop-line-preserved
loop-line-preserved c =
    found_more cause_number c.loop-line.found (left_out_faults c.in-Some.line.now) _
    c.sooner-found.ensures c.fault_at.ensures (ap all_left_out c.in-Some.ensures.0)
    c.loop-line.invariant
