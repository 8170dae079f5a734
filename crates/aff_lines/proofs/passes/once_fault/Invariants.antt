-- What was found so far, merged with what the rest has, is the earliest fault of all.
use Rattle.std.proofs.Common.{◌≡◌, length}
use Rattle.std.specs.List.{flat_map}
use Rattle.aff_lines.specs.Faults.{least_of, sooner}
use Rattle.aff_lines.specs.Grammar.{later_faults, once_faults}
use Rattle.aff_lines.specs.Rows.{lines_of}
use Rattle.aff_lines.proofs.passes.once_fault.Given as goal

abbrev pub invariant-loop-line : goal.invariant-loop-line
invariant-loop-line l =
    sooner l.found (least_of (flat_map (later_faults l.kind l.form) (lines_of l.directive l.rest)))
    ≡ least_of (once_faults l.kind l.form (lines_of l.directive l.rows))

abbrev pub decreases-loop-line : goal.decreases-loop-line
decreases-loop-line l = length l.rest
