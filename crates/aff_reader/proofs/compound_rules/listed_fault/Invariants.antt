-- What was found so far is the earliest fault of the rows before the loop's place.
use Rattle.std.proofs.Common.{◌≡◌, take}
use Rattle.std.specs.List.{flat_map}
use Rattle.aff_lines.specs.Faults.{least_of}
use Rattle.aff_lines.specs.Passes.{lines_at}
use Rattle.aff_reader.specs.CompoundRules.{text_faults}
use Rattle.aff_reader.proofs.compound_rules.listed_fault.Given as goal

abbrev pub invariant-loop-row : goal.invariant-loop-row
invariant-loop-row l =
    l.found ≡ least_of (flat_map (text_faults l.kind) (lines_at (take l.row-index l.rows)))
