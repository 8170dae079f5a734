-- What was found so far is the earliest fault of the directives of the pass before the loop's
-- place.
use Rattle.std.proofs.Common.{◌≡◌, take}
use Rattle.std.specs.List.{flat_map}
use Rattle.aff_lines.specs.Faults.{least_of}
use Rattle.aff_lines.proofs.PassLemmas.{described_faults}
use Rattle.aff_lines.proofs.passes.fault_among.Given as goal

abbrev pub invariant-loop-described : goal.invariant-loop-described
invariant-loop-described l =
    l.found ≡ least_of
    (flat_map (described_faults l.kind l.rows l.pass) (take l.described-index l.directives))
