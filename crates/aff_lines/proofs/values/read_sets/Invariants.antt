-- So far the sets are those of the lines before the loop's place.
use Rattle.std.proofs.Common.{◌≡◌, All, map, take}
use Rattle.spell_types.specs.Flags.{AreOrdinary}
use Rattle.aff_lines.specs.Passes.{lines_at, set_in}
use Rattle.aff_lines.proofs.values.read_sets.Given as goal

abbrev pub invariant-loop-line : goal.invariant-loop-line
invariant-loop-line l = record {
  said : l.sets ≡ map (set_in l.kind) (lines_at (take l.line-index l.lines));
  ordinary : All AreOrdinary l.sets;
}
