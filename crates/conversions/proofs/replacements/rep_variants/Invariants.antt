-- So far the words by the pairs before the loop's place are there.
use Rattle.std.proofs.Common.{◌≡◌, take}
use Rattle.std.specs.List.{flat_map}
use Rattle.spell_types.specs.Replacements.{variants_by}
use Rattle.conversions.proofs.replacements.rep_variants.Given as goal

abbrev pub invariant-loop-rep : goal.invariant-loop-rep
invariant-loop-rep l = l.found.items ≡ flat_map (variants_by l.word) (take l.rep-index l.reps)
