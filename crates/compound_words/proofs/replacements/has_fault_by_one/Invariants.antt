-- No pair before the loop's place makes a word that stands alone.
use Rattle.std.proofs.Common.{◌≡◌, false, take}
use Rattle.std.specs.List.{flat_map, list_any}
use Rattle.spell_types.specs.Licences.{is_alone, is_derived}
use Rattle.spell_types.specs.Replacements.{variants_by}
use Rattle.compound_words.proofs.replacements.has_fault_by_one.Given as goal

abbrev pub invariant-loop-rep : goal.invariant-loop-rep
invariant-loop-rep l =
    list_any (is_derived is_alone l.stems)
    (flat_map (variants_by l.word) (take l.rep-index l.reps)) ≡ false
