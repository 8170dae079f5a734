-- No word for a place before the loop's stands alone.
use Rattle.std.proofs.Common.{◌≡◌, false, map}
use Rattle.std.specs.List.{filter, list_any, range_with_len}
use Rattle.spell_types.specs.Licences.{is_alone, is_derived}
use Rattle.spell_types.specs.Replacements.{stands_anchored, replaced_at}
use Rattle.compound_words.proofs.replacements.has_fault_by.Given as goal

abbrev pub invariant-loop-place : goal.invariant-loop-place
invariant-loop-place l =
    list_any (is_derived is_alone l.stems)
    (map (replaced_at l.rep l.word)
    (filter (stands_anchored l.rep.from l.word) (range_with_len 0 l.place))) ≡ false
