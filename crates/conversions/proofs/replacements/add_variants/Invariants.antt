-- So far the words for the places before the loop's are added.
use Rattle.std.proofs.Common.{◌≡◌, ◌++◌, map}
use Rattle.std.specs.List.{filter, range_with_len}
use Rattle.spell_types.specs.Replacements.{stands_anchored, replaced_at}
use Rattle.conversions.proofs.replacements.add_variants.Given as goal

abbrev pub invariant-loop-place : goal.invariant-loop-place
invariant-loop-place l =
    l.found.items ≡ l.initial.found.items
    ++ map (replaced_at l.rep l.word)
    (filter (stands_anchored l.rep.from l.word) (range_with_len 0 l.place))
