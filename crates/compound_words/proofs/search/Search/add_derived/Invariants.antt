-- So far there are those of the derivations before the loop's place.
use Rattle.std.proofs.Common.{◌≡◌, ◌++◌, filter, map, take}
use Rattle.spell_types.specs.Compounds.{may_be_part, part_with}
use Rattle.compound_words.specs.Rests.{asked_by}
use Rattle.compound_words.proofs.search.Search.add_derived.Given as goal

abbrev pub invariant-loop-d : goal.invariant-loop-d
invariant-loop-d l = l.found.items
    ≡ l.fn.found.items ++ filter (may_be_part (asked_by l.self))
    (map (λ d. part_with l.off_begin l.joint d l.text) (take l.d-index l.derivations))
