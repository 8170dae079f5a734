-- So far it is the least number of the rests before the loop's place.
use Rattle.std.proofs.Common.{◌≡◌, map, take}
use Rattle.compound_words.specs.Counting.{fewest}
use Rattle.compound_words.specs.Rests.{count_of, rests_at, ByFlags}
use Rattle.compound_words.proofs.rests.fewest_by_flags.Given as goal

abbrev pub invariant-loop-rest : goal.invariant-loop-rest
invariant-loop-rest l =
    l.found ≡ fewest (map (λ rest. count_of rest ByFlags) (rests_at (take l.rest-index l.rests)))
