-- So far there are the two texts of each front before the loop's place.
use Rattle.std.proofs.Common.{◌≡◌, take}
use Rattle.std.specs.List.{flat_map}
use Rattle.letter_case.specs.Found.{with_pair}
use Rattle.letter_case.proofs.sharps.with_pair.Given as goal

abbrev pub invariant-loop-front : goal.invariant-loop-front
invariant-loop-front l = l.made.items ≡ flat_map (with_pair l.c l.d) (take l.front-index l.fronts)
