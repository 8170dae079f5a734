-- So far there are those with a front before the loop's place.
use Rattle.std.proofs.Common.{◌≡◌, ◌++◌, length, take}
use Rattle.std.specs.List.{flat_map}
use Rattle.compound_words.specs.Pieces.{parts_with}
use Rattle.compound_words.specs.Rests.{asked_by}
use Rattle.compound_words.proofs.pieces.add_kept.Given as goal

abbrev pub invariant-loop-front : goal.invariant-loop-front
invariant-loop-front l = l.found.items
    ≡ l.fn.found.items
    ++ flat_map (λ front. parts_with (asked_by l.search) (length front) l.ending.joint
    (front ++ (l.ending.kept.now ++ l.ending.end.now))) (take l.front-index l.fronts)
