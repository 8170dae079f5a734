-- So far there are those of the rows before the loop's place.
use Rattle.std.proofs.Common.{◌≡◌, ◌++◌, take}
use Rattle.std.specs.List.{flat_map}
use Rattle.compound_words.specs.Pieces.{parts_replaced}
use Rattle.compound_words.specs.Rests.{asked_by}
use Rattle.compound_words.proofs.pieces.add_replaced.Given as goal

abbrev pub invariant-loop-row : goal.invariant-loop-row
invariant-loop-row l = l.found.items
    ≡ l.fn.found.items ++ flat_map
    (parts_replaced (asked_by l.search) l.piece.start.now.fronts.items l.piece.text.now
    l.piece.rests.now)
    (take l.row-index l.search.stems.now.affixes.joints)
