-- So far there are those of the rests before the loop's place that the part may stand before.
use Rattle.std.proofs.Common.{◌≡◌, filter, take}
use Rattle.compound_words.specs.Rests.{asked_by, may_precede, picked, rests_at}
use Rattle.compound_words.proofs.rows.followers.Given as goal

abbrev pub invariant-loop-place : goal.invariant-loop-place
invariant-loop-place l =
    rests_at l.found.items ≡ filter (may_precede (asked_by l.search) l.part)
    (picked l.piece.rests.now (take l.place-index l.piece.heads.now))
