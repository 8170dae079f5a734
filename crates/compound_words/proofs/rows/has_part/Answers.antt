-- The rest at the loop's place begins with the part.
use Rattle.std.proofs.Common.{◌≡◌}
use Rattle.compound_words.proofs.AddLemmas.{one-at}
use Rattle.compound_words.proofs.rows.has_part.Goals as goal

pub returns-then-is_same_part : goal.returns-then-is_same_part
returns-then-is_same_part c told =
    one-at (λ rest. rest.part ≡ c.args.part.now) c.args.rests.now c.loop-place.place
    c.index-rests-place.result
    c.loop-place-test.true (c.is_same_part.ensures c.if-is_same_part.true)
