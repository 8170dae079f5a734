-- The rest at the loop's place covers it.
use Rattle.std.proofs.Common.{get_or}
use Rattle.compound_words.specs.Rests.{CanStandFor}
use Rattle.compound_words.proofs.HeadLemmas.{looked-at, picked-one}
use Rattle.compound_words.proofs.heads.is_covered.Goals as goal

pub returns-then-covers : goal.returns-then-covers
returns-then-covers c told =
    let rests = c.args.rests.now in
    let at = c.loop-place.place-index in
    let place = get_or c.args.heads.now at 0 in
    picked-one (λ other. CanStandFor other c.args.rest.now) rests c.args.heads.now at c.in-Some.other.now
    c.loop-place-test.true
    (looked-at rests place c.rest_at.result c.in-Some.other c.rest_at.ensures c.in-Some.is)
    (c.covers.ensures c.if-covers.true)
