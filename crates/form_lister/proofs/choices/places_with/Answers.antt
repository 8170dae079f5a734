-- The places of the rows with one flag more are there.
use Rattle.std.proofs.Common.{refl, subst, get_or, arith}
use Rattle.std.proofs.lemmas.List.{take_all}
use Rattle.form_lister.specs.Choices.{HasPlaces}
use Rattle.form_lister.proofs.ChoiceLemmas.{places-more}
use Rattle.form_lister.proofs.choices.places_with.Goals as goal

pub loop-flag-preserved : goal.loop-flag-preserved
loop-flag-preserved c = λ rising.
    places-more c.args.rows.now c.rows_with.result.now c.args.flags.now c.loop-flag.flag-index
    (get_or c.args.flags.now c.loop-flag.flag-index (record { 0 = 0 })) (record { 0 = 0 })
    c.loop-flag.allowed.items c.add_places.new.places.items
    (omega arith) refl (c.loop-flag.invariant rising) (c.rows_with.ensures rising)
    c.in_ok-add_places.ensures

pub returns : goal.returns
returns c = λ rising.
    subst (λ flags. HasPlaces c.args.rows.now flags c.loop-flag.allowed.items)
    (take_all c.loop-flag.flag-index c.args.flags.now (omega arith))
    (c.loop-flag.invariant rising)
