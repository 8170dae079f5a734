-- The places at one front more are found.
use Rattle.std.proofs.Common.{◌∙◌, refl}
use Rattle.affix_tables.proofs.GatherLemmas.{fronts-more}
use Rattle.affix_tables.proofs.places_at_fronts.Goals as goal

pub loop-count-preserved : goal.loop-count-preserved
loop-count-preserved c =
    c.in_ok-add_places.ensures
    ∙ fronts-more c.args.table.now c.args.word.now c.loop-count.count _ c.loop-count.found.items
    refl c.loop-count.invariant
