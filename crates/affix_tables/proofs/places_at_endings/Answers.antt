-- The places at one ending more are found.
use Rattle.std.proofs.Common.{◌∙◌, ◌-◌, length}
use Rattle.affix_tables.proofs.GatherLemmas.{endings-more, rest-whole}
use Rattle.affix_tables.proofs.places_at_endings.Goals as goal

pub loop-count-preserved : goal.loop-count-preserved
loop-count-preserved c =
    let word = c.args.word.now in
    let count = c.loop-count.count in
    c.in_ok-add_places.ensures
    ∙ endings-more c.args.table.now word count _ c.loop-count.found.items
    (rest-whole word (length word - count)) c.loop-count.invariant
