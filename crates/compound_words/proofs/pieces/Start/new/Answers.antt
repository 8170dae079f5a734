-- The fronts are gathered row by row.
use Rattle.std.proofs.Common.{◌≡◌, ◌∙◌, ◌+◌, ◌<◌, ◌≤◌, ◌++◌, get_or, [], ◌∷◌, length, ap₂, sym}
use Rattle.std.proofs.Common.{subst}
use Rattle.compound_words.proofs.FrontLemmas.{AreFrontsSoFar, fronts-none, fronts-turn}
use Rattle.compound_words.proofs.FrontLemmas.{fronts-whole}
use Rattle.compound_words.proofs.pieces.Start.new.Goals as goal

pub loop-row-init : goal.loop-row-init
loop-row-init c =
    fronts-none c.args.before.now c.args.lexicon.now.affixes.joints c.push.new.self.items
    (c.in_ok-push.ensures.items
    ∙ ap₂ (λ xs x. xs ++ x ∷ []) c.new-fronts.ensures.items c.new.ensures)

pub loop-row-preserved : goal.loop-row-preserved
loop-row-preserved c =
    let rows = c.args.lexicon.now.affixes.joints in
    let index = c.loop-row.row-index in
    let row = c.row-item.result in
    subst (AreFrontsSoFar c.args.before.now rows (index + 1)) (sym c.in_ok-add_front.ensures)
    (fronts-turn c.args.before.now rows index row
    (subst (λ those. index < length those) c.as_slice-row-items.ensures c.loop-row-test.true)
    (subst (λ those. row ≡ get_or those index row) c.as_slice-row-items.ensures c.row-item.is)
    c.loop-row.fronts.items c.loop-row.invariant)

pub returns-clause-fronts : goal.returns-clause-fronts
returns-clause-fronts c =
    fronts-whole c.args.lexicon.now c.args.before.now c.loop-row.row-index c.loop-row.fronts.items
    (subst (λ rows. length rows ≤ c.loop-row.row-index) c.as_slice-row-items.ensures
    c.loop-row-test.false)
    c.loop-row.invariant
