-- One character or one pair more is lowered, until none is left.
use Rattle.std.proofs.Common.{◌∙◌, ◌-◌, [], ◌∷◌, ◌++◌, map, sym, ap, ap₂}
use Rattle.std.specs.List.{flat_map}
use Rattle.spell_types.specs.Cases.{sharp_lowered}
use Rattle.letter_case.specs.Found.{behind_each, with_pair}
use Rattle.letter_case.proofs.SharpLemmas.{nothing-left, pair-step, single-step, some-left}
use Rattle.letter_case.proofs.sharps.lowered_behind.Goals as goal

pub loop-rest-preserved-then-is_pair_next : goal.loop-rest-preserved-then-is_pair_next
loop-rest-preserved-then-is_pair_next c =
    ap₂ (λ made rest. behind_each made (sharp_lowered (c.loop-rest.left - 1) rest))
    (c.in_ok-made.ensures
    ∙ ap (flat_map (with_pair c.low.result c.low-then-is_pair_next.result)) c.deref.ensures.value
    ∙ ap₂ (λ x y. flat_map (with_pair x y) c.loop-rest.made.items)
    c.low.ensures c.low-then-is_pair_next.ensures)
    c.behind-rest.ensures
    ∙ pair-step c.loop-rest.made.items c.loop-rest.left c.loop-rest.rest.now
    (sym c.is_pair_next.ensures ∙ c.if-is_pair_next.true)
    ∙ c.loop-rest.invariant

pub loop-rest-preserved : goal.loop-rest-preserved
loop-rest-preserved c =
    ap₂ (λ made rest. behind_each made (sharp_lowered c.loop-rest.left rest))
    (c.in_ok-push_each.ensures
    ∙ ap (λ x. map (λ front. front ++ x ∷ []) c.loop-rest.made.items)
    c.low-else-is_pair_next.ensures)
    c.behind-rest-else-is_pair_next.ensures
    ∙ single-step c.loop-rest.made.items c.loop-rest.left c.loop-rest.rest.now c.index-rest-0.result
    _
    (some-left c.loop-rest.rest.now (sym c.is_empty.ensures ∙ c.loop-rest-test.true))
    c.index-rest-0.is
    (sym c.is_pair_next.ensures ∙ c.if-is_pair_next.false)
    ∙ c.loop-rest.invariant

pub returns : goal.returns
returns c =
    nothing-left c.loop-rest.made.items c.loop-rest.left c.loop-rest.rest.now
    (sym c.is_empty.ensures ∙ c.loop-rest-test.false)
    ∙ c.loop-rest.invariant
