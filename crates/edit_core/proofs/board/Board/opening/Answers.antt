-- The board of the texts is an opening board, which is valid.
use Rattle.std.proofs.Common.{◌∙◌, ◌≤◌, ap, subst, length, map}
use Rattle.std.specs.Arc.{arc_value}
use Rattle.std.specs.List.{AllByRecursion}
use Rattle.paragraph_text.specs.Paragraphs.{HasNoBreak}
use Rattle.edit_core.specs.declared.state.State.TheVariants.{Waiting}
use Rattle.edit_core.proofs.Openings.{kept-opening, seen-opening}
use Rattle.edit_core.proofs.board.Board.opening.Goals as goal
use Rattle.paragraph_text.specs.declared.limits.TheConstants.{MOST_BYTES, MOST_PARAGRAPHS}

pub invariant_of-result : goal.invariant_of-result
invariant_of-result g c =
    let texts = c.args.texts.items in
    let passed = c.in_ok-check_texts.ensures in
    let here = c.deref.ensures.value in
    kept-opening g.J.Judge.lexicon (arc_value c.args.judge) texts c.in_ok-from_texts.field-0
    c.in_ok-states.states c.len-count.result
    (subst (λ ts. length ts ≤ MOST_PARAGRAPHS) here passed.few)
    (c.openings_are_valid.ensures texts (subst (λ ts. length ts ≤ MOST_PARAGRAPHS) here passed.few)
    (subst (λ ts. AllByRecursion (λ text. (length text ≤ MOST_BYTES) × HasNoBreak text) ts) here
    passed.each))
    c.in_ok-from_texts.ensures
    (c.in_ok-states.ensures ∙ ap (map (λ _. Waiting)) c.deref-2.ensures.value)
    (c.len-count.ensures ∙ c.args.texts.ok.0)

pub returns-clause-opened : goal.returns-clause-opened
returns-clause-opened g c =
    seen-opening g.J.Judge.lexicon (arc_value c.args.judge) c.args.texts.items
    c.in_ok-from_texts.field-0 c.in_ok-states.states c.len-count.result
    c.in_ok-from_texts.ensures
    (c.in_ok-states.ensures ∙ ap (map (λ _. Waiting)) c.deref-2.ensures.value)
    (c.len-count.ensures ∙ c.args.texts.ok.0)
