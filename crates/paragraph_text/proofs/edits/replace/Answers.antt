-- The text of the paragraph at the place is changed.
use Rattle.std.proofs.Common.{◌≡◌, ◌∙◌, ap, subst}
use Rattle.paragraph_text.specs.Edits.{IsSpliced}
use Rattle.paragraph_text.proofs.Decided.{replaces-at}
use Rattle.paragraph_text.proofs.edits.replace.Goals as goal

pub returns-clause-applied : goal.returns-clause-applied
returns-clause-applied c =
    let old = c.in_ok-place.old.now in
    let found = c.in_ok-place.ensures.found in
    let text : c.as_str.result.now ≡ old.text =
    c.as_str.ensures.text ∙ c.deref.ensures ∙ ap (λ p. p.text) c.old.view_is in
    replaces-at c.args.version c.args.named.rev found.0 found.1
    (subst (λ t. IsSpliced t c.args.span.from c.args.span.to c.args.put.now c.in_ok-text.text.value)
    text c.in_ok-text.ensures.made)
    c.in_ok-replaced.ensures
