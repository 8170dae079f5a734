-- One paragraph more is numbered by how many there were.
use Rattle.std.proofs.Common.{◌≡◌, ◌∙◌, ◌+◌, ◌∷◌, [], ◌++◌, ℕ, List, sym, ap, length, arith}
use Rattle.std.proofs.Common.{length-append}
use Rattle.paragraph_text.specs.Paragraphs.{Paragraph, numbered_from}
use Rattle.paragraph_text.proofs.Places.{numbered_more}
use Rattle.paragraph_text.proofs.list.Paragraphs.from_texts.Goals as goal

pub loop-text-preserved : goal.loop-text-preserved
loop-text-preserved c =
    let texts = c.loop-text.yielded in
    let text = c.in-Some.text in
    let one : ℕ → List ℕ → Paragraph = λ id t. record { id = id; rev = 0; text = t } in
    let id : c.len-id.result ≡ 0 + length texts =
    omega (arith, c.len-id.ensures, c.loop-text.invariant.1) in (
      c.in_ok-push.ensures.items
          ∙ ap (λ ps. ps ++ one c.len-id.result c.in_ok-new.field-0.value ∷ [])
          c.loop-text.invariant.0
          ∙ ap (λ n. numbered_from 0 texts ++ one n c.in_ok-new.field-0.value ∷ []) id
          ∙ ap (λ t. numbered_from 0 texts ++ one (0 + length texts) t ∷ []) c.in_ok-new.ensures.ok
          ∙ sym (numbered_more 0 texts text),
      omega (
        arith,
        c.in_ok-push.ensures.len,
        c.loop-text.invariant.1,
        length-append texts (text ∷ []),
      ),
    )
