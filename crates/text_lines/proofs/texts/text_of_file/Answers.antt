-- A text has no bad line, and bytes that are no text have one.
use Rattle.std.proofs.Common.{◌≡◌, ◌∙◌, ℕ, ap, sym, refl, Option, Some, None}
use Rattle.std.specs.Option.{IsSome}
use Rattle.text_lines.specs.Texts.{texts_in}
use Rattle.text_lines.proofs.TextLemmas.{text-good, text-bad, texts-are}
use Rattle.text_lines.proofs.texts.text_of_file.Goals as goal

some-of : (found : Option ℕ) → (found ≡ None → ⊥) → IsSome found
some-of None not_none = absurd (not_none refl)
some-of (Some line) not_none = refl

pub unwrap-requires : goal.unwrap-requires
unwrap-requires c =
    some-of c.bad_line.result
    (λ none. c.in-Err.ensures.cases.0
    (text-bad c.args.bytes.now c.without_mark.result.now c.without_mark.ensures
    (sym c.bad_line.ensures ∙ none)))

pub returns-in-Ok-clause-good : goal.returns-in-Ok-clause-good
returns-in-Ok-clause-good c =
    text-good c.args.bytes.now c.without_mark.result.now c.without_mark.ensures
    c.in-Ok.ensures.cases.1

pub returns-in-Ok-clause-lines : goal.returns-in-Ok-clause-lines
returns-in-Ok-clause-lines c =
    ap texts_in c.in-Ok.ensures.cases.0
    ∙ texts-are c.args.bytes.now c.without_mark.result.now c.without_mark.ensures
