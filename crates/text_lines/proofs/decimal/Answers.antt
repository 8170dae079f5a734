-- A plus is told by `starts_with`, and the rest by `parse`.
use Rattle.std.proofs.Common.{◌∙◌, lit<, sym, true≢false}
use Rattle.std.proofs.lemmas.Str.Pattern.{starts_char}
use Rattle.text_lines.proofs.FieldLemmas.{parses_decimal, plus_is_no_decimal}
use Rattle.text_lines.proofs.decimal.Goals as goal

pub returns-then-starts_with : goal.returns-then-starts_with
returns-then-starts_with c =
    plus_is_no_decimal c.args.text.now
    ((starts_char 43 c.args.text.now c.starts_with.result c.starts_with.ensures.cases (lit< tt)
    (lit< tt)).0 c.if-starts_with.true)

pub returns : goal.returns
returns c =
    let plus = starts_char 43 c.args.text.now c.starts_with.result c.starts_with.ensures.cases
    (lit< tt) (lit< tt) in
    c.ok.ensures.value ∙ parses_decimal c.args.text.now c.parse.result c.parse.ensures.value.0
    (λ is. true≢false (sym (plus.1 is) ∙ c.if-starts_with.false))
