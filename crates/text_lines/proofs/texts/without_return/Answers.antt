-- A carriage return at the end is dropped, and nothing else.
use Rattle.std.proofs.Common.{◌≡◌, ◌≢◌, ◌∙◌, ℕ, List, ◌∷◌, ◌++◌, [], Option, Some, None, Bor}
use Rattle.std.proofs.Common.{unwrap_or, ap, lit<}
use Rattle.std.specs.Option.{MatchOption}
use Rattle.std.specs.Str.Lines.{strip_carriage_return}
use Rattle.std.proofs.lemmas.Str.Pattern.{strip_suffix_char}
use Rattle.text_lines.proofs.TextLemmas.{strip-none, strip-some}
use Rattle.text_lines.proofs.texts.without_return.Goals as goal

stripped-by : (line : Bor (List ℕ)) (found : Option (Bor (List ℕ)))
    → MatchOption found ((front : List ℕ) → line.now ≢ front ++ (13 ∷ []))
    (λ x. line.now ≡ x.now ++ (13 ∷ []))
    → (unwrap_or found line).now ≡ strip_carriage_return line.now
stripped-by line None is = strip-none line.now is
stripped-by line (Some text) is = strip-some line.now text.now is

pub returns : goal.returns
returns c = ap (λ x. x.now) c.unwrap_or.ensures
    ∙ stripped-by c.args.line c.strip_suffix.result
    (strip_suffix_char 13 c.args.line.now c.strip_suffix.result c.strip_suffix.ensures.cases
    (lit< tt))
