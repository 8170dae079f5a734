-- The iterator cuts off the first character of a text.
use Rattle.std.proofs.Common.{◌∙◌, ap, sym, ◌++◌}
use Rattle.std.proofs.lemmas.Str.{chars_past_char}
use lib.Utf8.{encode}
use Rattle.positions.proofs.walk.first_of.Goals as goal

pub returns-clause-first : goal.returns-clause-first
returns-clause-first c =
    chars_past_char c.args.text.now c.as_str.result.now c.in_ok-first.first c.utf8.text
    (sym c.chars-characters.ensures.rest ∙ c.in_ok-first.ensures.steps.0
    ∙ ap (λ rest. encode c.in_ok-first.first ++ rest) (sym c.as_str.ensures))
