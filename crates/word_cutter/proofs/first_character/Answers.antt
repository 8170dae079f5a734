-- The iterator gives the first character, and keeps what is behind it.
use Rattle.std.proofs.Common.{◌≡◌, ◌++◌, ◌∙◌, length, sym, ap}
use Rattle.std.specs.Prelude.{encode_utf8}
use Rattle.std.specs.Str.{chars}
use Rattle.std.proofs.lemmas.List.{nil_from_length}
use Rattle.std.proofs.lemmas.Str.{chars_past_char, chars-nil}
use Rattle.word_cutter.proofs.first_character.Goals as goal

pub returns-in-Some-clause-some : goal.returns-in-Some-clause-some
returns-in-Some-clause-some c =
    let first = c.in-Some.c in
    let behind = c.as_str.result.now in
    let whole : c.args.text.now ≡ encode_utf8 first ++ behind =
    sym c.chars-left.ensures.rest ∙ c.in-Some.ensures.steps.0
    ∙ ap (λ t. encode_utf8 first ++ t) (sym c.as_str.ensures) in
    (chars_past_char _ behind first c.utf8.text whole, whole)

pub returns-in-None-clause-none : goal.returns-in-None-clause-none
returns-in-None-clause-none c =
    let none = sym c.chars-left.ensures.rest ∙ nil_from_length _ c.in-None.ensures.steps.0.0 in
    (ap chars none ∙ chars-nil, ap length none)
