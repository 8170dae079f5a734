-- The text begins with parentheses, with a character that is a flag, or with no flag.
use Rattle.std.proofs.Common.{◌∙◌, ap, rules, ◌∷◌}
use Rattle.std.proofs.lemmas.Bool.{ne_eqb}
use Rattle.std.proofs.lemmas.Str.{IsUtf8-past_char}
use Rattle.std.specs.Str.{chars}
use Rattle.compound_pattern.proofs.TextLemmas.{begins_enclosed, begins_bare, begins_none, boundary}
use Rattle.compound_pattern.proofs.reading.first_flag.Goals as goal

pub returns-then-first-eq40-clause-begins : goal.returns-then-first-eq40-clause-begins
returns-then-first-eq40-clause-begins c =
    let at = c.in_ok-first in
    begins_enclosed c.args.kind c.args.text.now at.behind.now c.split_once.result
    (IsUtf8-past_char c.args.text.now at.behind.now at.first c.utf8.text at.ensures.encoded)
    (at.ensures.first ∙ ap (λ x. x ∷ chars at.behind.now) c.if-first-eq40.true)
    c.split_once.ensures.cases

pub returns-then-not-is_bare_flag-clause-begins : goal.returns-then-not-is_bare_flag-clause-begins
returns-then-not-is_bare_flag-clause-begins c =
    let at = c.in_ok-first in
    begins_none c.args.kind c.args.text.now at.behind.now at.first
    (ne_eqb at.first 40 c.if-first-eq40.false) (search rules) at.ensures.first

pub split_at-requires : goal.split_at-requires
split_at-requires c =
    let at = c.in_ok-first in
    boundary c.args.text.now at.behind.now at.first c.len_utf8.result
    (IsUtf8-past_char c.args.text.now at.behind.now at.first c.utf8.text at.ensures.encoded)
    at.ensures.encoded c.len_utf8.ensures.len

pub returns-clause-begins : goal.returns-clause-begins
returns-clause-begins c =
    let at = c.in_ok-first in
    begins_bare c.args.kind c.args.text.now c.split_at.result.0.now c.split_at.result.1.now
    at.behind.now at.first c.len_utf8.result
    (ne_eqb at.first 40 c.if-first-eq40.false) (search rules) at.ensures.first at.ensures.encoded
    c.len_utf8.ensures.len c.split_at.ensures.front c.split_at.ensures.back
