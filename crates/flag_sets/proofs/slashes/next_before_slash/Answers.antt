-- An escaped slash, the slash, or another character stands first.
use Rattle.std.proofs.lemmas.Option.{MatchOption-at_some}
use Rattle.flag_sets.proofs.SlashLemmas.{first-before, slash-before, goes-on, escaped-before}
use Rattle.flag_sets.proofs.SlashLemmas.{escape-behind}
use Rattle.flag_sets.proofs.slashes.next_before_slash.Goals as goal

pub returns-in-Some-clause-first : goal.returns-in-Some-clause-first
returns-in-Some-clause-first c =
    escaped-before c.args.text.now c.in-Some.rest.now
    (MatchOption-at_some _ _ c.in-Some.rest c.in-Some.is
    (escape-behind c.args.text.now c.strip_prefix.result c.strip_prefix.ensures.cases))

pub returns-then-first-eq47-clause-none : goal.returns-then-first-eq47-clause-none
returns-then-first-eq47-clause-none c =
    slash-before c.args.text.now c.in_ok-first.rest.now c.in_ok-first.first
    c.in_ok-first.ensures.encoded c.if-first-eq47.true

pub returns-clause-first : goal.returns-clause-first
returns-clause-first c =
    first-before c.args.text.now c.in_ok-first.rest.now c.in_ok-first.first c.utf8.text
    c.in_ok-first.ensures.encoded
    c.in_default.ensures.cases c.if-first-eq47.false

pub returns-clause-same : goal.returns-clause-same
returns-clause-same c =
    (goes-on c.args.text.now c.in_ok-first.rest.now c.in_ok-first.first
    c.in_ok-first.ensures.encoded
    c.in_default.ensures.cases c.if-first-eq47.false).1
