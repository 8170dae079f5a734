-- Nothing is left before the slash.
use Rattle.std.proofs.Common.{◌∙◌, sym, ap, ◌++◌, lit<}
use Rattle.std.specs.Str.{chars}
use Rattle.std.proofs.lemmas.List.{append-nil}
use Rattle.std.proofs.lemmas.Str.{chars-nil}
use Rattle.std.proofs.lemmas.Str.Pattern.{strip_prefix_char}
use Rattle.flag_sets.proofs.SlashLemmas.{more-before, nothing-before}
use Rattle.flag_sets.proofs.slashes.split_plain.Goals as goal

pub returns-in-Some-clause-none : goal.returns-in-Some-clause-none
returns-in-Some-clause-none c =
    more-before c.args.text.now c.plain_front.result.0.now c.plain_front.result.1.now _ _
    c.plain_front.ensures.front c.plain_front.ensures.parts c.in-Some.ensures.first

pub returns-in-None-clause-word : goal.returns-in-None-clause-word
returns-in-None-clause-word c =
    let plain = chars c.plain_front.result.0.now in
    sym (c.plain_front.ensures.before
    ∙ ap (λ rest. plain ++ chars rest) c.in-None.ensures.none
    ∙ ap (λ cs. plain ++ cs) chars-nil
    ∙ append-nil plain)

pub returns-in-None-clause-behind : goal.returns-in-None-clause-behind
returns-in-None-clause-behind c =
    let rest = c.plain_front.result.1.now in
    nothing-before rest c.strip_prefix.result c.in-None.ensures.none
    (strip_prefix_char 47 rest c.strip_prefix.result c.strip_prefix.ensures.cases (lit< tt))
    ∙ sym c.plain_front.ensures.behind
