-- At the end nothing is left before the slash.
use Rattle.std.proofs.Common.{◌∙◌, sym, ap, ◌++◌, lit<}
use Rattle.std.specs.Str.{chars}
use Rattle.std.proofs.lemmas.List.{append-nil}
use Rattle.std.proofs.lemmas.Str.{chars-nil}
use Rattle.std.proofs.lemmas.Str.Pattern.{strip_prefix_char}
use Rattle.flag_sets.proofs.SlashLemmas.{nothing-before}
use Rattle.flag_sets.proofs.slashes.with_text_before_slash.Goals as goal

pub returns-clause-word : goal.returns-clause-word
returns-clause-word c =
    c.from_vec.ensures
    ∙ sym (append-nil c.loop-character.longer.items)
    ∙ ap (λ cs. c.loop-character.longer.items ++ cs)
    (sym (ap chars c.in_default.ensures.none ∙ chars-nil))
    ∙ c.loop-character.invariant.1

pub returns-clause-behind : goal.returns-clause-behind
returns-clause-behind c =
    nothing-before c.loop-character.rest.now c.strip_prefix.result c.in_default.ensures.none
    (strip_prefix_char 47 c.loop-character.rest.now c.strip_prefix.result
    c.strip_prefix.ensures.cases (lit< tt))
    ∙ c.loop-character.invariant.2
