-- Where no step stands for the flags there is no number.
use Rattle.std.proofs.Common.{◌∙◌, sym, ap}
use Rattle.compound_words.specs.Rests.{numbers_at}
use Rattle.compound_words.proofs.NumberLemmas.{by-no-step}
use Rattle.compound_words.proofs.rests.numbers_by_flags.Goals as goal

pub returns-then-not-has_rule_for : goal.returns-then-not-has_rule_for
returns-then-not-has_rule_for c = λ rule step.
    ap (λ numbers. numbers_at numbers rule step) c.new-numbers.ensures
    ∙ sym (by-no-step c.args.flags.now c.args.rules.now c.args.behind.now rule step
    (sym c.has_rule_for.ensures ∙ c.if-not-has_rule_for.true))
