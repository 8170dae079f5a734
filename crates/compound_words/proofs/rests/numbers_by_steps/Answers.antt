-- Where no step stands for the flags there is no number.
use Rattle.std.proofs.Common.{◌∙◌, sym, ap, drop, option_and_then}
use Rattle.compound_words.specs.Counting.{number_at}
use Rattle.compound_words.specs.Rests.{number_behind, number_by_steps, ByRule}
use Rattle.compound_words.proofs.StepLemmas.{no-step-from}
use Rattle.compound_words.proofs.rests.numbers_by_steps.Goals as goal

pub returns-then-not-has_step_for : goal.returns-then-not-has_step_for
returns-then-not-has_step_for c rules found step =
    ap (λ n. number_at n step) c.new.ensures
    ∙ sym (ap (option_and_then
    (λ pattern. number_by_steps c.args.flags.now
    (λ j. number_behind rules c.args.behind.now (ByRule c.args.rule j))
    (drop step pattern) step)) found
    ∙ no-step-from c.args.flags.now
    (λ j. number_behind rules c.args.behind.now (ByRule c.args.rule j)) c.args.steps.now step
    (sym c.has_step_for.ensures ∙ c.if-not-has_step_for.true))
