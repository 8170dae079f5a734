-- One rest more is looked at.
use Rattle.std.proofs.Common.{◌∙◌, ap}
use Rattle.compound_words.specs.Counting.{least_of_two}
use Rattle.compound_words.specs.Rests.{count_of, ByRule}
use Rattle.compound_words.proofs.CountLemmas.{fewest-turn}
use Rattle.compound_words.proofs.rests.fewest_by_step.Goals as goal

pub loop-rest-preserved : goal.loop-rest-preserved
loop-rest-preserved c =
    c.least-found.ensures ∙ ap (least_of_two c.loop-rest.found) c.by_step.ensures
    ∙ fewest-turn
    (λ rest. count_of rest (ByRule c.args.rule c.args.step))
    c.args.rests.now c.loop-rest.rest-index c.rest-item.result c.loop-rest.found
    c.loop-rest-test.true c.rest-item.is c.loop-rest.invariant
