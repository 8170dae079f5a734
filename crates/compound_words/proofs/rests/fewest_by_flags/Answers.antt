-- One rest more is looked at.
use Rattle.std.proofs.Common.{◌∙◌}
use Rattle.compound_words.specs.Rests.{count_of, ByFlags}
use Rattle.compound_words.proofs.CountLemmas.{fewest-turn}
use Rattle.compound_words.proofs.rests.fewest_by_flags.Goals as goal

pub loop-rest-preserved : goal.loop-rest-preserved
loop-rest-preserved c =
    c.least-found.ensures
    ∙ fewest-turn
    (λ rest. count_of rest ByFlags)
    c.args.rests.now c.loop-rest.rest-index c.rest-item.result c.loop-rest.found
    c.loop-rest-test.true c.rest-item.is c.loop-rest.invariant
