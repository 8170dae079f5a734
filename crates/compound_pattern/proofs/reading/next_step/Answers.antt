-- The flag, its sign and its step.
use Rattle.std.proofs.Common.{rules}
use Rattle.compound_pattern.proofs.TextLemmas.{goes_on}
use Rattle.compound_pattern.proofs.reading.next_step.Goals as goal

pub returns-clause-goes_on : goal.returns-clause-goes_on
returns-clause-goes_on c =
    goes_on c.args.kind c.args.text.now c.in_ok-own.own.now c.in_ok-own.behind.now
    c.times_before-times.result.1.now c.times_before-times.result.0 c.map-step.result
    c.in_ok-own.ensures.begins c.times_before-times.ensures.times c.times_before-times.ensures.rest
    (search rules)
