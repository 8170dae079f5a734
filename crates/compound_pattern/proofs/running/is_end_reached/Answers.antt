-- All places are looked at.
use Rattle.std.proofs.Common.{◌∙◌}
use Rattle.compound_pattern.proofs.StateLemmas.{ended_all, ended_tell}
use Rattle.compound_pattern.proofs.running.is_end_reached.Goals as goal

pub returns : goal.returns
returns c = λ size.
    let l = c.loop-place in
    ended_all c.args.steps.now l.reached c.args.states.now l.place c.loop-place-test.false
    ∙ l.invariant ∙ ended_tell c.patterns_match.ensures.one_by_one c.args.steps.now
    c.args.states.now size
