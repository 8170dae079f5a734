-- Each place is done in turn.
use Rattle.std.proofs.Common.{◌+◌, ◌<◌, length, arith}
use Rattle.compound_pattern.proofs.StateLemmas.{same_going, advanced_end, advanced_more}
use Rattle.compound_pattern.proofs.StateLemmas.{advanced_all, advanced_tell}
use Rattle.compound_pattern.proofs.running.advance_along.Goals as goal
use Rattle.compound_pattern.proofs.running.advance_along.Goals.{in-None, in-Some}

pub loop-place-preserved : goal.loop-place-preserved
loop-place-preserved c =
    let l = c.loop-place in
    let steps = c.args.steps.now in
    let flags = c.args.flags.now in
    let first = c.args.states.now in
    let within : l.place < length l.states = omega (arith, c.loop-place-test.true, l.auto.states) in
    elim c.match-get.branch [
      | in-None w ↦
          same_going steps flags first (l.place + 1) _ _ _ _ _ _ w.passes-is w.arrives-is
          w.states-is
          (advanced_end steps flags first l.states l.place l.passes l.arrives
          w.in-None.ensures.lookup.3 within l.invariant)
      | in-Some w ↦
          same_going steps flags first (l.place + 1) _ _ _ _ _ _ w.passes-is w.arrives-is
          w.states-is
          (advanced_more steps flags first l.states l.place l.passes l.arrives w.in-Some.step.now
          w.takes_from-takes.result w.is_many.result w.is_left_out.result
          w.in-Some.ensures.lookup.3.0 w.in-Some.ensures.lookup.1 within w.takes_from-takes.ensures
          w.is_many.ensures w.is_left_out.ensures l.invariant)
    ]

pub returns : goal.returns
returns c = λ size.
    let l = c.loop-place in
    advanced_tell c.patterns_match.ensures.one_by_one c.args.steps.now c.args.flags.now
    c.args.states.now l.states
    (advanced_all c.args.steps.now c.args.flags.now c.args.states.now l.states l.place l.passes
    l.arrives (omega (arith, c.loop-place-test.false, l.auto.states)) l.invariant) size
