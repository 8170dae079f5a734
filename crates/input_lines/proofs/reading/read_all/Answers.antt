-- Each turn goes on from what was heard before.
use Rattle.std.proofs.Common.{◌≡◌, ◌≤◌, ◌+◌, arith, length, take, length-take}
use Rattle.input_lines.proofs.TurnLemmas.{taken-none}
use Rattle.input_lines.proofs.reading.read_all.Goals as goal
use Rattle.input_lines.specs.declared.limits.TheConstants.{INPUT_LIMIT}

pub loop-taken-init : goal.loop-taken-init
loop-taken-init g c =
    let new = c.new-listener.ensures in record {
      few = omega arith;
      room = omega (arith, c.requires.room);
      by_now = taken-none (g.met.R.Responder.starts c.args.responder.now c.args.beside.now)
          new.pending new.first new.answers;
    }

pub loop-taken-preserved : goal.loop-taken-preserved
loop-taken-preserved g c =
    let l = c.loop-taken in
    let turn = c.in-Ok.ensures in
    let short : l.taken + length (take c.min-room.result l.buffer) ≤ INPUT_LIMIT =
    omega (
      arith,
      length-take c.min-room.result l.buffer,
      c.min-room.ensures,
      c.loop-taken-test.true,
    ) in
    record {
      few = omega (arith, turn.few, short);
      room = omega (arith, l.invariant.room, turn.room);
      by_now = turn.comes _ _ _ l.taken short l.invariant.by_now;
    }

pub returns-in-Err-clause-over : goal.returns-in-Err-clause-over
returns-in-Err-clause-over g c =
    let l = c.loop-taken in
    c.in-Err.ensures.comes (c.args.responder.now, c.args.beside.now) _ _ l.taken
    (omega (
      arith,
      length-take c.min-room.result l.buffer,
      c.min-room.ensures,
      c.loop-taken-test.true,
    )) l.invariant.by_now

pub returns-clause-over : goal.returns-clause-over
returns-clause-over g c =
    let l = c.loop-taken in
    let full : l.taken ≡ INPUT_LIMIT = omega (arith, c.loop-taken-test.false, l.invariant.few) in
    c.end_at_limit.ensures.over (c.args.responder.now, c.args.beside.now) _ _
    (rw full at l.invariant.by_now)
