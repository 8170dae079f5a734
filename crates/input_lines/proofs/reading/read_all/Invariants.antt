-- What was taken by now was heard.
use Rattle.std.proofs.Common.{◌≤◌, ◌+◌, ◌-◌}
use Rattle.input_lines.specs.Turns.{AreBytesTaken, Since, channel}
use Rattle.input_lines.proofs.reading.read_all.Given as goal
use Rattle.input_lines.specs.declared.limits.TheConstants.{INPUT_LIMIT}

abbrev pub invariant-loop-taken : goal.invariant-loop-taken
invariant-loop-taken g l = record {
  few : l.taken ≤ INPUT_LIMIT;
  room : INPUT_LIMIT + 1 ≤ g.R.Responder.room l.responder + l.taken;
  by_now : AreBytesTaken g.R.Responder.quits
      (Since g.R.Responder.Leads (l.fn.responder, l.fn.beside) (l.responder, l.beside))
      (channel (g.K.Sink.written l.fn.out) (g.K.Sink.faults l.fn.out))
      (channel (g.K.Sink.written l.out) (g.K.Sink.faults l.out)) l.listener
      (channel (g.S.Source.left l.fn.input) (g.S.Source.faults l.fn.input))
      (channel (g.S.Source.left l.input) (g.S.Source.faults l.input)) l.taken;
}

abbrev pub decreases-loop-taken : goal.decreases-loop-taken
decreases-loop-taken g l = INPUT_LIMIT - l.taken
