-- A front of the piece was heard.
use Rattle.std.proofs.Common.{◌≤◌, ◌+◌, length}
use Rattle.input_lines.specs.Answers.{HasNoBreak}
use Rattle.input_lines.specs.Turns.{channel, midway}
use Rattle.input_lines.proofs.TurnLemmas.{GoesOn}
use Rattle.input_lines.proofs.listener.Listener.hear_lines.Given as goal

abbrev pub invariant-loop-bytes : goal.invariant-loop-bytes
invariant-loop-bytes g l = record {
  no_more : HasNoBreak l.self.pending.items;
  room : g.R.Responder.room l.fn.responder + length l.rest ≤ g.R.Responder.room l.responder
      + length l.piece;
  count : g.K.Sink.faults l.fn.out ≤ g.K.Sink.faults l.out;
  so_far : GoesOn g.R.Responder.quits g.R.Responder.Leads
      (midway (l.fn.responder, l.fn.beside)
      (channel (g.K.Sink.written l.fn.out) (g.K.Sink.faults l.fn.out)) l.fn.self)
      (midway (l.responder, l.beside) (channel (g.K.Sink.written l.out) (g.K.Sink.faults l.out))
      l.self) l.piece l.rest;
}

abbrev pub decreases-loop-bytes : goal.decreases-loop-bytes
decreases-loop-bytes g l = length l.rest
