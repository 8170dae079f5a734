-- Without a buffer nothing is read.
use Rattle.input_lines.proofs.TurnLemmas.{over-before}
use Rattle.input_lines.proofs.reading.answer_lines.Goals as goal

pub returns-in-None-clause-over : goal.returns-in-None-clause-over
returns-in-None-clause-over g c =
    over-before (g.met.R.Responder.starts c.args.responder.now c.args.beside.now)
    (g.S.Source.left c.args.input.now) (g.K.Sink.written c.args.out.now)
