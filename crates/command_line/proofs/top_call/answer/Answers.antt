-- Of words of no form nothing is whole.
use Rattle.std.proofs.Common.{None}
use Rattle.command_line.proofs.top_call.answer.Goals as goal

pub returns-in-None-clause-complete : goal.returns-in-None-clause-complete
returns-in-None-clause-complete g c =
    λ same. rw (c.in-None.is, c.told-in-None.ensures.closed, c.told-in-None.ensures.status)
    (c.tell_words.ensures.complete (record {
      folder = g.F.Files.told c.args.files.now;
      files_before = g.F.Files.faults c.args.files.now;
      files_after = g.F.Files.faults c.args.files.now;
      reading = record {
        before = g.S.Source.left c.args.input.now;
        after = g.S.Source.left c.args.input.now;
        faults_before = g.S.Source.faults c.args.input.now;
        faults_after = g.S.Source.faults c.args.input.now;
      };
      closed = None;
    }) same)
