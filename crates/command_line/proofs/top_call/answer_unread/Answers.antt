-- Of words of no form nothing is whole.
use Rattle.std.proofs.Common.{None}
use Rattle.command_line.proofs.top_call.answer_unread.Goals as goal

pub returns-in-Some-Edit-clause-complete : goal.returns-in-Some-Edit-clause-complete
returns-in-Some-Edit-clause-complete g c = λ reading same.
    rw (c.in-Some-Edit.is, c.in-Some-Edit.field-0-is) (c.tell_words.ensures.complete (record {
      folder = g.F.Files.told c.args.files.now;
      files_before = g.F.Files.faults c.args.files.now;
      files_after = g.F.Files.faults c.args.files.now;
      reading = reading;
      closed = None;
    }) same)

pub returns-in-Some-Pipe-clause-complete : goal.returns-in-Some-Pipe-clause-complete
returns-in-Some-Pipe-clause-complete g c = λ reading same.
    rw (c.in-Some-Pipe.is, c.in-Some-Pipe.field-0-is)
    (c.tell_words-in-Some-Pipe.ensures.complete (record {
      folder = g.F.Files.told c.args.files.now;
      files_before = g.F.Files.faults c.args.files.now;
      files_after = g.F.Files.faults c.args.files.now;
      reading = reading;
      closed = None;
    }) same)

pub returns-in-Some-Team-clause-complete : goal.returns-in-Some-Team-clause-complete
returns-in-Some-Team-clause-complete g c = λ reading same.
    rw (c.in-Some-Team.is, c.in-Some-Team.field-0-is)
    (c.tell_words-in-Some-Team.ensures.complete (record {
      folder = g.F.Files.told c.args.files.now;
      files_before = g.F.Files.faults c.args.files.now;
      files_after = g.F.Files.faults c.args.files.now;
      reading = reading;
      closed = None;
    }) same)

pub returns-in-None-clause-complete : goal.returns-in-None-clause-complete
returns-in-None-clause-complete g c = λ reading same.
    rw c.in-None.is (c.tell_words-in-None.ensures.complete (record {
      folder = g.F.Files.told c.args.files.now;
      files_before = g.F.Files.faults c.args.files.now;
      files_after = g.F.Files.faults c.args.files.now;
      reading = reading;
      closed = None;
    }) same)
