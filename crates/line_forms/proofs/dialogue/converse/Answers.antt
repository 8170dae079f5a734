-- Where memory was wanting, nothing was replied.
use Rattle.std.proofs.Common.{◌<◌, ap}
use Rattle.line_forms.proofs.Nothing.{nothing-said}
use Rattle.line_forms.proofs.dialogue.converse.Goals as goal

pub returns-in-Err-clause-over : goal.returns-in-Err-clause-over
returns-in-Err-clause-over g c =
    let files = c.args.files.now in
    let input = c.args.input.now in
    let now = c.converse_named.new in
    nothing-said
    (record {
      workers = c.args.workers;
      dictionary = g.O.Dictionary.seen c.args.dictionary;
      folder = g.F.Files.told files;
      failed = g.F.Files.faults files;
      failed_now = g.F.Files.faults now.files;
    })
    (record {
      before = g.S.Source.left input;
      after = g.S.Source.left now.input;
      faults_before = g.S.Source.faults input;
      faults_after = g.S.Source.faults now.input;
    })
    (g.K.Sink.faults c.args.out.now < g.K.Sink.faults now.out) (g.K.Sink.written c.args.out.now)
    (g.K.Sink.written now.out) c.converse_named.ensures.files_count
    (ap g.K.Sink.written c.in-Err.ensures.silent.2)
