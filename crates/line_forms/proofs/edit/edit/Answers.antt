-- The dictionary is refused, or the dialogue is that of a console that opens with it.
use Rattle.std.proofs.Common.{[], ap, arith, refl, sym, Err}
use Rattle.outside.specs.Laws.{appends-none}
use Rattle.file_loading.specs.Due.{dictionary_due}
use Rattle.line_forms.specs.Forms.{HasReplied, Opened}
use Rattle.line_forms.proofs.DialogueLemmas.{dialogue-caused, dialogue-whole, not-opened}
use Rattle.line_forms.proofs.DialogueLemmas.{not-opened-caused, not-opened-whole}
use Rattle.file_loading.specs.DueLaws.{dictionary-told}
use Rattle.file_loading.specs.EndLaws.{ends-behind, call-ends-weaker}
use Rattle.line_forms.proofs.edit.edit.Goals as goal

pub returns-in-Ok-clause-due : goal.returns-in-Ok-clause-due
returns-in-Ok-clause-due g c =
    let opened = c.in-Ok.ensures in
    let counted = opened.count in
    call-ends-weaker (λ failed. failed) (λ text due is. record {
      answer = Opened opened.due.0 _ opened.due.1 opened.due.2 is;
      caused = dialogue-caused is;
      input = tt;
      files = tt;
    })
    (c.talk.ensures.dialogue (g.F.Files.told c.args.files.now)
    (g.F.Files.faults c.args.files.now) (sym opened.same) counted)

pub returns-in-Ok-clause-complete : goal.returns-in-Ok-clause-complete
returns-in-Ok-clause-complete g c = λ same.
    let opened = c.in-Ok.ensures in
    let counted = opened.count in
    call-ends-weaker (λ failed. omega (arith, failed, same))
    (λ text due is. λ other fit first reads.
    dialogue-whole dictionary_due (HasReplied c.args.workers)
    c.fitting_inputs_are_read.ensures c.quits_are_short.ensures opened.due is other fit reads)
    (c.talk.ensures.dialogue (g.F.Files.told c.args.files.now)
    (g.F.Files.faults c.args.files.now) (sym opened.same) counted)

pub returns-in-Err-clause-due : goal.returns-in-Err-clause-due
returns-in-Err-clause-due g c =
    let fails = c.in-Err.ensures in
    ends-behind [] _ (λ failed. failed) (appends-none (g.K.Sink.written c.args.out.now)) (record {
      answer = not-opened fails.due (record { same = refl; count = refl });
      caused = not-opened-caused c.args.names dictionary_due dictionary-told fails.due (λ is. fails.failed (ap Err is));
      input = tt;
      files = tt;
    }) c.put_end.ensures.puts

pub returns-in-Err-clause-complete : goal.returns-in-Err-clause-complete
returns-in-Err-clause-complete g c = λ same.
    let fails = c.in-Err.ensures in
    ends-behind [] _ (λ failed. omega (arith, failed, same))
    (appends-none (g.K.Sink.written c.args.out.now))
    (λ opened fit first reads.
    not-opened-whole dictionary_due (HasReplied c.args.workers) fails.due (λ is. fails.failed (ap Err is))
    (record { same = refl; count = refl }) opened fit first)
    c.put_end.ensures.puts
