-- The dictionary is refused, or the lines are answered by it.
use Rattle.std.proofs.Common.{◌∙◌, [], ap, arith, refl, Err}
use Rattle.outside.specs.Laws.{appends-none}
use Rattle.file_loading.specs.Due.{unextended_due}
use Rattle.line_forms.specs.Forms.{HasPiped, NoneAnswered, Opened, WantingFirst}
use Rattle.line_forms.proofs.DialogueLemmas.{dialogue-caused, dialogue-whole, not-opened}
use Rattle.line_forms.proofs.DialogueLemmas.{not-opened-caused, not-opened-whole, piped-by}
use Rattle.file_loading.specs.DueLaws.{unextended-told}
use Rattle.file_loading.specs.EndLaws.{ends-behind, call-ends-weaker, goes-on}
use Rattle.line_forms.proofs.pipe.pipe.Goals as goal

-- ---- the lines are answered

pub returns-in-Ok-open-clause-due : goal.returns-in-Ok-open-clause-due
returns-in-Ok-open-clause-due g c =
    let opened = c.in-Ok.ensures in
    let lexicon = ap (λ pipe. pipe.lexicon) c.in-Ok-open.ensures ∙ c.deref.ensures in
    call-ends-weaker (λ failed. failed) (λ text due is. record {
      answer = Opened opened.due.0 _ opened.due.1 opened.due.2 (piped-by lexicon is);
      caused = dialogue-caused is;
      input = tt;
      files = tt;
    }) c.answer_input.ensures.dialogue

pub returns-in-Ok-open-clause-complete : goal.returns-in-Ok-open-clause-complete
returns-in-Ok-open-clause-complete g c = λ same.
    let opened = c.in-Ok.ensures in
    let lexicon = ap (λ pipe. pipe.lexicon) c.in-Ok-open.ensures ∙ c.deref.ensures in
    call-ends-weaker (λ failed. omega (arith, failed, same))
    (λ text due is. λ other fit first reads.
    dialogue-whole unextended_due HasPiped c.fitting_inputs_are_read.ensures
    (λ line ends. absurd (cc)) opened.due (piped-by lexicon is) other fit reads)
    c.answer_input.ensures.dialogue

-- ---- there is no memory to answer any

pub returns-in-Ok-clause-due : goal.returns-in-Ok-clause-due
returns-in-Ok-clause-due g c =
    ends-behind [] _ (λ failed. failed) (appends-none (g.K.Sink.written c.args.out.now)) (record {
      answer = WantingFirst refl refl (record { same = refl; count = refl });
      caused = goes-on refl (λ is. absurd (cc));
      input = tt;
      files = tt;
    }) c.put_end.ensures.puts

pub returns-in-Ok-clause-complete : goal.returns-in-Ok-clause-complete
returns-in-Ok-clause-complete g c = λ same.
    ends-behind [] _ (λ failed. omega (arith, failed, same))
    (appends-none (g.K.Sink.written c.args.out.now))
    (λ opened fit first reads. NoneAnswered refl refl) c.put_end.ensures.puts

-- ---- the dictionary is refused

pub returns-clause-due : goal.returns-clause-due
returns-clause-due g c =
    let fails = c.in-Err.ensures in
    ends-behind [] _ (λ failed. failed) (appends-none (g.K.Sink.written c.args.out.now)) (record {
      answer = not-opened fails.due (record { same = refl; count = refl });
      caused = not-opened-caused c.args.names unextended_due unextended-told fails.due
          (λ is. fails.failed (ap Err is));
      input = tt;
      files = tt;
    }) c.put_end-in-Err.ensures.puts

pub returns-clause-complete : goal.returns-clause-complete
returns-clause-complete g c = λ same.
    let fails = c.in-Err.ensures in
    ends-behind [] _ (λ failed. omega (arith, failed, same))
    (appends-none (g.K.Sink.written c.args.out.now))
    (λ opened fit first reads.
    not-opened-whole unextended_due HasPiped fails.due (λ is. fails.failed (ap Err is))
    (record { same = refl; count = refl }) opened fit first)
    c.put_end-in-Err.ensures.puts
