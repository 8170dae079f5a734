-- Each step gives what is due.
use Rattle.std.proofs.Common.{◌≡◌, inl, subst, arith, Some, Ok}
use Rattle.std.specs.Arc.{arc_value}
use Rattle.outside.specs.lists.AnswerLaws.{fails-then, gives-fault, gives-then}
use Rattle.outside.specs.lists.Answers.{FailsAs, GivesDue}
use Rattle.outside.specs.Memory.{file_of}
use Rattle.document_report.specs.Given.{printed_by}
use Rattle.document_report.specs.Reports.{summary_of}
use Rattle.work_maker.specs.Made.{text_bytes}
use Rattle.file_loading.specs.Due.{MayCome, in_force_due}
use Rattle.report_forms.specs.Due.{checked_due, make_due, printed_due}
use Rattle.report_forms.specs.Operands.{StartAndSize}
use Rattle.file_loading.specs.declared.failure.Failure.TheVariants.{NoMemory}
use Rattle.report_forms.proofs.DueLemmas.{bytes-made}
use Rattle.report_forms.proofs.MadeLemmas.{made-there}
use Rattle.report_forms.proofs.make.outcome_of.Goals as goal

pub returns-in_err-judge-clause-due : goal.returns-in_err-judge-clause-due
unfolding checked_due
returns-in_err-judge-clause-due g c =
    let there = c.in_err-judge.ensures.due in
    let result = c.from_residual-in_err-judge.result in
    let told = Some (file_of c.in_ok-files.files.files.items) in
    let made = made-there c.making.inside.size told c.in_ok-files.ensures there.1 in
    subst (λ (asked : StartAndSize). GivesDue MayCome printed_by (make_due asked) result)
    c.making.view_is (gives-fault MayCome printed_by result (fails-then MayCome _
    (subst (λ there. FailsAs MayCome (in_force_due there) c.in_err-judge.field-0.0) made there.2))
    c.from_residual-in_err-judge.ensures.1)

pub returns-in_err-text-clause-due : goal.returns-in_err-text-clause-due
returns-in_err-text-clause-due g c =
    gives-fault MayCome {fault = NoMemory} printed_by c.from_residual-in_err-text.result (inl tt)
    c.from_residual-in_err-text.ensures.1

pub returns-clause-due : goal.returns-clause-due
unfolding checked_due
returns-clause-due g c =
    let there = c.in_ok-judge.ensures.due in
    let small = c.in_ok-text.ensures.small in
    let limited = c.making.invariant.1 in
    let result = c.report_by.result in
    let size = c.making.inside.size in
    let told = Some (file_of c.in_ok-files.files.files.items) in
    let made = made-there size told c.in_ok-files.ensures there.1 in
    let bytes = text_bytes c.making.inside.start size in
    subst (λ (asked : StartAndSize). GivesDue MayCome printed_by (make_due asked) result)
    c.making.view_is (gives-then MayCome _ printed_by result
    (subst (λ there. in_force_due there ≡ Ok (arc_value c.in_ok-judge.judge)) made there.2)
    (gives-then MayCome _ printed_by result
    (bytes-made bytes c.in_ok-text.text.items c.in_ok-text.ensures.bytes (omega arith))
    (subst (λ document. GivesDue MayCome printed_by
    (printed_due (summary_of size) (arc_value c.in_ok-judge.judge) document) result)
    c.deref.ensures.value c.report_by.ensures.due)))
