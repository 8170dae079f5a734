-- The report is what is due, or why there is none.
use Rattle.std.proofs.Common.{◌≡◌, ◌∙◌, ap, sym, subst, refl, Err, Result}
use Rattle.std.specs.Arc.{arc_value}
use Rattle.outside.specs.lists.AnswerLaws.{fails-told}
use Rattle.outside.specs.lists.Answers.{FailsAs, failing}
use Rattle.document_report.specs.Documents.{MayComeOfDocuments}
use Rattle.document_report.specs.Given.{printed_as}
use Rattle.document_report.specs.declared.printing.Report.{Report}
use Rattle.document_report.specs.declared.fault.DocumentFault.{DocumentFault}
use Rattle.document_report.specs.declared.fault.DocumentFault.TheVariants.{NoMemory as ReportWanting}
use Rattle.dictionary_swap.specs.declared.fault.LoadFault.TheVariants.{Failed}
use Rattle.file_loading.specs.Due.{MayCome}
use Rattle.report_forms.specs.Due.{printed_due}
use Rattle.file_loading.specs.Failures.{document_failure}
use Rattle.file_loading.specs.declared.failure.Failure.TheVariants.{Load}
use Rattle.report_forms.proofs.DueLemmas.{report-comes}
use Rattle.report_forms.proofs.check.report_by.Goals as goal

-- no fault of a document is that the files failed
no-load : (fault : DocumentFault) → document_failure fault ≡ Load Failed → ⊥
no-load ReportWanting is = absurd (cc)
no-load _ is = absurd (cc)

same-error : {E : Type 0} (one other : E) (result : Result Report E) → result ≡ Err one
    → result ≡ Err other → one ≡ other
same-error one other result is also = cc

pub returns-in-Ok-clause-due : goal.returns-in-Ok-clause-due
unfolding printed_due
returns-in-Ok-clause-due g c = ap (failing document_failure) c.in-Ok.ensures.due

pub returns-in-Err-clause-due : goal.returns-in-Err-clause-due
unfolding printed_due
returns-in-Err-clause-due g c =
    let lexicon = arc_value c.args.judge.now in
    let due = printed_due (printed_as c.args.output) lexicon c.args.document.now in
    subst (FailsAs MayCome due) (sym c.from.ensures)
    (fails-told MayComeOfDocuments MayCome document_failure report-comes c.in-Err.ensures.due)

pub returns-in-Err-clause-failed : goal.returns-in-Err-clause-failed
returns-in-Err-clause-failed g c =
    λ is. no-load c.in-Err.fault
    (sym c.from.ensures ∙ same-error c.from.result (Load Failed) (Err c.from.result) refl is)
