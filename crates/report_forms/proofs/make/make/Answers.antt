-- What is written is the summary that is due.
use Rattle.std.proofs.Common.{arith, refl}
use Rattle.report_forms.specs.Due.{bytes_made_by, make_due}
use Rattle.document_report.specs.Reports.{summary_of}
use Rattle.report_forms.proofs.DueLemmas.{checked-told}
use Rattle.report_forms.proofs.ReportLemmas.{failed-files, report-caused, report-given}
use Rattle.report_forms.proofs.ReportLemmas.{report-whole, outcome-put}
use Rattle.report_forms.proofs.make.make.Goals as goal

pub returns-clause-due : goal.returns-clause-due
returns-clause-due g c = λ folder files reading untouched.
    let outcome = c.outcome_of-outcome.result in
    let made = c.outcome_of-outcome.ensures in
    let due = make_due c.args.making in
    let told = checked-told (summary_of c.args.making.size) (bytes_made_by c.args.making) in
    outcome-put outcome (λ failed. failed) (record {
      answer = (due, refl, report-given due outcome told made.due);
      caused = report-caused due outcome told made.due (λ is. absurd (made.failed is));
      input = untouched;
      files = refl;
    }) c.put_outcome.ensures.puts

pub returns-clause-complete : goal.returns-clause-complete
returns-clause-complete g c = λ met same.
    let outcome = c.outcome_of-outcome.result in
    let made = c.outcome_of-outcome.ensures in
    outcome-put outcome (λ failed. omega (arith, failed, same)) (λ printed only unfailed.
    report-whole (only (make_due c.args.making) refl) unfailed
    (report-given (make_due c.args.making) outcome
    (checked-told (summary_of c.args.making.size) (bytes_made_by c.args.making)) made.due)
    (failed-files outcome (λ is. absurd (made.failed is))))
    c.put_outcome.ensures.puts
