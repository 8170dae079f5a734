-- What is written is the report that is due.
use Rattle.std.proofs.Common.{arith, refl}
use Rattle.report_forms.specs.Due.{check_due}
use Rattle.document_report.specs.Reports.{report_of}
use Rattle.report_forms.proofs.DueLemmas.{checked-told}
use Rattle.report_forms.proofs.ReportLemmas.{failed-files, report-caused, report-given}
use Rattle.report_forms.proofs.ReportLemmas.{report-whole, outcome-put}
use Rattle.report_forms.proofs.check.check.Goals as goal

pub returns-clause-due : goal.returns-clause-due
returns-clause-due g c = λ reading untouched.
    let outcome = c.outcome_of-outcome.result in
    let found = c.outcome_of-outcome.ensures.due in
    let due = check_due found.0 in
    let told = checked-told report_of found.0 in
    outcome-put outcome (λ failed. failed) (record {
      answer = (due, (found.0, found.1, refl), report-given due outcome told found.2);
      caused = report-caused due outcome told found.2 c.outcome_of-outcome.ensures.failed;
      input = untouched;
      files = tt;
    }) c.put_outcome.ensures.puts

pub returns-clause-complete : goal.returns-clause-complete
returns-clause-complete g c = λ reading same.
    let outcome = c.outcome_of-outcome.result in
    let found = c.outcome_of-outcome.ensures.due in
    outcome-put outcome (λ failed. omega (arith, failed, same)) (λ printed only unfailed.
    report-whole (only (check_due found.0) (found.0, found.1, refl)) unfailed
    (report-given (check_due found.0) outcome (checked-told report_of found.0) found.2)
    (failed-files outcome c.outcome_of-outcome.ensures.failed))
    c.put_outcome.ensures.puts
