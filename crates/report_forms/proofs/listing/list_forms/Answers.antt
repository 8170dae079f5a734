-- What is written is the listing that is due.
use Rattle.std.proofs.Common.{arith, refl}
use Rattle.report_forms.specs.Due.{forms_due}
use Rattle.report_forms.proofs.ReportLemmas.{failed-files, report-caused, report-given}
use Rattle.report_forms.proofs.ReportLemmas.{report-whole, outcome-put}
use Rattle.report_forms.proofs.ListingLemmas.{forms-told}
use Rattle.report_forms.proofs.listing.list_forms.Goals as goal

pub returns-clause-due : goal.returns-clause-due
returns-clause-due g c = λ reading untouched.
    let outcome = c.outcome_of-outcome.result in
    let there = c.outcome_of-outcome.ensures.due in
    let due = forms_due there.0 in
    let told = forms-told there.0 in
    outcome-put outcome (λ failed. failed) (record {
      answer = (due, (there.0, there.1, refl), report-given due outcome told there.2);
      caused = report-caused due outcome told there.2 c.outcome_of-outcome.ensures.failed;
      input = untouched;
      files = tt;
    }) c.put_outcome.ensures.puts

pub returns-clause-complete : goal.returns-clause-complete
returns-clause-complete g c = λ reading same.
    let outcome = c.outcome_of-outcome.result in
    let there = c.outcome_of-outcome.ensures.due in
    outcome-put outcome (λ failed. omega (arith, failed, same)) (λ printed only unfailed.
    report-whole (only (forms_due there.0) (there.0, there.1, refl)) unfailed
    (report-given (forms_due there.0) outcome (forms-told there.0) there.2)
    (failed-files outcome c.outcome_of-outcome.ensures.failed))
    c.put_outcome.ensures.puts
