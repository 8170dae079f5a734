-- What is written of a report, and how it ends.
use Rattle.std.proofs.Common.{◌≡◌, ◌∙◌, ◌⊎◌, inl, inr, ℕ, ◌<◌, ◌==◌, true, false, List, [], ◌++◌}
use Rattle.std.proofs.Common.{Option, Result, refl, sym, ap, subst, arith, ⊎_elim, Bool, Ok, Err}
use Rattle.std.proofs.Common.{IfErr, IsErrOf, if◌then◌else◌}
use Rattle.dictionary_swap.specs.declared.fault.LoadFault.TheVariants.{Failed as FailedLoad}
use Rattle.document_report.specs.declared.printing.Report.{Report}
use Rattle.file_loading.specs.Ends.{EndsAs, IsOrWanting, IsPut, status_at, tail_of}
use Rattle.file_loading.specs.Forms.{IsCaused, Met, is_the_only_line}
use Rattle.report_forms.specs.Given.{end_by, text_by}
use Rattle.file_loading.specs.declared.ending.End.{End}
use Rattle.file_loading.specs.declared.ending.End.TheVariants.{Failed, Quiet, Marked}
use Rattle.file_loading.specs.declared.failure.Failure.{Failure}
use Rattle.file_loading.specs.declared.failure.Failure.TheVariants.{Load}
use Rattle.std.proofs.lemmas.Result.{IfErr-at_err}
use Rattle.outside.specs.lists.Answers.{GivesDue}
use Rattle.document_report.specs.Given.{printed_by}
use Rattle.document_report.specs.Reports.{Printed}
use Rattle.file_loading.specs.Due.{MayCome}
use Rattle.report_forms.specs.Forms.{AllOfIt, AllPrinted, AreFirstLines, FilesFailed, IsReportEnd}
use Rattle.report_forms.specs.Forms.{IsWholeReport, Refused, SomeOfIt, Wanting, end_printed}
use Rattle.report_forms.specs.Forms.{lines_before}
use Rattle.file_loading.specs.EndLaws.{goes-on}
use Rattle.file_loading.specs.DueLaws.{IsTold, comes-as, failure-caused, failure-told}
use Rattle.file_loading.specs.EndLaws.{put-sooner}

-- an outcome is put
pub outcome-put : {sink_failed whole_failed : Type 0} {answers : List ℕ → End → Type 0}
    {before now : Option (List ℕ)} {status : ℕ} (outcome : Result Report Failure)
    → (sink_failed → whole_failed) → answers (text_by outcome) (end_by outcome)
    → (end : End) × IsOrWanting (end_by outcome) end
    × IsPut (status_at end) (text_by outcome ++ tail_of end) sink_failed before now status
    → EndsAs answers whole_failed before now status
outcome-put outcome fails is (end, end_is, put) = record {
  text = text_by outcome;
  due = end_by outcome;
  answer = is;
  end = end;
  end_is = end_is;
  put = put-sooner fails put;
}

-- a failure that may come at any time ends a report
report-comes-as : (due : Result Printed Failure) (failure : Failure) → MayCome failure
    → IsReportEnd due [] (Failed failure)
report-comes-as due failure comes =
    let lines : AreFirstLines (lines_before due) [] =
    record { rest = lines_before due; begins = refl; whole = refl } in
    ⊎_elim (λ failed. FilesFailed (ap Failed failed)) (λ wanting. Wanting (ap Failed wanting) lines)
    (comes-as failure comes)

-- what a result tells is a report of what is due
pub report-given : (due : Result Printed Failure) (outcome : Result Report Failure)
    → IfErr due IsTold → GivesDue MayCome printed_by due outcome
    → IsReportEnd due (text_by outcome) (end_by outcome)
report-given due (Ok report) told is = AllPrinted (printed_by report) is refl refl
report-given due (Err failure) told (inl comes) = report-comes-as due failure comes
report-given due (Err failure) told (inr is) =
    ⊎_elim (report-comes-as due failure) (λ fault. Refused failure fault is refl)
    (IfErr-at_err IsTold is told)

-- what is printed ends no call by a failure
printed-unfailed : {A : Type 0} {failure : Failure} (none : Bool)
    → (if none then Quiet else Marked) ≡ Failed failure → A
printed-unfailed true is = absurd (cc)
printed-unfailed false is = absurd (cc)

printed-goes-on : (none : Bool) → is_the_only_line (if none then Quiet else Marked) ≡ false
printed-goes-on true = refl
printed-goes-on false = refl

-- with its cause
pub report-caused : {has_form : Bool} {met : Met} (due : Result Printed Failure)
    (outcome : Result Report Failure) → IfErr due IsTold → GivesDue MayCome printed_by due outcome
    → (IsErrOf outcome (Load FailedLoad) → met.files_before < met.files_after)
    → IsCaused has_form met (text_by outcome) (end_by outcome)
report-caused due (Ok report) told is failed =
    let none = report.marks == 0 in
    goes-on (printed-goes-on none) (λ input. printed-unfailed none input)
report-caused due (Err failure) told fails failed =
    failure-caused (failure-told told fails) (λ is. failed (ap Err is))

-- an end by files that failed is that of an outcome that they failed
pub failed-files : {rose : Type 0} (outcome : Result Report Failure)
    → (IsErrOf outcome (Load FailedLoad) → rose)
    → end_by outcome ≡ Failed (Load FailedLoad) → rose
failed-files (Ok report) failed is = printed-unfailed (report.marks == 0) is
failed-files (Err failure) failed is =
    failed (let same : failure ≡ Load FailedLoad = cc in ap Err same)

-- where the report is due, and the files did not fail, it is whole
pub report-whole : {due : Result Printed Failure} {printed : Printed} {before after : ℕ}
    {text : List ℕ} {end : End} → due ≡ Ok printed → after ≡ before
    → IsReportEnd due text end → (end ≡ Failed (Load FailedLoad) → before < after)
    → IsWholeReport printed text end
report-whole {printed = printed} is same (AllPrinted other also text_is end_is) rose =
    let one : other ≡ printed = cc in
    AllOfIt (text_is ∙ ap (λ (p : Printed). p.text) one) (end_is ∙ ap end_printed one)
report-whole {printed = printed} is same (Refused failure fault also end_is) rose =
    let never : Ok printed ≡ Err failure = sym is ∙ also in absurd (cc)
report-whole is same (FilesFailed failed) rose =
    let more = rose failed in absurd (omega (arith, more, same))
report-whole {text = text} is same (Wanting end_is lines) rose =
    SomeOfIt end_is (subst (λ due. AreFirstLines (lines_before due) text) is lines)
