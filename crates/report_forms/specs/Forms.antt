-- What there is to say of the forms of words that ask for a report.
use Rattle.std.specs.Prelude.{◌≡◌, ℕ, ◌==◌, Bool, true, false, List, [], ◌∷◌, ◌++◌, Result, Ok, Err}
use Rattle.std.specs.Prelude.{if◌then◌else◌}
use Rattle.dictionary_swap.specs.Loads.{DictionaryFiles}
use Rattle.dictionary_swap.specs.declared.fault.LoadFault.TheVariants.{Failed as FailedLoad}
use Rattle.document_report.specs.Reports.{Printed}
use Rattle.console_board.specs.Transcripts.{IsThere}
use Rattle.report_forms.specs.Due.{Found, AreInputsFound, check_due, forms_due, make_due}
use Rattle.file_loading.specs.Failures.{is_fault}
use Rattle.file_loading.specs.declared.ending.End.{End}
use Rattle.file_loading.specs.declared.ending.End.TheVariants.{Quiet, Marked, Failed}
use Rattle.file_loading.specs.declared.failure.Failure.{Failure}
use Rattle.file_loading.specs.declared.failure.Failure.TheVariants.{Load, NoMemory}
use Rattle.report_forms.specs.Operands.{CheckedFiles, ListedFiles, StartAndSize}
use Rattle.file_loading.specs.Forms.{Form, Met}

-- whether a text is whole lines
abbrev pub is_whole : List ℕ → Bool
is_whole [] = true
is_whole (c ∷ []) = c == 10
is_whole (c ∷ next ∷ rest) = is_whole (next ∷ rest)

-- the front is whole first lines of the text
pub record AreFirstLines (text front : List ℕ) : Type 0 where
  pub rest : List ℕ
  pub begins : text ≡ front ++ rest
  pub whole : is_whole front ≡ true

-- the lines that may stand before it is told that memory is wanting: those of the report. A failure
-- is one line and none of it.
abbrev pub lines_before : Result Printed Failure → List ℕ
lines_before (Ok printed) = printed.text
lines_before (Err failure) = []

-- how a call ends that has printed something, with no mark in it or with some
abbrev pub end_printed : Printed → End
end_printed printed = if printed.marks == 0 then Quiet else Marked

-- how a report may end where this is due: it is printed, or refused as is due, or the files failed,
-- or memory was wanting
pub data IsReportEnd (due : Result Printed Failure) (text : List ℕ) (end : End) : Type 0 where
  AllPrinted : (printed : Printed) → due ≡ Ok printed → text ≡ printed.text
      → end ≡ end_printed printed → IsReportEnd due text end
  Refused : (failure : Failure) → is_fault failure ≡ true → due ≡ Err failure → end ≡ Failed failure
      → IsReportEnd due text end
  FilesFailed : end ≡ Failed (Load FailedLoad) → IsReportEnd due text end
  Wanting : end ≡ Failed NoMemory → AreFirstLines (lines_before due) text → IsReportEnd due text end

-- all of a report is printed, or memory was wanting
pub data IsWholeReport (printed : Printed) (text : List ℕ) (end : End) : Type 0 where
  AllOfIt : text ≡ printed.text → end ≡ end_printed printed → IsWholeReport printed text end
  SomeOfIt : end ≡ Failed NoMemory → AreFirstLines printed.text text
      → IsWholeReport printed text end

-- a form of words that asks for a report, by what may be due of what is met; where only one report
-- may be, and the files do not fail, that one is whole
abbrev pub report_form : Bool → (Met → Result Printed Failure → Type 0) → Form
report_form names_files may_be_due = record {
  names_files = names_files;
  reads_input = false;
  opens_desk = false;
  answers = λ met text end. (due : Result Printed Failure) × may_be_due met due
      × IsReportEnd due text end;
  whole = λ met text end. (printed : Printed)
      → ((due : Result Printed Failure) → may_be_due met due → due ≡ Ok printed)
      → met.files_after ≡ met.files_before → IsWholeReport printed text end;
}

-- `check AFF DIC FILE` and options
abbrev pub check_form : CheckedFiles → Form
check_form names =
    report_form true
    (λ met due. (found : Found) × AreInputsFound met.folder names found × (due ≡ check_due found))

-- `make START SIZE`
abbrev pub make_form : StartAndSize → Form
make_form asked = report_form false (λ met due. due ≡ make_due asked)

-- `forms AFF DIC`
abbrev pub listing_form : ListedFiles → Form
listing_form names =
    report_form true
    (λ met due. (there : DictionaryFiles) × IsThere met.folder names.aff names.dic there
    × (due ≡ forms_due there))
