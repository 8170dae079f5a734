-- What the code hands on, as the definitions see it.
use Rattle.std.specs.Prelude.{ℕ, List, [], Result, Ok, Err}
use Rattle.std.specs.String.{string_bytes}
use Rattle.document_report.specs.Given.{printed_by}
use Rattle.document_report.specs.declared.printing.Report.{Report}
use Rattle.report_forms.specs.Forms.{end_printed}
use Rattle.file_loading.specs.declared.ending.End.{End}
use Rattle.file_loading.specs.declared.ending.End.TheVariants.{Failed}
use Rattle.file_loading.specs.declared.failure.Failure.{Failure}

-- what is written of a report, or of a failure but its last line
abbrev pub text_by : Result Report Failure → List ℕ
text_by (Ok report) = string_bytes report.text
text_by (Err failure) = []

-- how a call ends then
abbrev pub end_by : Result Report Failure → End
end_by (Ok report) = end_printed (printed_by report)
end_by (Err failure) = Failed failure
