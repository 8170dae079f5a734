-- What the code hands on, as the definitions see it.
use Rattle.std.specs.Prelude.{ℕ, List, []}
use Rattle.std.specs.String.{string_bytes}
use Rattle.mark_types.specs.spell_types.declared.Lexicon.{Lexicon}
use Rattle.document_report.specs.declared.printing.Output.{Output}
use Rattle.document_report.specs.declared.printing.Output.TheVariants.{Marks, Summary}
use Rattle.document_report.specs.declared.printing.Report.{Report}
use Rattle.document_report.specs.Reports.{Printed, report_of, summary_of}

abbrev pub printed_by : Report → Printed
printed_by report =
    record { text = string_bytes report.text; marks = report.marks; words = report.words }

-- what is to be printed of a text by a dictionary
abbrev pub printed_as : Output → Lexicon → List (List ℕ) → Printed
printed_as Marks = report_of
printed_as (Summary entries) = summary_of entries

-- lines that are printed only of marks
abbrev pub lines_if_listed : Output → List ℕ → List ℕ
lines_if_listed Marks lines = lines
lines_if_listed (Summary entries) lines = []
