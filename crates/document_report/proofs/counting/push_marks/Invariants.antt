-- What is added already and the lines of the marks that are left are all that is added.
use Rattle.std.proofs.Common.{◌≡◌, ◌++◌, drop}
use Rattle.std.specs.String.{string_bytes}
use Rattle.document_report.specs.Reports.{mark_lines}
use Rattle.document_report.proofs.counting.push_marks.Given as goal

abbrev pub invariant-loop-mark : goal.invariant-loop-mark
invariant-loop-mark l = string_bytes l.text ++ mark_lines l.number (drop l.mark-index l.marks)
    ≡ string_bytes l.fn.text ++ mark_lines l.number l.marks
