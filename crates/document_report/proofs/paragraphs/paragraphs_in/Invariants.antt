-- The lines found and those of the rest are the lines of the text.
use Rattle.std.proofs.Common.{◌≡◌, ◌≤◌, ◌++◌, length}
use denote.Shadow.{shadow}
use denote.Text.{Utf8}
use Rattle.mark_types.specs.text_lines.Texts.{texts_in}
use Rattle.document_report.specs.Texts.{lent}
use Rattle.document_report.proofs.paragraphs.paragraphs_in.Given as goal
use Rattle.paragraph_text.specs.declared.limits.TheConstants.{MOST_PARAGRAPHS}

abbrev pub invariant-loop-rest : goal.invariant-loop-rest
invariant-loop-rest l = record {
  lines : lent l.paragraphs.items ++ texts_in l.rest ≡ texts_in l.text;
  utf8 : shadow (Utf8 l.rest);
  few : length l.paragraphs.items ≤ MOST_PARAGRAPHS;
}

abbrev pub decreases-loop-rest : goal.decreases-loop-rest
decreases-loop-rest l = length l.rest
