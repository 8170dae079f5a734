-- What is due of a document.
use Rattle.std.specs.Prelude.{ℕ, Bool, List, length, map, nat_lt, Option, Some, None}
use Rattle.std.specs.Prelude.{Result, Ok, Err, if◌then◌else◌}
use Rattle.std.specs.List.{list_any}
use Rattle.std.specs.Str.{chars}
use Rattle.mark_types.specs.lists.Answers.{◌>>=◌}
use Rattle.mark_types.specs.spell_types.declared.Lexicon.{Lexicon}
use Rattle.mark_types.specs.text_lines.Lines.{bad_line, line_texts}
use Rattle.document_report.specs.declared.fault.DocumentFault.{DocumentFault}
use Rattle.document_report.specs.declared.fault.DocumentFault.TheVariants.{NotUtf8}
use Rattle.document_report.specs.declared.fault.DocumentFault.TheVariants.{TooManyParagraphs}
use Rattle.document_report.specs.declared.fault.DocumentFault.TheVariants.{LongParagraph, NoMemory}
use Rattle.document_report.specs.Reports.{Printed}
use Rattle.paragraph_text.specs.declared.limits.TheConstants.{MOST_PARAGRAPHS, MOST_BYTES}

-- the texts of lines, if no line is bad
abbrev pub texts_unless_bad : Option ℕ → List (List ℕ) → Result (List (List ℕ)) DocumentFault
texts_unless_bad None texts = Ok texts
texts_unless_bad (Some line) texts = Err (NotUtf8 line)

-- paragraphs, if they are not too many
unfoldable pub unless_many : List (List ℕ) → Result (List (List ℕ)) DocumentFault
unless_many texts = if nat_lt MOST_PARAGRAPHS (length texts)
    then Err (TooManyParagraphs MOST_PARAGRAPHS) else Ok texts

-- and if none is too long
abbrev pub is_long_paragraph : List ℕ → Bool
is_long_paragraph text = nat_lt MOST_BYTES (length text)

unfoldable pub texts_unless_long : List (List ℕ) → Result (List (List ℕ)) DocumentFault
texts_unless_long texts = if list_any is_long_paragraph texts then Err (LongParagraph MOST_BYTES) else Ok texts

-- what is due of a document: what is to be printed of its lines, which are its paragraphs, if each
-- is UTF-8 and they pass no limit
unfoldable pub document_due : (Lexicon → List (List ℕ) → Printed) → Lexicon → List ℕ
    → Result Printed DocumentFault
document_due printed lexicon document = do
  lines ← texts_unless_bad (bad_line document) (line_texts document)
  few ← unless_many lines
  paragraphs ← texts_unless_long few
  Ok (printed lexicon (map chars paragraphs))

-- want of memory may come at any time
abbrev pub MayComeOfDocuments : DocumentFault → Type 0
MayComeOfDocuments NoMemory = Unit {0}
MayComeOfDocuments _ = ⊥
