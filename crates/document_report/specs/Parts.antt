-- A part of a text, and what is counted and listed of it.
use Rattle.std.specs.Prelude.{◌≡◌, ℕ, ◌+◌, ◌*◌, ◌≤◌, List, [], ◌∷◌, All, length, map, take, drop}
use Rattle.std.specs.Prelude.{Option, None, IfSome, slice_index_or}
use Rattle.std.specs.Borrow.{Bor}
use Rattle.std.specs.declared.alloc.Global.{Global}
use Rattle.std.specs.declared.vec.Vec.{Vec}
use Rattle.std.specs.List.{flat_map, enumerate_from}
use Rattle.std.specs.Str.{chars}
use Rattle.std.specs.String.{string_bytes}
use Rattle.mark_types.specs.spell_types.declared.Lexicon.{Lexicon}
use Rattle.mark_types.specs.Marks.{LocatedWord, located_words, in_paragraph, marks_of}
use Rattle.document_report.specs.Given.{lines_if_listed}
use Rattle.document_report.specs.Reports.{line_of_mark}
use Rattle.document_report.specs.Texts.{lent}
use Rattle.document_report.specs.declared.counting.DocumentPart.{DocumentPart}
use Rattle.document_report.specs.declared.sharing.Shares.{Shares}
use Rattle.document_report.specs.declared.printing.Output.{Output}
use Rattle.document_report.specs.declared.printing.Report.{Report}
use Rattle.paragraph_text.specs.declared.limits.TheConstants.{MOST_PARAGRAPHS, MOST_BYTES}

-- what is found in each of these paragraphs alone, the first of which has this number
abbrev pub each_from : (List ℕ → List LocatedWord) → ℕ → List (List ℕ) → List LocatedWord
each_from found number paragraphs =
    flat_map (λ numbered. map (in_paragraph numbered.0) (found numbered.1))
    (enumerate_from number paragraphs)

-- paragraphs that are lent, as their characters
abbrev pub paragraphs_of : List (Bor (List ℕ)) → List (List ℕ)
paragraphs_of texts = map chars (lent texts)

-- the marks and the words of paragraphs, the first of which has this number
abbrev pub numbered_marks : Lexicon → ℕ → List (Bor (List ℕ)) → List LocatedWord
numbered_marks lexicon first texts =
    each_from (λ paragraph. marks_of lexicon (paragraph ∷ [])) first (paragraphs_of texts)

abbrev pub numbered_words : Lexicon → ℕ → List (Bor (List ℕ)) → List LocatedWord
numbered_words lexicon first texts =
    each_from (λ paragraph. located_words lexicon.affixes.wordchars (paragraph ∷ [])) first
    (paragraphs_of texts)

-- a part is no longer than a document, and none of its paragraphs is too long
abbrev pub IsLimited : DocumentPart → Type 0
IsLimited part = (part.first + length part.paragraphs.now ≤ MOST_PARAGRAPHS + 1)
    × All (λ paragraph. length paragraph.now ≤ MOST_BYTES) part.paragraphs.now

-- the marks of paragraphs are listed, if marks are to be, and their marks and words are counted
pub record IsReportOfParts
    (output : Output) (lexicon : Lexicon) (first : ℕ) (texts : List (Bor (List ℕ)))
    (report : Report) : Type 0 where
  pub text : string_bytes report.text
      ≡ lines_if_listed output (flat_map line_of_mark (numbered_marks lexicon first texts))
  pub marks : report.marks ≡ length (numbered_marks lexicon first texts)
  pub words : report.words ≡ length (numbered_words lexicon first texts)
  pub few : report.words ≤ MOST_BYTES * length texts
  pub fewer : report.marks ≤ report.words

abbrev pub IsPartCounted : Output → Lexicon → DocumentPart → Report → Type 0
IsPartCounted output lexicon part = IsReportOfParts output lexicon part.first part.paragraphs.now

-- the paragraphs of the share at this place, of shares of so many paragraphs
abbrev pub share_at : ℕ → ℕ → List (Bor (List ℕ)) → List (Bor (List ℕ))
share_at size place texts = take size (drop (size * place) texts)

-- a report on the share at this place
abbrev pub IsOfShare : Output → Lexicon → Shares → ℕ → Report → Type 0
IsOfShare output lexicon shares place =
    IsReportOfParts output lexicon (shares.part.first + shares.size * place)
    (share_at shares.size place shares.part.paragraphs.now)

-- each of these reports is one on the share at its place
abbrev pub AreOfShares : Output → Lexicon → Shares → Vec (Option Report) Global → Type 0
AreOfShares output lexicon shares reports = (place : ℕ)
    → IfSome (slice_index_or reports.items place None) (IsOfShare output lexicon shares place)

-- a report on so many first shares together
abbrev pub IsOfFront : Output → Lexicon → Shares → ℕ → Report → Type 0
IsOfFront output lexicon shares count =
    IsReportOfParts output lexicon shares.part.first
    (take (shares.size * count) shares.part.paragraphs.now)
