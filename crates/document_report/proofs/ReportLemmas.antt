-- The report, paragraph by paragraph, is the report on the whole text.
use Rattle.std.proofs.Common.{◌≡◌, ℕ, ◌+◌, List, [], ◌∷◌, ◌++◌, length, map, refl, sym, ap, ◌∙◌}
use Rattle.std.proofs.Common.{length-append}
use Rattle.std.specs.Borrow.{Bor}
use Rattle.std.specs.List.{flat_map}
use Rattle.std.specs.Str.{chars}
use Rattle.std.proofs.lemmas.List.{length-map}
use Rattle.std.proofs.lemmas.Grind.{flat_map-append}
use Rattle.mark_types.specs.spell_types.declared.Lexicon.{Lexicon}
use Rattle.mark_types.specs.Handed.{mark_of}
use Rattle.mark_types.specs.Words.{words_of}
use Rattle.mark_types.specs.Marks.{LocatedWord, located_at, located_words, in_paragraph}
use Rattle.mark_types.specs.Marks.{marks_of}
use Rattle.paragraph_marks.specs.Paragraphs.{marks_in}
use Rattle.document_report.specs.declared.printing.Output.{Output}
use Rattle.document_report.specs.declared.printing.Output.TheVariants.{Marks, Summary}
use Rattle.document_report.specs.Given.{lines_if_listed}
use Rattle.document_report.specs.Reports.{line_of_mark, mark_lines, paragraph_lines}
use Rattle.document_report.specs.Parts.{each_from}
use Rattle.document_report.specs.Texts.{lent}

located-lines : (number : ℕ) (words : List LocatedWord) → mark_lines number (map mark_of words)
    ≡ flat_map line_of_mark (map (in_paragraph number) words)
located-lines number [] = refl
located-lines number (word ∷ words) =
    ap (λ lines. line_of_mark (in_paragraph number word) ++ lines) (located-lines number words)

-- the lines of a paragraph's marks, and how many these are
pub lines-of-marks : (lexicon : Lexicon) (number : ℕ) (paragraph : List ℕ)
    → mark_lines number (marks_in lexicon paragraph) ≡ paragraph_lines lexicon number paragraph
unfolding marks_in
lines-of-marks lexicon number paragraph = located-lines number (marks_of lexicon (paragraph ∷ []))

pub count-of-marks : (lexicon : Lexicon) (paragraph : List ℕ) → length (marks_in lexicon paragraph)
    ≡ length (marks_of lexicon (paragraph ∷ []))
unfolding marks_in
count-of-marks lexicon paragraph = length-map (marks_of lexicon (paragraph ∷ [])) mark_of

-- the lines of these paragraphs' marks, the first of which has this number
abbrev pub lines_from : Lexicon → ℕ → List (Bor (List ℕ)) → List ℕ
lines_from lexicon number [] = []
lines_from lexicon number (text ∷ texts) =
    paragraph_lines lexicon number (chars text.now) ++ lines_from lexicon (number + 1) texts

abbrev pub marks_from : Lexicon → List (Bor (List ℕ)) → ℕ
marks_from lexicon [] = 0
marks_from lexicon (text ∷ texts) =
    length (marks_of lexicon (chars text.now ∷ [])) + marks_from lexicon texts

abbrev pub words_from : Lexicon → List (Bor (List ℕ)) → ℕ
words_from lexicon [] = 0
words_from lexicon (text ∷ texts) =
    length (words_of lexicon.affixes.wordchars (chars text.now)) + words_from lexicon texts

pub lines-each : (lexicon : Lexicon) (number : ℕ) (texts : List (Bor (List ℕ)))
    → lines_from lexicon number texts
    ≡ flat_map line_of_mark
    (each_from (λ paragraph. marks_of lexicon (paragraph ∷ [])) number (map chars (lent texts)))
lines-each lexicon number [] = refl
lines-each lexicon number (text ∷ texts) =
    let here = map (in_paragraph number) (marks_of lexicon (chars text.now ∷ [])) in
    ap (λ rest. flat_map line_of_mark here ++ rest) (lines-each lexicon (number + 1) texts)
    ∙ sym (flat_map-append line_of_mark here
    (each_from (λ paragraph. marks_of lexicon (paragraph ∷ [])) (number + 1)
    (map chars (lent texts))))

length-each : (found : List ℕ → List LocatedWord) (number : ℕ) (paragraph : List ℕ)
    (paragraphs : List (List ℕ))
    → length (each_from found number (paragraph ∷ paragraphs)) ≡ length (found paragraph)
    + length (each_from found (number + 1) paragraphs)
length-each found number paragraph paragraphs =
    length-append (map (in_paragraph number) (found paragraph))
    (each_from found (number + 1) paragraphs)
    ∙ ap (λ n. n + length (each_from found (number + 1) paragraphs))
    (length-map (found paragraph) (in_paragraph number))

pub marks-each : (lexicon : Lexicon) (number : ℕ) (texts : List (Bor (List ℕ)))
    → marks_from lexicon texts
    ≡ length (each_from (λ paragraph. marks_of lexicon (paragraph ∷ [])) number
    (map chars (lent texts)))
marks-each lexicon number [] = refl
marks-each lexicon number (text ∷ texts) =
    ap (λ n. length (marks_of lexicon (chars text.now ∷ [])) + n)
    (marks-each lexicon (number + 1) texts)
    ∙ sym (length-each (λ paragraph. marks_of lexicon (paragraph ∷ [])) number (chars text.now)
    (map chars (lent texts)))

-- how a word is found in a paragraph that stands alone
abbrev AreAlone : Type 0
AreAlone = (wordchars paragraph : List ℕ) → located_words wordchars (paragraph ∷ [])
    ≡ map (λ word. located_at 1 word.from word) (words_of wordchars paragraph)

pub words-each : AreAlone → (lexicon : Lexicon) (number : ℕ) (texts : List (Bor (List ℕ)))
    → words_from lexicon texts
    ≡ length (each_from (λ paragraph. located_words lexicon.affixes.wordchars (paragraph ∷ []))
    number (map chars (lent texts)))
words-each are_alone lexicon number [] = refl
words-each are_alone lexicon number (text ∷ texts) =
    let wordchars = lexicon.affixes.wordchars in
    let paragraph = chars text.now in
    ap (λ n. length (words_of wordchars paragraph) + n)
    (words-each are_alone lexicon (number + 1) texts)
    ∙ ap (λ n. n
    + length (each_from (λ paragraph. located_words wordchars (paragraph ∷ [])) (number + 1)
    (map chars (lent texts))))
    (sym (ap length (are_alone wordchars paragraph)
    ∙ length-map (words_of wordchars paragraph) (λ word. located_at 1 word.from word)))
    ∙ sym (length-each (λ paragraph. located_words wordchars (paragraph ∷ [])) number paragraph
    (map chars (lent texts)))

pub listed-none : (output : Output) → lines_if_listed output [] ≡ []
listed-none Marks = refl
listed-none (Summary entries) = refl
