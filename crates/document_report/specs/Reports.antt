-- What is printed of the marks of a text.
use Rattle.std.specs.Prelude.{ℕ, List, [], ◌∷◌, ◌++◌, length, map, codes, encode_utf8_all}
use Rattle.std.specs.List.{flat_map}
use Rattle.std.specs.Fmt.{decimal}
use Rattle.mark_types.specs.spell_types.declared.Lexicon.{Lexicon}
use Rattle.mark_types.specs.Marks.{LocatedWord, located_words, in_paragraph, marks_of}
use Rattle.mark_types.specs.declared.Mark.{Mark}

abbrev space : ℕ
space = 32

abbrev line_end : List ℕ
line_end = 10 ∷ []

-- a mark's paragraph, its first byte, the byte past its end, and its word
abbrev pub mark_line : ℕ → ℕ → ℕ → List ℕ → List ℕ
mark_line paragraph from to word =
    decimal paragraph
    ++ (space ∷ decimal from ++ (space ∷ decimal to ++ (space ∷ word ++ line_end)))

abbrev pub line_of_mark : LocatedWord → List ℕ
line_of_mark mark = mark_line mark.paragraph mark.from mark.to (encode_utf8_all mark.characters)

-- how many of how many words are marked
abbrev pub count_line : ℕ → ℕ → List ℕ
count_line marks words = decimal marks ++ (32 ∷ 111 ∷ 102 ∷ 32 ∷ decimal words ++ line_end)

-- what is printed, and of how many marks and words it tells
pub record Printed : Type 0 where
  pub text : List ℕ
  pub marks : ℕ
  pub words : ℕ

-- a line for each mark of the text, and then how many of its words are marked
abbrev pub report_of : Lexicon → List (List ℕ) → Printed
report_of lexicon paragraphs =
    let marks = marks_of lexicon paragraphs in
    let words = located_words lexicon.affixes.wordchars paragraphs in
    record {
      text = flat_map line_of_mark marks ++ count_line (length marks) (length words);
      marks = length marks;
      words = length words;
    }

-- a name and a number
abbrev pub number_line : List ℕ → ℕ → List ℕ
number_line name number = name ++ (codes " " ++ (decimal number ++ codes "\n"))

abbrev pub summary_lines : ℕ → ℕ → ℕ → List ℕ
summary_lines entries words marks =
    number_line (codes "entries") entries
    ++ (number_line (codes "words") words ++ number_line (codes "marks") marks)

-- of a dictionary with so many entries, and of a text: how many entries, words and marks there are
abbrev pub summary_of : ℕ → Lexicon → List (List ℕ) → Printed
summary_of entries lexicon paragraphs =
    let marks = marks_of lexicon paragraphs in
    let words = located_words lexicon.affixes.wordchars paragraphs in
    record {
      text = summary_lines entries (length words) (length marks);
      marks = length marks;
      words = length words;
    }

-- the lines of the marks of one paragraph
abbrev pub paragraph_lines : Lexicon → ℕ → List ℕ → List ℕ
paragraph_lines lexicon number paragraph =
    flat_map line_of_mark (map (in_paragraph number) (marks_of lexicon (paragraph ∷ [])))

-- the lines of these marks of the paragraph with this number
abbrev pub mark_lines : ℕ → List Mark → List ℕ
mark_lines number marks = flat_map (λ mark. mark_line number mark.from mark.to mark.word) marks
