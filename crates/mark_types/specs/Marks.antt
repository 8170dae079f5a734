-- The marks of a text: the words that a dictionary does not generate.
use Rattle.std.specs.Prelude.{ℕ, ◌+◌, ◌-◌, Bool, not, nat_le, List, [], ◌∷◌, filter, map}
use Rattle.std.specs.Prelude.{if◌then◌else◌}
use Rattle.std.specs.List.{join_with_byte, flat_map, enumerate_from}
use Rattle.spell_types.specs.declared.Lexicon.{Lexicon}
use Rattle.spell_types.specs.Yields.{yields}
use Rattle.mark_types.specs.Characters.{line_feed}
use Rattle.mark_types.specs.Words.{Word, byte_count, words_of}

-- the whole text: its paragraphs, with a line feed between each two
abbrev pub joined : List (List ℕ) → List ℕ
joined paragraphs = join_with_byte line_feed paragraphs

-- a word of a text of paragraphs: its paragraph from 1, its first byte and the byte past its end in
-- that paragraph, from 0, and its characters
pub record LocatedWord : Type 0 where
  pub paragraph : ℕ
  pub from : ℕ
  pub to : ℕ
  pub characters : List ℕ

-- a word that begins at this byte of the paragraph with this number
abbrev pub located_at : ℕ → ℕ → Word → LocatedWord
located_at number byte word =
    record {
      paragraph = number;
      from = byte;
      to = byte + (word.to - word.from);
      characters = word.characters;
    }

-- where a word stands that begins at this byte of the whole text, if the first paragraph has this
-- number
abbrev pub located_in : ℕ → List (List ℕ) → ℕ → Word → LocatedWord
located_in number [] byte word = located_at number byte word
located_in number (paragraph ∷ more) byte word =
    if nat_le byte (byte_count paragraph)
    then located_at number byte word
    else located_in (number + 1) more (byte - (byte_count paragraph + 1)) word

-- the words of the whole text, each with its paragraph
abbrev pub located_words : List ℕ → List (List ℕ) → List LocatedWord
located_words wordchars paragraphs =
    map (λ word. located_in 1 paragraphs word.from word) (words_of wordchars (joined paragraphs))

-- whether the lexicon does not generate the word
abbrev pub is_unknown : Lexicon → LocatedWord → Bool
is_unknown lexicon word = not (yields lexicon word.characters)

-- the words of the whole text that the lexicon does not generate, in their order
unfoldable pub marks_of : Lexicon → List (List ℕ) → List LocatedWord
marks_of lexicon paragraphs =
    filter (is_unknown lexicon) (located_words lexicon.affixes.wordchars paragraphs)

-- a word of a paragraph that stands alone, as a word of the paragraph with this number
abbrev pub in_paragraph : ℕ → LocatedWord → LocatedWord
in_paragraph number word = record word { paragraph = number }

-- what is found in each paragraph alone, one after another, with the paragraphs' numbers
abbrev pub one_by_one : (List ℕ → List LocatedWord) → List (List ℕ) → List LocatedWord
one_by_one found paragraphs =
    flat_map (λ numbered. map (in_paragraph numbered.0) (found numbered.1))
    (enumerate_from 1 paragraphs)
