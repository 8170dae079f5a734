-- The words of a text, which is the list of its characters.
use Rattle.std.specs.Prelude.{◌≡◌, ℕ, ◌+◌, Bool, not, ◌&&◌, ◌||◌, List, [], ◌∷◌, ◌++◌, length, map}
use Rattle.std.specs.Prelude.{Option, Some, None, if◌then◌else◌, encode_utf8_all}
use Rattle.std.specs.List.{list_any, filter_map, slice_split}
use Rattle.std.specs.Char.{len_utf8}
use Rattle.mark_types.specs.Characters.{line_feed, is_apostrophe, is_word_character}
use Rattle.mark_types.specs.Characters.{is_letter_or_digit}

-- whether a character that stands between these two belongs to a word: a word character does, and
-- so does an apostrophe between two word characters
unfoldable pub belongs : List ℕ → ℕ → ℕ → ℕ → Bool
belongs wordchars before c after =
    is_word_character wordchars c
    || (is_apostrophe c
    && (is_word_character wordchars before && is_word_character wordchars after))

-- a character of a text: its first byte in the text, from 0, and whether it belongs to a word
pub record Placed : Type 0 where
  pub byte : ℕ
  pub character : ℕ
  pub in_word : Bool

-- the character that a text begins with; behind the end of a text stands a line feed
abbrev pub first_of : List ℕ → ℕ
first_of [] = line_feed
first_of (c ∷ text) = c

-- the characters of a text that begins at this byte, behind the character `before`
abbrev pub placed : List ℕ → ℕ → ℕ → List ℕ → List Placed
placed wordchars byte before [] = []
placed wordchars byte before (c ∷ text) =
    record { byte = byte; character = c; in_word = belongs wordchars before c (first_of text) }
    ∷ placed wordchars (byte + len_utf8 c) c text

-- a word of a text: its first byte and the byte past its end, from 0, and its characters
pub record Word : Type 0 where
  pub from : ℕ
  pub to : ℕ
  pub characters : List ℕ

abbrev pub characters_of : List Placed → List ℕ
characters_of run = map (λ p. p.character) run

-- how many bytes a text takes
abbrev pub byte_count : List ℕ → ℕ
byte_count text = length (encode_utf8_all text)

-- the word that a run of characters is, if one of them is a letter or a digit
abbrev pub word_of : List Placed → Option Word
word_of [] = None
word_of (first ∷ more) =
    let characters = characters_of (first ∷ more) in
    if list_any is_letter_or_digit characters
    then Some (record {
      from = first.byte;
      to = first.byte + byte_count characters;
      characters = characters;
    })
    else None

abbrev pub is_outside : Placed → Bool
is_outside p = not p.in_word

-- The words of a text, in its order: the runs between the characters that belong to no word, if
-- they hold a letter or a digit.
unfoldable pub words_of : List ℕ → List ℕ → List Word
words_of wordchars text =
    filter_map word_of (slice_split is_outside (placed wordchars 0 line_feed text))

-- the word stands in the text where it says
pub record StandsIn (text : List ℕ) (word : Word) : Type 0 where
  pub front : List ℕ
  pub back : List ℕ
  pub whole : text ≡ front ++ (word.characters ++ back)
  pub from : word.from ≡ byte_count front
  pub to : word.to ≡ word.from + byte_count word.characters
