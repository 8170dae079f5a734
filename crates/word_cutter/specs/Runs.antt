-- The words of what is left of a paragraph, one after another.
use Rattle.std.specs.Prelude.{◌≡◌, ℕ, ◌+◌, ◌-◌, ◌<◌, ◌≤◌, Bool, true, false, List, [], ◌∷◌, Option}
use Rattle.std.specs.Prelude.{Some, None, drop, length}
use Rattle.std.specs.List.{filter_map, slice_split}
use Rattle.std.specs.Str.{IsUtf8, chars}
use Rattle.mark_types.specs.Words.{Word, placed, word_of, is_outside}
use Rattle.word_cutter.specs.declared.Rest.{Rest}
use Rattle.word_cutter.specs.declared.FoundWord.{FoundWord}

-- the words of the text from this byte of its paragraph on, behind the character `before`
unfoldable pub words_from : List ℕ → ℕ → ℕ → List ℕ → List Word
words_from wordchars at before text =
    filter_map word_of (slice_split is_outside (placed wordchars at before (chars text)))

-- the words of what is left of a paragraph
unfoldable pub words_after : List ℕ → Rest → List Word
words_after wordchars rest = words_from wordchars rest.at rest.before rest.text.now

-- the word that was found, which has these characters
abbrev pub found_word : List ℕ → FoundWord → Word
found_word characters found = record { from = found.from; to = found.to; characters = characters }

-- the word that was found, if one was, with these characters, and those behind it
abbrev pub words_from_found : List ℕ → List ℕ → Option FoundWord → List Word
words_from_found wordchars characters None = []
words_from_found wordchars characters (Some found) =
    found_word characters found ∷ words_after wordchars found.rest

-- whether there are words
abbrev pub has_some : List Word → Bool
has_some [] = false
has_some (word ∷ words) = true

-- this is the end of what was left of a paragraph
pub record IsBehind (rest left : Rest) : Type 0 where
  pub later : rest.at ≤ left.at
  pub same_end : left.at + length left.text.now ≡ rest.at + length rest.text.now
  pub behind : left.text.now ≡ drop (left.at - rest.at) rest.text.now
  pub utf8 : IsUtf8 rest.text.now → IsUtf8 left.text.now

-- the word that was found stands in what was left, and leaves less of it
pub record LeavesLess (rest : Rest) (found : FoundWord) : Type 0 where
  pub ordered : found.from ≤ found.to
  pub later : rest.at < found.rest.at
  pub behind : IsBehind rest found.rest
