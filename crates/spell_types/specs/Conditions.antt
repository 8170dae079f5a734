-- Which words a rule's condition fits.
use Rattle.std.specs.Prelude.{ℕ, ◌-◌, ◌==◌, Bool, true, not, List, length, take, drop}
use Rattle.std.specs.List.{list_any}
use Rattle.std.specs.Cmp.Lexicographic.{pointwise}
use Rattle.spell_types.specs.declared.rules.Piece.{Piece}
use Rattle.spell_types.specs.declared.rules.Piece.TheVariants.{Any, One, Among, NotAmong}

-- whether one of the characters is this character
abbrev pub is_one_of : List ℕ → ℕ → Bool
is_one_of some c = list_any (λ other. other == c) some

-- whether the piece accepts the character
abbrev pub accepts_character : Piece → ℕ → Bool
accepts_character Any c = true
accepts_character (One only) c = only == c
accepts_character (Among some) c = is_one_of some c
accepts_character (NotAmong some) c = not (is_one_of some c)

-- whether the text has as many characters as the condition has pieces, and each piece accepts its
-- character
abbrev pub accepts_each : List Piece → List ℕ → Bool
accepts_each condition text = pointwise accepts_character condition text

-- Whether the condition fits the front of the word: its first characters, as many as the condition
-- has pieces. No condition fits a word that is shorter, and the empty condition fits each word.
abbrev pub fits_front : List Piece → List ℕ → Bool
fits_front condition word = accepts_each condition (take (length condition) word)

-- whether the condition fits the end of the word, likewise
abbrev pub fits_back : List Piece → List ℕ → Bool
fits_back condition word = accepts_each condition (drop (length word - length condition) word)
