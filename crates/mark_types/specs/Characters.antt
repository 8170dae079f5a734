-- The characters that words are made of, as Unicode's numbers.
use Rattle.std.specs.Prelude.{ℕ, Bool, not, ◌&&◌, ◌||◌, ◌==◌, List}
use Rattle.std.specs.List.{list_any}
use Rattle.std.specs.Char.{is_ascii_digit}
use Rattle.unicode.specs.Binary.{is_alphabetic}
use Rattle.unicode.specs.GeneralCategory.{general_category}
use Rattle.unicode.specs.GeneralCategoryGroup.{in_group}
use Rattle.ucd_category.specs.declared.GeneralCategoryGroup.TheVariants.{Mark}

-- the character that ends a line, and that stands before a text and behind it
abbrev pub line_feed : ℕ
line_feed = 10

-- the typewriter's apostrophe and the typographer's
abbrev pub is_apostrophe : ℕ → Bool
is_apostrophe c = c == 0x27 || c == 0x2019

-- a combining mark: one of the general categories Mn, Mc and Me
unfoldable pub is_combining_mark : ℕ → Bool
is_combining_mark c = in_group Mark (general_category c)

-- a letter, a combining mark or a character of WORDCHARS; but never an apostrophe or a line feed
unfoldable pub is_word_character : List ℕ → ℕ → Bool
is_word_character wordchars c =
    not (is_apostrophe c || c == line_feed)
    && (is_alphabetic c || is_combining_mark c || list_any (λ w. w == c) wordchars)

-- A word holds one of these: a letter or an ASCII digit.
abbrev pub is_letter_or_digit : ℕ → Bool
is_letter_or_digit c = is_alphabetic c || is_ascii_digit c
