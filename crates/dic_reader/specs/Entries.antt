-- The entries of a .dic file: where they stand in their lines, and what they say.
use Rattle.std.specs.Prelude.{◌≡◌, ℕ, ◌-◌, Bool, false, ◌&&◌, ◌||◌, ◌==◌, List, [], ◌∷◌, length}
use Rattle.std.specs.Prelude.{map, take}
use Rattle.std.specs.Prelude.{drop, Option, None, Some, Result, unwrap_or, if◌then◌else◌}
use Rattle.std.specs.List.{range_with_len, list_all, filter_map, prefix_len, suffix_len}
use Rattle.std.specs.Char.{is_ascii_digit, is_ascii_lowercase}
use Rattle.std.specs.Str.{chars}
use Rattle.text_lines.specs.declared.found.Line.{Line}
use Rattle.text_lines.specs.Lines.{text_of}
use Rattle.text_lines.specs.Texts.{texts_in}
use Rattle.spell_types.specs.declared.Affixes.{Affixes}
use Rattle.spell_types.specs.declared.flags.Flag.{Flag}
use Rattle.spell_types.specs.Conversions.{without_ignored}
use Rattle.flag_sets.specs.declared.FlagFault.{FlagFault}
use Rattle.flag_sets.specs.FlagTexts.{flag_field}
use Rattle.flag_sets.specs.Slashes.{is_slash, before_slash, behind_slash}

abbrev pub is_space : ℕ → Bool
is_space c = c == 32

abbrev pub is_tab : ℕ → Bool
is_tab c = c == 9

-- two small letters and a colon: so a field of morphology begins, as po:noun
abbrev pub begins_field : List ℕ → Bool
begins_field (first ∷ second ∷ colon ∷ rest) =
    is_ascii_lowercase first && is_ascii_lowercase second && colon == 58
begins_field _ = false

-- whether an entry ends before this rest of its line: at a tab, or at a space before such a field
abbrev pub ends_entry : List ℕ → Bool
ends_entry [] = false
ends_entry (c ∷ rest) = is_tab c || (is_space c && begins_field rest)

-- a line up to where its entry ends
abbrev pub before_fields : List ℕ → List ℕ
before_fields [] = []
before_fields (c ∷ rest) = if ends_entry (c ∷ rest) then [] else c ∷ before_fields rest

abbrev pub without_leading : List ℕ → List ℕ
without_leading text = drop (prefix_len is_space text) text

abbrev pub without_trailing : List ℕ → List ℕ
without_trailing text = take (length text - suffix_len is_space text) text

-- the entry of a line, without spaces at its ends
unfoldable pub entry_of_line : List ℕ → List ℕ
entry_of_line line = without_trailing (without_leading (before_fields line))

abbrev pub is_blank : ℕ → Bool
is_blank c = is_space c || is_tab c

abbrev pub begins_with_tab : List ℕ → Bool
begins_with_tab [] = false
begins_with_tab (c ∷ line) = is_tab c

-- a line that begins with a tab has no entry, and a blank one has none
abbrev pub is_passed_over : List ℕ → Bool
is_passed_over line = begins_with_tab line || list_all is_blank line

abbrev pub begins_with_digit : List ℕ → Bool
begins_with_digit [] = false
begins_with_digit (c ∷ rest) = is_ascii_digit c

-- whether the first line counts, more or less: a digit stands behind spaces
unfoldable pub is_count : List ℕ → Bool
is_count line = begins_with_digit (without_leading line)

-- an entry by its text, with the number of its line
pub record Listed : Type 0 where
  pub number : ℕ
  pub text : List ℕ

abbrev pub entry_at : ℕ → List ℕ → Listed
entry_at number text = record { number = number; text = text }

abbrev pub listed_in : List ℕ → Line → Option Listed
listed_in bytes line =
    let text = text_of bytes line in
    if is_passed_over text then None else Some (entry_at line.number (entry_of_line text))

-- the entries of these lines
abbrev pub listed : List ℕ → List Line → List Listed
listed bytes lines = filter_map (listed_in bytes) lines

-- these are the lines of a text, by their places in bytes, numbered from a number on
pub record AreLinesOf (bytes : List ℕ) (first : ℕ) (lines : List Line)
    (text : List ℕ) : Type 0 where
  pub texts : texts_in text ≡ map (text_of bytes) lines
  pub numbers : map (λ line. line.number) lines ≡ range_with_len first (length lines)

-- An entry's word stands before the slash. A slash that is the entry's first character is one of
-- its word.
abbrev pub word_text : List ℕ → List ℕ
word_text [] = []
word_text (c ∷ more) = if is_slash c then c ∷ before_slash more else before_slash (c ∷ more)

-- and its flags behind the slash
abbrev pub flag_text_of_entry : List ℕ → List ℕ
flag_text_of_entry [] = []
flag_text_of_entry (c ∷ more) = unwrap_or (behind_slash (if is_slash c then more else c ∷ more)) []

-- the word of an entry, with all its characters
abbrev pub whole_word : List ℕ → List ℕ
whole_word entry = chars (word_text entry)

-- the word of an entry, without the characters to ignore
abbrev pub word_of_entry : Affixes → List ℕ → List ℕ
word_of_entry affixes entry = without_ignored affixes.ignore (whole_word entry)

-- the flags of an entry, or what is wrong with them
abbrev pub flags_of_entry : Affixes → List ℕ → Result (List Flag) FlagFault
flags_of_entry affixes entry = flag_field affixes.kind affixes.aliases (flag_text_of_entry entry)
