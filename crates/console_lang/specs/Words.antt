-- The words of a line of the console, and the numbers and texts that they write.
use Rattle.std.specs.Prelude.{ℕ, ◌==◌, ◌&&◌, Bool, List, length, nat_le, Option, Some, None}
use Rattle.std.specs.Prelude.{if◌then◌else◌}
use Rattle.std.specs.List.{slice_split, join_with_byte, list_all}
use Rattle.std.specs.Str.Parse.{digits_value}
use Rattle.mark_types.specs.text_lines.Fields.{is_blank, is_decimal}

abbrev pub is_space : ℕ → Bool
is_space byte = byte == 32

-- whether a line is blank: nothing but spaces and tabs stands in it
abbrev pub is_blank_line : List ℕ → Bool
is_blank_line line = list_all is_blank line

-- the words of a text, which one space parts: between two spaces side by side stands an empty word
abbrev pub words_between_spaces : List ℕ → List (List ℕ)
words_between_spaces text = slice_split is_space text

-- the text that these words make, with a space between each two
abbrev pub text_of_words : List (List ℕ) → List ℕ
text_of_words words = join_with_byte 32 words

-- the number that a word of 1 to 9 ASCII digits writes
unfoldable pub number_of : List ℕ → Option ℕ
number_of word =
    if is_decimal word && nat_le (length word) 9 then Some (digits_value 10 word) else None
