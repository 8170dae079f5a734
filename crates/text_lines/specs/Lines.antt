-- What the lines of a file are. A line ends at a line feed or at the end of the bytes; a last piece
-- without bytes is no line.
use Rattle.std.specs.Prelude.{◌≡◌, ℕ, ◌+◌, ◌<◌, ◌≤◌, ◌==◌, Bool, true, not, List, [], ◌∷◌, map}
use Rattle.std.specs.Prelude.{length, drop, nat_eq, nat_lt, find, take_while, Option, Some, None}
use Rattle.std.specs.Prelude.{slice_range, if◌then◌else◌}
use Rattle.std.specs.List.{slice_split, starts_with}
use Rattle.std.specs.Option.{option_map}
use Rattle.std.specs.Str.{is_utf8}
use Rattle.std.specs.Str.Lines.{strip_carriage_return}
use Rattle.text_lines.specs.declared.found.Ahead.{Ahead}
use Rattle.text_lines.specs.declared.found.Line.{Line}

-- the bytes of a byte order mark
abbrev pub byte_order_mark : List ℕ
byte_order_mark = 0xef ∷ 0xbb ∷ 0xbf ∷ []

-- where the first line begins: behind a byte order mark, which is of no line
abbrev pub first_place : List ℕ → ℕ
first_place bytes = if starts_with nat_eq bytes byte_order_mark then 3 else 0

-- whether a byte is a line feed
abbrev pub is_line_feed : ℕ → Bool
is_line_feed byte = byte == 10

-- the line of a piece that begins at a place: a carriage return at the piece's end is not of the
-- line, but only the last one
abbrev pub line_at : ℕ → ℕ → List ℕ → Line
line_at number place piece =
    record { number = number; from = place; to = place + length (strip_carriage_return piece) }

-- the lines of the pieces between line feeds, where the first piece begins at a place and its line
-- has a number
abbrev pub lines_from : ℕ → ℕ → List (List ℕ) → List Line
lines_from number place [] = []
lines_from number place (piece ∷ []) =
    if length piece == 0 then [] else line_at number place piece ∷ []
lines_from number place (piece ∷ next ∷ more) =
    line_at number place piece ∷ lines_from (number + 1) (place + length piece + 1) (next ∷ more)

-- the lines from a place on, the first of them with a number
unfoldable pub lines_after : List ℕ → ℕ → ℕ → List Line
lines_after bytes number place =
    lines_from number place (slice_split is_line_feed (drop place bytes))

-- the lines of a file, numbered from 1
abbrev pub all_lines : List ℕ → List Line
all_lines bytes = lines_after bytes 1 (first_place bytes)

-- the bytes of a line
abbrev pub text_of : List ℕ → Line → List ℕ
text_of bytes line = slice_range bytes line.from line.to

-- the bytes of each line
abbrev pub line_texts : List ℕ → List (List ℕ)
line_texts bytes = map (text_of bytes) (all_lines bytes)

-- whether the bytes of a line are UTF-8
abbrev pub is_text : List ℕ → Line → Bool
is_text bytes line = is_utf8 (text_of bytes line)

-- the lines before the first that is not UTF-8
abbrev pub good_lines : List ℕ → List Line
good_lines bytes = take_while (is_text bytes) (all_lines bytes)

-- the number of the first line that is not UTF-8
abbrev pub bad_line : List ℕ → Option ℕ
bad_line bytes =
    option_map (λ line. line.number) (find (λ line. not (is_text bytes line)) (all_lines bytes))

-- the lines from here on before the first that is not UTF-8
abbrev pub good_ahead : List ℕ → Ahead → List Line
good_ahead bytes ahead = take_while (is_text bytes) (lines_after bytes ahead.number ahead.place)

-- the number of the first line from here on that is not UTF-8
abbrev pub bad_ahead : List ℕ → Ahead → Option ℕ
bad_ahead bytes ahead =
    option_map (λ line. line.number)
    (find (λ line. not (is_text bytes line)) (lines_after bytes ahead.number ahead.place))

-- the line that comes next, if one does, and the good lines behind it
abbrev pub good_from : List ℕ → Option (Line × Ahead) → List Line
good_from bytes None = []
good_from bytes (Some found) = found.0 ∷ good_ahead bytes found.1

-- the number of the line that is here, unless the bytes are at their end
abbrev pub number_here : List ℕ → Ahead → Option ℕ
number_here bytes ahead = if nat_lt ahead.place (length bytes) then Some ahead.number else None

-- the line stands in the bytes, and its own bytes are UTF-8
pub record IsInside (bytes : List ℕ) (line : Line) : Type 0 where
  pub ordered : line.from ≤ line.to
  pub within : line.to ≤ length bytes
  pub utf8 : is_text bytes line ≡ true

-- the line is the first from here on, and the others are behind it
pub record ComesNext (bytes : List ℕ) (ahead : Ahead) (found : Line × Ahead) : Type 0 where
  pub inside : IsInside bytes found.0
  pub number : found.0.number ≡ ahead.number
  pub next_number : found.1.number ≡ ahead.number + 1
  pub begins : ahead.place ≤ found.0.from
  pub ends : found.0.to < found.1.place
  pub within : found.1.place ≤ length bytes + 1
  pub few : found.1.number ≤ length bytes + 1
  pub bad : bad_ahead bytes found.1 ≡ bad_ahead bytes ahead
