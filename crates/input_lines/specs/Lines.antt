-- The lines of an input that comes in pieces.
use Rattle.std.specs.Prelude.{◌≡◌, ℕ, ◌≤◌, Bool, true, not, ◌⊎◌, List, [], ◌∷◌, ◌++◌, length, drop}
use Rattle.std.specs.Prelude.{take_while, if◌then◌else◌}
use Rattle.std.specs.List.{list_any}
use Rattle.std.specs.Str.Lines.{strip_carriage_return}
use Rattle.text_lines.specs.Lines.{first_place, line_texts}
use Rattle.input_lines.specs.Answers.{HasNoBreak}
use Rattle.input_lines.specs.declared.limits.TheConstants.{INPUT_LIMIT, LINE_LIMIT}

abbrev pub IsShort : List ℕ → Type 0
IsShort line = length line ≤ LINE_LIMIT

-- bytes are at the end of a line, or at the start of all
abbrev pub EndsLine : List ℕ → Type 0
EndsLine bytes = (bytes ≡ []) ⊎ ((before : List ℕ) × (bytes ≡ before ++ 10 ∷ []))

-- the bytes of a piece between two line feeds without a byte order mark, which may stand at the
-- start of the first
abbrev pub unmarked : Bool → List ℕ → List ℕ
unmarked is_first piece = if is_first then drop (first_place piece) piece else piece

-- the line that a piece between two line feeds is: a carriage return at its end is not of the line
abbrev pub piece_text : Bool → List ℕ → List ℕ
piece_text is_first piece = strip_carriage_return (unmarked is_first piece)

-- the lines that are whole in some bytes: those whose line feeds are among them
pub record AreWhole (bytes : List ℕ) (lines : List (List ℕ)) : Type 0 where
  pub front : List ℕ
  pub rest : List ℕ
  pub parts : bytes ≡ front ++ rest
  pub ends : EndsLine front
  pub no_more : HasNoBreak rest
  pub lines_are : lines ≡ line_texts front

-- the lines before the first that ends the input
abbrev pub before_quit : (List ℕ → Bool) → List (List ℕ) → List (List ℕ)
before_quit quits lines = take_while (λ line. not (quits line)) lines

-- a line that ends the input stands among its first bytes, no more of them than are read
pub record QuitsEarly (quits : List ℕ → Bool) (input : List ℕ) : Type 0 where
  pub front : List ℕ
  pub later : List ℕ
  pub parts : input ≡ front ++ later
  pub ends : EndsLine front
  pub few : length front ≤ INPUT_LIMIT
  pub quits_there : list_any quits (line_texts front) ≡ true

-- what is read of an input is not too much: all of it is not, or a line ends it early enough
abbrev pub IsBounded : (List ℕ → Bool) → List ℕ → Type 0
IsBounded quits input = (length input ≤ INPUT_LIMIT) ⊎ QuitsEarly quits input
