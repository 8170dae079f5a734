-- What the lines of each command look like.
use Rattle.std.specs.Prelude.{◌≡◌, ℕ, ◌≤◌, ◌⊎◌, true, false, List, [], ◌++◌, length, codes}
use Rattle.std.specs.List.{list_any}
use Rattle.std.specs.Str.Parse.{digits_value}
use Rattle.mark_types.specs.text_lines.Fields.{has_bytes, is_decimal}
use Rattle.console_lang.specs.declared.command.Command.{Command}
use Rattle.console_lang.specs.declared.command.Command.TheVariants.{Ins, Put, Sub, Del, Load, Stop}
use Rattle.console_lang.specs.declared.command.Command.TheVariants.{Ask, Own, Show, Settle, Quit}
use Rattle.console_lang.specs.Words.{is_space}

-- 1 to 9 digits that write this number
pub record Writes (digits : List ℕ) (number : ℕ) : Type 0 where
  pub decimal : is_decimal digits ≡ true
  pub short : length digits ≤ 9
  pub value : digits_value 10 digits ≡ number

-- what stands behind a number or a name for this text: a space and the text, or also nothing where
-- the text is empty
abbrev pub IsTail : List ℕ → List ℕ → Type 0
IsTail text tail = (tail ≡ codes " " ++ text) ⊎ ((text ≡ []) × (tail ≡ []))

-- a name of a file is not empty and holds no space
pub record IsName (name : List ℕ) : Type 0 where
  pub some : has_bytes name ≡ true
  pub whole : list_any is_space name ≡ false

-- `NAME P`
pub record IsNameAndPlace (name : List ℕ) (place : ℕ) (line : List ℕ) : Type 0 where
  pub digits : List ℕ
  pub writes : Writes digits place
  pub line_is : line ≡ name ++ (codes " " ++ digits)

-- `NAME P TEXT`
pub record IsPlacedText (name : List ℕ) (place : ℕ) (text line : List ℕ) : Type 0 where
  pub digits : List ℕ
  pub tail : List ℕ
  pub writes : Writes digits place
  pub ends : IsTail text tail
  pub line_is : line ≡ name ++ (codes " " ++ (digits ++ tail))

-- `NAME P FROM TO TEXT`
pub record IsPlacedSpan (name : List ℕ) (place from to : ℕ) (text line : List ℕ) : Type 0 where
  pub place_digits : List ℕ
  pub from_digits : List ℕ
  pub to_digits : List ℕ
  pub tail : List ℕ
  pub writes_place : Writes place_digits place
  pub writes_from : Writes from_digits from
  pub writes_to : Writes to_digits to
  pub ends : IsTail text tail
  pub line_is : line ≡ name
      ++ (codes " "
      ++ (place_digits ++ (codes " " ++ (from_digits ++ (codes " " ++ (to_digits ++ tail))))))

-- `NAME AFF DIC`
pub record IsPair (name aff dic line : List ℕ) : Type 0 where
  pub aff_name : IsName aff
  pub dic_name : IsName dic
  pub line_is : line ≡ name ++ (codes " " ++ (aff ++ (codes " " ++ dic)))

-- `NAME TEXT`
pub record IsWithText (name text line : List ℕ) : Type 0 where
  pub tail : List ℕ
  pub ends : IsTail text tail
  pub line_is : line ≡ name ++ tail

-- the line is one of the command's
abbrev pub IsLineOf : Command → List ℕ → Type 0
IsLineOf (Ins place text) line = IsPlacedText (codes "ins") place text line
IsLineOf (Put place text) line = IsPlacedText (codes "put") place text line
IsLineOf (Sub place from to text) line = IsPlacedSpan (codes "sub") place from to text line
IsLineOf (Del place) line = IsNameAndPlace (codes "del") place line
IsLineOf (Load aff dic) line = IsPair (codes "load") aff dic line
IsLineOf (Own text) line = IsWithText (codes "own") text line
IsLineOf (Stop place) line = IsNameAndPlace (codes "stop") place line
IsLineOf (Ask place) line = IsNameAndPlace (codes "ask") place line
IsLineOf Show line = line ≡ codes "show"
IsLineOf Settle line = line ≡ codes "settle"
IsLineOf Quit line = line ≡ codes "quit"
