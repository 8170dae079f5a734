-- What a line of a script says: which session it is for, and the text that the session is given.
use Rattle.std.specs.Prelude.{◌≡◌, ℕ, ◌≤◌, ◌&&◌, List, [], ◌∷◌, ◌++◌, length, nat_le, Option, Some}
use Rattle.std.specs.Prelude.{None, if◌then◌else◌, option_and_then}
use Rattle.std.specs.Option.{option_map}
use Rattle.console_lang.specs.declared.script.ScriptLine.{ScriptLine}
use Rattle.console_lang.specs.declared.script.ScriptLine.TheVariants.{Blank, Of, Bad}
use Rattle.console_lang.specs.Words.{is_blank_line, words_between_spaces, text_of_words, number_of}
use Rattle.console_lang.specs.CommandLines.{Writes, IsTail}

-- a number from 1 to 16
abbrev pub if_session : ℕ → Option ℕ
if_session number = if nat_le 1 number && nat_le number 16 then Some number else None

-- the session that a word of one or two ASCII digits names, if they write 1 to 16
unfoldable pub session_of : List ℕ → Option ℕ
session_of word =
    if nat_le (length word) 2 then option_and_then if_session (number_of word) else None

-- `K TEXT`: a session, and all words behind it as a text, which is empty where there is none
abbrev pub session_text : List (List ℕ) → Option (ℕ × List ℕ)
session_text [] = None
session_text (word ∷ text) = option_map (λ session. (session, text_of_words text)) (session_of word)

-- what a line may say: nothing, a text to a session, or what no line of a script says
pub data ScriptLineSaid : Type 0 where
  Nothing : ScriptLineSaid
  ToSession : ℕ → List ℕ → ScriptLineSaid
  Unreadable : ScriptLineSaid

abbrev pub or_unreadable : Option (ℕ × List ℕ) → ScriptLineSaid
or_unreadable (Some said) = ToSession said.0 said.1
or_unreadable None = Unreadable

-- what a line of a script says: nothing where it is blank, otherwise `K TEXT`, if it has that form
unfoldable pub script_of : List ℕ → ScriptLineSaid
script_of line =
    if is_blank_line line then Nothing else or_unreadable (session_text (words_between_spaces line))

-- what a line is read as, said so
abbrev pub said_as : ScriptLine → ScriptLineSaid
said_as Blank = Nothing
said_as (Of session text) = ToSession session text.now
said_as Bad = Unreadable

-- a line is for this session, with this text: one or two digits that write its number, which is 1
-- to 16, and behind them one space and the text, or also nothing where the text is empty
pub record IsFor (session : ℕ) (text line : List ℕ) : Type 0 where
  pub digits : List ℕ
  pub tail : List ℕ
  pub writes : Writes digits session
  pub few : length digits ≤ 2
  pub least : 1 ≤ session
  pub most : session ≤ 16
  pub ends : IsTail text tail
  pub line_is : line ≡ digits ++ tail
