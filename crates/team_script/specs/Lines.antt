-- What the lines of a script give the sessions, and which line is bad.
use Rattle.std.specs.Prelude.{◌≡◌, ℕ, ◌+◌, ◌≤◌, ◌==◌, ◌||◌, Bool, true, false, not, List, length}
use Rattle.std.specs.Prelude.{map, filter, All, nat_lt, position, Option, Some, None}
use Rattle.std.specs.Borrow.{Bor}
use Rattle.std.specs.List.{AllByRecursion, filter_map}
use Rattle.std.specs.Option.{option_map}
use Rattle.std.specs.Str.{is_utf8}
use Rattle.console_lang.specs.Scripts.{ScriptLineSaid, ToSession, Unreadable, script_of}
use Rattle.team_script.specs.declared.line.SessionLine.{SessionLine}

-- the line that a session is told, if one is
abbrev pub told_by : ScriptLineSaid → Option SessionLine
told_by (ToSession session text) = Some (record { session = session; text = text })
told_by _ = None

-- what the line with this text tells a session
abbrev pub line_told : List ℕ → Option SessionLine
line_told text = told_by (script_of text)

-- the lines of the sessions, in the order of the file
abbrev pub told_in : List (List ℕ) → List SessionLine
told_in texts = filter_map line_told texts

-- whether a line that says this is of no form
abbrev pub is_unreadable : ScriptLineSaid → Bool
is_unreadable Unreadable = true
is_unreadable _ = false

abbrev pub is_formless : List ℕ → Bool
is_formless text = is_unreadable (script_of text)

-- a line is bad where it is not UTF-8, or of no form
abbrev pub is_bad : List ℕ → Bool
is_bad text = not (is_utf8 text) || is_formless text

-- the number of the first bad line, from 1
abbrev pub first_bad : List (List ℕ) → Option ℕ
first_bad texts = option_map (λ place. place + 1) (position is_bad texts)

-- a line is for a session from 1 to 16
pub record IsNumbered (line : SessionLine) : Type 0 where
  pub least : 1 ≤ line.session
  pub most : line.session ≤ 16

-- how many bytes the text of a session's line has at most
abbrev pub text_limit : ℕ
text_limit = 131072

abbrev pub is_long : SessionLine → Bool
is_long line = nat_lt text_limit (length line.text)

-- whether a line is for this session
abbrev pub is_of : ℕ → SessionLine → Bool
is_of session line = line.session == session

-- the texts of a session, in their order
abbrev pub texts_of : ℕ → List SessionLine → List (List ℕ)
texts_of session lines = map (λ line. line.text) (filter (is_of session) lines)

-- no text is too long
abbrev pub HaveShort : List SessionLine → Type 0
HaveShort lines = All (λ line. length line.text ≤ text_limit) lines

abbrev pub AreShort : List (List ℕ) → Type 0
AreShort texts = All (λ text. length text ≤ text_limit) texts

-- bytes without a line feed
abbrev pub HasNoBreak : List ℕ → Type 0
HasNoBreak bytes = AllByRecursion (λ byte. ¬ (byte ≡ 10)) bytes

-- no text has a line feed
abbrev pub HaveWhole : List SessionLine → Type 0
HaveWhole lines = All (λ line. HasNoBreak line.text) lines

-- texts that are lent, as their bytes
abbrev pub lent : List (Bor (List ℕ)) → List (List ℕ)
lent texts = map (λ text. text.now) texts
