-- What sessions at once have been told, and by which history.
use Rattle.std.specs.Prelude.{◌≡◌, ℕ, ◌+◌, List, [], ◌∷◌, ◌++◌, length, map, filter, codes}
use Rattle.std.specs.Fmt.{decimal}
use Rattle.std.specs.List.{list_any, range_with_len}
use Rattle.board_share.specs.edit_core.Runs.{IsRun, Run}
use Rattle.board_share.specs.edit_core.Seen.{Seen}
use Rattle.console_lang.specs.declared.reply.Reply.{Reply}
use Rattle.console_board.specs.Transcripts.{written_of}
use Rattle.team_history.specs.ToldBy.{AreOf, IsToldBy, NamedFiles, session_asks}
use Rattle.team_script.specs.Lines.{is_of, texts_of}
use Rattle.team_script.specs.declared.line.SessionLine.{SessionLine}

-- what a session is to do: its number, and its lines
pub record Script : Type 0 where
  pub session : ℕ
  pub lines : List (List ℕ)

-- the sessions that have a line, by rising number
abbrev pub sessions_in : List SessionLine → List ℕ
sessions_in lines = filter (λ session. list_any (is_of session) lines) (range_with_len 1 16)

-- what the lines of a script are to each of them
abbrev pub scripts_in : List SessionLine → List Script
scripts_in lines =
    map (λ session. record { session = session; lines = texts_of session lines })
    (sessions_in lines)

-- the line before the replies of a session
abbrev pub session_line : ℕ → List ℕ
session_line session = codes "session " ++ (decimal session ++ codes "\n")

-- What is printed of sessions, whose replies a history tells by the pairs of files that were loaded:
-- their entries have the numbers from one on.
abbrev pub AreToldBy : List NamedFiles → ℕ → Run → List Script → List (List ℕ) → Type 0
AreToldBy pairs by history [] texts = texts ≡ []
AreToldBy pairs by history (script ∷ scripts) [] = ⊥
AreToldBy pairs by history (script ∷ scripts) (text ∷ texts) =
    (replies : List Reply)
    × IsToldBy (record { by = by; number = script.session; pairs = pairs })
    (session_asks script.lines) replies history
    × (text ≡ session_line script.session ++ written_of replies)
    × AreToldBy pairs (by + 1) history scripts texts

-- A history that opens with this board tells what is printed of each session, whose dictionaries
-- were loaded of these pairs of files. It has no edits,
-- loads, parks and asks but those of the sessions, whose entries have the numbers from this first
-- one on.
pub record IsTeamwork (pairs : List NamedFiles) (first : ℕ) (opening : Seen) (scripts : List Script)
    (history : Run) (texts : List (List ℕ)) : Type 0 where
  pub run : IsRun history
  pub opens : history.opening ≡ opening
  pub told : AreToldBy pairs first history scripts texts
  pub no_others : AreOf first (length scripts) history.entries

-- the last line that is printed: the versions of a board
abbrev pub total_line : Seen → List ℕ
total_line board =
    codes "total text "
    ++ (decimal board.text_version
    ++ (codes " dict " ++ (decimal board.dict_version ++ codes "\n")))
