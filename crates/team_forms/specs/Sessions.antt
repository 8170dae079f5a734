-- A session before and behind its lines.
use Rattle.std.specs.Prelude.{◌≡◌, ℕ, true, false, List, [], ◌∷◌, ◌++◌, length, All, Option, None}
use Rattle.std.specs.Prelude.{Some, IfSome}
use Rattle.std.specs.Option.{option_map}
use Rattle.mark_types.specs.spell_types.declared.Lexicon.{Lexicon}
use Rattle.board_share.specs.edit_core.Seen.{Seen}
use Rattle.board_share.specs.Eyes.{EyeSeen}
use Rattle.console_lang.specs.declared.command.Command.{Command}
use Rattle.console_lang.specs.declared.reply.Reply.{Reply}
use Rattle.input_lines.specs.Answers.{HasNoBreak}
use Rattle.input_lines.specs.declared.responder.Flow.{Flow}
use Rattle.input_lines.specs.declared.responder.Flow.TheVariants.{On, Quit}
use Rattle.console_board.specs.Transcripts.{asked_for, is_quit, line_says, written_of}
use Rattle.desk_console.specs.declared.stop.Stop.{Stop}
use Rattle.desk_console.specs.declared.stop.Stop.TheVariants as stop
use Rattle.team_history.specs.Eyes.{AsksAtMost, HasHeard, IsAtLastPoint, IsSaidTo}
use Rattle.team_history.specs.ToldBy.{Session, session_asks, without_own}
use Rattle.team_forms.specs.Pairs.{IsLoaded, LoadsHeld}
use Rattle.team_forms.specs.declared.pairs.LoadedPair.{LoadedPair}

-- ---- why a session may be stopped

-- memory is wanting, or its eye knows the last point that a history may have
abbrev pub MayStop : EyeSeen → Stop → Type 0
MayStop eye stop.Wanting = Unit {0}
MayStop eye (stop.Spent point) = IsAtLastPoint eye

-- ---- one line

-- what a line asks for, if it asks for anything
abbrev pub line_asks : List ℕ → Option (Option Command)
line_asks line = option_map without_own (asked_for (line_says line))

-- the session with this number is one whose dictionaries were loaded so
pub record IsOf {J : Type 0} (lexicon_of : J → Lexicon) (pairs : List (LoadedPair J)) (number : ℕ)
    (session : Session) : Type 0 where
  pub number_is : session.number ≡ number
  pub loaded : All (IsLoaded lexicon_of session.pairs) pairs

-- what is asked for was replied to, and the reply was added to a text
pub record IsSessionReplied {J : Type 0} (lexicon_of : J → Lexicon) (pairs : List (LoadedPair J))
    (number : ℕ) (asked : Option Command) (old new : EyeSeen) (text text_now : List ℕ) : Type
    0 where
  pub reply : Reply
  pub said : (session : Session) → IsOf lexicon_of pairs number session
      → IsSaidTo session old asked new reply
  pub text_is : text_now ≡ text ++ written_of (reply ∷ [])

-- nothing is done for a line that asks for nothing
abbrev pub IsSessionAnswered : {J : Type 0} → (J → Lexicon) → List (LoadedPair J) → ℕ
    → Option (Option Command) → EyeSeen → EyeSeen → List ℕ → List ℕ → Type 0
IsSessionAnswered lexicon_of pairs number None old new text text_now = (new ≡ old) × (text_now ≡ text)
IsSessionAnswered lexicon_of pairs number (Some asked) old new text text_now =
    IsSessionReplied lexicon_of pairs number asked old new text text_now

-- a line was answered, or it ends the session
abbrev pub AnswersSessionLine : {J : Type 0} → (J → Lexicon) → List (LoadedPair J) → ℕ → List ℕ
    → EyeSeen
    → EyeSeen → List ℕ → List ℕ → Flow → Type 0
AnswersSessionLine lexicon_of pairs number line old new text text_now On =
    (is_quit line ≡ false)
    × IsSessionAnswered lexicon_of pairs number (line_asks line) old new text text_now
AnswersSessionLine lexicon_of pairs number line old new text text_now Quit =
    (is_quit line ≡ true) × ((new ≡ old) × (text_now ≡ text))

-- ---- all lines

-- the lines of a session have these replies, which were added to a text
pub record HasAnswered (session : Session) (opening : Seen) (lines : List (List ℕ))
    (text text_now : List ℕ) (eye : EyeSeen) : Type 0 where
  pub replies : List Reply
  pub heard : HasHeard session opening (session_asks lines) replies eye
  pub text_is : text_now ≡ text ++ written_of replies

-- all lines are answered from an eye on that has not heard anything
abbrev pub AnswersAll : {J : Type 0} → (J → Lexicon) → List (LoadedPair J) → ℕ → List (List ℕ)
    → EyeSeen → EyeSeen → List ℕ → List ℕ → Type 0
AnswersAll lexicon_of pairs number lines old new text text_now =
    (session : Session) (opening : Seen) → IsOf lexicon_of pairs number session
    → HasHeard session opening [] [] old → HasAnswered session opening lines text text_now new

-- a session: its number, its lines, the pairs that were loaded, its eye, what is to be printed of
-- it so far, and why it was stopped, if it was
pub record SessionSeen (J : Type 0) : Type 0 where
  pub number : ℕ
  pub lines : List (List ℕ)
  pub pairs : List (LoadedPair J)
  pub eye : EyeSeen
  pub text : List ℕ
  pub stopped : Option Stop

-- its lines can be answered: they have no line feeds, and the pairs that they load are there
pub record IsSessionReady {J : Type 0} (session : SessionSeen J) : Type 0 where
  pub whole : All HasNoBreak session.lines
  pub held : All (LoadsHeld session.pairs) session.lines

-- It asked for one event a line at most, checks aside. Its lines were answered, or it was stopped.
pub record HasPerformed {J : Type 0} (lexicon_of : J → Lexicon) (old new : SessionSeen J) : Type
    0 where
  pub asks : AsksAtMost (length old.lines) old.eye new.eye
  pub cut : IfSome new.stopped (MayStop new.eye)
  pub answered : new.stopped ≡ None
      → AnswersAll lexicon_of old.pairs old.number old.lines old.eye new.eye old.text new.text
