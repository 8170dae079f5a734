-- The replies of a session, told by a history that many sessions make at once.
use Rattle.std.specs.Prelude.{◌≡◌, ℕ, ◌+◌, ◌<◌, ◌≤◌, ◌⊎◌, ◌++◌, ◌&&◌, Bool, true, false, not, List}
use Rattle.std.specs.Prelude.{[], ◌∷◌, length, map, Option, None, Some, Result, Ok, Err}
use Rattle.std.specs.Prelude.{Contains, if◌then◌else◌}
use Rattle.std.specs.List.{AllByRecursion}
use Rattle.spell_types.specs.declared.Lexicon.{Lexicon}
use Rattle.dictionary_swap.specs.Loads.{DictionaryFiles, lexicon_due}
use Rattle.dictionary_swap.specs.declared.fault.LoadFault.{LoadFault}
use Rattle.board_share.specs.edit_core.Events.{SeenEvent, ALoad}
use Rattle.board_share.specs.edit_core.Runs.{Entry, Run, events_asked_by, is_quiet, last_board}
use Rattle.board_share.specs.edit_core.Seen.{Seen}
use Rattle.board_share.specs.edit_core.Steps.{first_refusal}
use Rattle.board_share.specs.edit_core.declared.refusal.Refusal.{Refusal}
use Rattle.board_share.specs.Settled.{AreClosedIn}
use Rattle.console_lang.specs.declared.command.Command.{Command}
use Rattle.console_lang.specs.declared.command.Command.TheVariants.{Load, Own, Show, Settle, Quit}
use Rattle.console_lang.specs.declared.reply.Reply.{Reply}
use Rattle.console_lang.specs.declared.reply.Reply.TheVariants.{Done, Dict, NoCommand, NoPlace}
use Rattle.console_board.specs.BoardAnswers.{PutsWhole, event_for, look_reply, reply_for}
use Rattle.console_board.specs.OwnConsoles.{fault_reply}
use Rattle.console_board.specs.Transcripts.{commands_asked_by, lines_before_quit}

-- two files by their names, and what there is of them
pub record NamedFiles : Type 0 where
  pub aff : List ℕ
  pub dic : List ℕ
  pub there : DictionaryFiles

-- a session: the number that its entries in the history have, the number that its events name, and
-- the pairs of files that its dictionaries were loaded of
pub record Session : Type 0 where
  pub by : ℕ
  pub number : ℕ
  pub pairs : List NamedFiles

-- ---- what its lines ask for

-- a session has no list of personal words, so `own` is no command
abbrev pub without_own : Option Command → Option Command
without_own (Some (Own text)) = None
without_own asked = asked

-- what the lines of a session ask for, up to the first that is `quit`
abbrev pub session_asks : List (List ℕ) → List (Option Command)
session_asks lines = map without_own (commands_asked_by (lines_before_quit lines))

-- ---- commands that name a place

-- The command looks at a board of the stretch. The stretch ends with the event that the command is
-- over that board, and the reply tells the version of the text behind it.
pub record IsSessionEventTaken (session : Session) (command : Command) (board : Seen) (part : List Entry)
    (reply : Reply) : Type 0 where
  pub skipped : List Entry
  pub between : List Entry
  pub entry : Entry
  pub part_is : part ≡ (skipped ++ between) ++ entry ∷ []
  pub own : entry.by ≡ session.by
  pub event_is : event_for session.number (last_board board skipped) command ≡ Some entry.event
  pub replied : reply ≡ Done entry.board.text_version

-- on the last board of the stretch the command names no place, which is told with its number of
-- paragraphs
pub record IsNoPlace (session : Session) (command : Command) (board : Seen) (part : List Entry)
    (reply : Reply) : Type 0 where
  pub none : event_for session.number (last_board board part) command ≡ None
  pub replied : reply ≡ NoPlace (length (last_board board part).paragraphs)

-- The command looks at a board of the stretch. The last board of the stretch refuses the event that
-- the command is over that board, and the refusal is replied. A text that the command replaces
-- whole has whole characters, as each text in memory has.
pub record IsTurnedDown (session : Session) (command : Command) (board : Seen) (part : List Entry)
    (reply : Reply) : Type 0 where
  pub skipped : List Entry
  pub behind : List Entry
  pub part_is : part ≡ skipped ++ behind
  pub whole : PutsWhole (last_board board skipped) command
  pub event : SeenEvent
  pub event_is : event_for session.number (last_board board skipped) command ≡ Some event
  pub refusal : Refusal
  pub first : first_refusal (last_board board part) event ≡ Some refusal
  pub reply_is : reply_for refusal ≡ Some reply

pub data IsPlaceToldIn (session : Session) (command : Command) (board : Seen) (part : List Entry)
    (reply : Reply) : Type 0 where
  Taken : IsSessionEventTaken session command board part reply
      → IsPlaceToldIn session command board part reply
  NoSuchPlace : IsNoPlace session command board part reply
      → IsPlaceToldIn session command board part reply
  TurnedDown : IsTurnedDown session command board part reply
      → IsPlaceToldIn session command board part reply

-- ---- dictionaries

-- a stretch ends with the event by which a dictionary comes into force, and the reply tells the
-- dictionary's version behind it
pub record IsBroughtIn (by : ℕ) (lexicon : Lexicon) (part : List Entry) (reply : Reply) : Type
    0 where
  pub before : List Entry
  pub entry : Entry
  pub part_is : part ≡ before ++ entry ∷ []
  pub own : entry.by ≡ by
  pub event_is : entry.event ≡ ALoad lexicon
  pub replied : reply ≡ Dict entry.board.dict_version

-- what is due of two files comes into force, or its fault is replied
abbrev pub IsLoadDone : ℕ → Result Lexicon LoadFault → List Entry → Reply → Type 0
IsLoadDone by (Ok lexicon) part reply = IsBroughtIn by lexicon part reply
IsLoadDone by (Err fault) part reply = (part ≡ []) × (reply ≡ fault_reply fault)

-- the two files are a pair of those that were loaded
pub record IsLoadToldIn (session : Session) (aff dic : List ℕ) (part : List Entry)
    (reply : Reply) : Type 0 where
  pub there : DictionaryFiles
  pub is_there : Contains session.pairs (record { aff = aff; dic = dic; there = there })
  pub done : IsLoadDone session.by (lexicon_due there) part reply

-- ---- what is settled

-- each paragraph that was open on some board of the stretch is settled behind that one, and the
-- reply tells the text's version of the last
pub record IsSettledIn (board : Seen) (part : List Entry) (reply : Reply) : Type 0 where
  pub skipped : List Entry
  pub behind : List Entry
  pub part_is : part ≡ skipped ++ behind
  pub settled : AreClosedIn (last_board board skipped) behind
  pub replied : reply ≡ Done (last_board board part).text_version

-- ---- all commands

-- how a command is replied to in a stretch behind a board
unfoldable pub IsToldIn : Session → Seen → List Entry → Command → Reply → Type 0
IsToldIn session board part (Load aff dic) reply = IsLoadToldIn session aff dic part reply
IsToldIn session board part (Own text) reply = ⊥
IsToldIn session board part Show reply = reply ≡ look_reply (last_board board part)
IsToldIn session board part Settle reply = IsSettledIn board part reply
IsToldIn session board part Quit reply = ⊥
IsToldIn session board part command reply = IsPlaceToldIn session command board part reply

-- so it is where a command is asked for, or a line is none
abbrev pub IsOneToldIn : Session → Seen → List Entry → Option Command → Reply → Type 0
IsOneToldIn session board part None reply = (part ≡ []) × (reply ≡ NoCommand)
IsOneToldIn session board part (Some command) reply = IsToldIn session board part command reply

-- The events behind a board are cut into a stretch for each that is asked for, in order. Behind the
-- last stretch may come anything.
abbrev pub AreToldIn : Session → Seen → List Entry → List (Option Command) → List Reply → Type 0
AreToldIn session board entries [] replies = replies ≡ []
AreToldIn session board entries (asked ∷ more) [] = ⊥
AreToldIn session board entries (asked ∷ more) (reply ∷ replies) =
    (part : List Entry) × (rest : List Entry) × (entries ≡ part ++ rest)
    × IsOneToldIn session board part asked reply
    × AreToldIn session (last_board board part) rest more replies

-- whether a reply tells of an event; that of `settle` tells of checks alone
abbrev pub is_settle : Option Command → Bool
is_settle (Some Settle) = true
is_settle asked = false

abbrev pub tells_event : Reply → Bool
tells_event (Done text) = true
tells_event (Dict dict) = true
tells_event reply = false

-- whether a reply tells that an edit, a load, a park or an ask was taken
abbrev pub is_taken : Option Command → Reply → Bool
is_taken asked reply = tells_event reply && not (is_settle asked)

-- how many replies tell that
abbrev pub taken_in : List (Option Command) → List Reply → ℕ
taken_in (asked ∷ more) (reply ∷ replies) =
    (if is_taken asked reply then 1 else 0) + taken_in more replies
taken_in commands replies = 0

-- A history tells the replies of a session. Of its edits, loads, parks and asks as many are the
-- session's as were taken by its replies, each of which has one of its own: so these are all.
pub record IsToldBy (session : Session) (commands : List (Option Command)) (replies : List Reply)
    (history : Run) : Type 0 where
  pub cut : AreToldIn session history.opening history.entries commands replies
  pub no_more : events_asked_by session.by history.entries ≡ taken_in commands replies

-- all edits, loads, parks and asks of a history have a number from one on, of so many
abbrev pub AreOf : (first count : ℕ) → List Entry → Type 0
AreOf first count entries =
    AllByRecursion
    (λ entry. (is_quiet entry.event ≡ true)
    ⊎ ((first ≤ entry.by) × (entry.by < first + count))) entries
