-- A history in which the commands of one console are followed, one after another: the events of the
-- console are the only ones that are not of workers.
use Rattle.std.specs.Prelude.{◌≡◌, ℕ, zero, suc, ◌++◌, List, [], ◌∷◌, length, Option, None, Some}
use Rattle.std.specs.Prelude.{Result, Ok, Err}
use Rattle.std.specs.List.{AllByRecursion}
use Rattle.outside.specs.Files.{Folder}
use Rattle.spell_types.specs.declared.Lexicon.{Lexicon}
use Rattle.personal_words.specs.declared.items.OwnItem.{OwnItem}
use Rattle.personal_words.specs.declared.faults.OwnLineWhy.{OwnLineWhy}
use Rattle.personal_words.specs.Lists.{added}
use Rattle.personal_words.specs.Dictionaries.{OwnSeen, in_force}
use Rattle.dictionary_swap.specs.Loads.{DictionaryFiles, lexicon_due}
use Rattle.dictionary_swap.specs.declared.fault.LoadFault.{LoadFault}
use Rattle.board_share.specs.edit_core.Events.{SeenEvent, ALoad}
use Rattle.board_share.specs.edit_core.Runs.{AreQuiet, Entry, IsRun, Run, last_board}
use Rattle.board_share.specs.edit_core.Seen.{Seen, opening_of}
use Rattle.board_share.specs.edit_core.Steps.{first_refusal}
use Rattle.board_share.specs.edit_core.declared.refusal.Refusal.{Refusal}
use Rattle.board_share.specs.Settled.{AreClosedIn}
use Rattle.console_lang.specs.declared.command.Command.{Command}
use Rattle.console_lang.specs.declared.command.Command.TheVariants.{Load, Own, Show, Settle, Quit}
use Rattle.console_lang.specs.declared.reply.Reply.{Reply}
use Rattle.console_lang.specs.declared.reply.Reply.TheVariants.{Done, Dict, NoCommand, NoFiles}
use Rattle.console_lang.specs.declared.reply.Reply.TheVariants.{NoOwn, NoPlace}
use Rattle.console_board.specs.BoardAnswers.{PutsWhole, event_for, look_reply, reply_for}
use Rattle.console_board.specs.OwnConsoles.{fault_reply}
use Rattle.console_board.specs.Transcripts.{IsThere}

-- the console of this number, which its edits, parks and asks name too, beside so many workers, and
-- the folder that is told
pub record Given : Type 0 where
  pub workers : ℕ
  pub folder : Option Folder
  pub by : ℕ
  pub session : ℕ

-- what comes between the console's own events: nothing but events of workers, and nothing at all
-- where there is no worker
abbrev pub AreBetween : ℕ → List Entry → Type 0
AreBetween zero entries = entries ≡ []
AreBetween (suc workers) entries = AreQuiet entries

-- a stretch of a history is one event of the console, behind what came between
pub record IsOwnEvent (given : Given) (part : List Entry) : Type 0 where
  pub between : List Entry
  pub are_between : AreBetween given.workers between
  pub entry : Entry
  pub part_is : part ≡ between ++ entry ∷ []
  pub own : entry.by ≡ given.by

-- a stretch is the event that a command is over the board before it, and the reply tells the text's
-- version of the board behind it
pub record IsConsoleEventTaken (given : Given) (command : Command) (board : Seen) (part : List Entry)
    (reply : Reply) : Type 0 where
  pub is_own : IsOwnEvent given part
  pub event_is : event_for given.session (last_board board is_own.between) command
      ≡ Some is_own.entry.event
  pub replied : reply ≡ Done is_own.entry.board.text_version

-- a stretch has no event of the console; on its last board the command names no place, which is
-- told with the number of paragraphs
pub record HasNoPlaceInConsole (given : Given) (command : Command) (board : Seen) (part : List Entry)
    (reply : Reply) : Type 0 where
  pub are_between : AreBetween given.workers part
  pub none : event_for given.session (last_board board part) command ≡ None
  pub replied : reply ≡ NoPlace (length (last_board board part).paragraphs)

-- a stretch has no event of the console; its last board refuses the event that the command is over
-- it, and the refusal is replied. A text that the command replaces whole has whole characters, as
-- each text in memory has, so none is refused as a bad span.
pub record IsConsoleTurnedDown (given : Given) (command : Command) (board : Seen) (part : List Entry)
    (reply : Reply) : Type 0 where
  pub are_between : AreBetween given.workers part
  pub whole : PutsWhole (last_board board part) command
  pub event : SeenEvent
  pub event_is : event_for given.session (last_board board part) command ≡ Some event
  pub refusal : Refusal
  pub first : first_refusal (last_board board part) event ≡ Some refusal
  pub reply_is : reply_for refusal ≡ Some reply

-- how a command that names a place is followed
pub data IsPlaceFollowed (given : Given) (command : Command) (board : Seen) (part : List Entry)
    (reply : Reply) : Type 0 where
  Taken : IsConsoleEventTaken given command board part reply
      → IsPlaceFollowed given command board part reply
  NoSuchPlace : HasNoPlaceInConsole given command board part reply
      → IsPlaceFollowed given command board part reply
  TurnedDown : IsConsoleTurnedDown given command board part reply
      → IsPlaceFollowed given command board part reply

-- ---- dictionaries

-- a stretch is the event by which a dictionary comes into force, and the reply tells the
-- dictionary's version of the board behind it
pub record IsReload (given : Given) (dictionary : OwnSeen) (board : Seen) (part : List Entry)
    (reply : Reply) : Type 0 where
  pub is_own : IsOwnEvent given part
  pub event_is : is_own.entry.event ≡ ALoad (in_force dictionary)
  pub replied : reply ≡ Dict is_own.entry.board.dict_version

-- `load`, by what is due of the two files
abbrev pub IsBaseFollowed : Given → OwnSeen → Result Lexicon LoadFault → Seen → List Entry → OwnSeen
    → Reply → Type 0
IsBaseFollowed given before (Ok base) board part after reply =
    (after ≡ record before { base = base }) × IsReload given after board part reply
IsBaseFollowed given before (Err fault) board part after reply =
    AreBetween given.workers part × ((after ≡ before) × (reply ≡ fault_reply fault))

pub data IsLoadFollowed (given : Given) (aff dic : List ℕ) (before : OwnSeen) (board : Seen)
    (part : List Entry) (after : OwnSeen) (reply : Reply) : Type 0 where
  Due : (there : DictionaryFiles) → IsThere given.folder aff dic there
      → IsBaseFollowed given before (lexicon_due there) board part after reply
      → IsLoadFollowed given aff dic before board part after reply
  FilesFailed : AreBetween given.workers part → after ≡ before → reply ≡ NoFiles
      → IsLoadFollowed given aff dic before board part after reply

-- `own`, by what its text says as one more line of the list
abbrev pub IsItemFollowed : Given → OwnSeen → Result (Option OwnItem) OwnLineWhy → Seen → List Entry
    → OwnSeen → Reply → Type 0
IsItemFollowed given before (Ok None) board part after reply =
    AreBetween given.workers part
    × ((after ≡ before) × (reply ≡ Done (last_board board part).text_version))
IsItemFollowed given before (Ok (Some item)) board part after reply =
    (after ≡ record before { own = before.own ++ item ∷ [] })
    × IsReload given after board part reply
IsItemFollowed given before (Err why) board part after reply =
    AreBetween given.workers part × ((after ≡ before) × (reply ≡ NoOwn why))

-- ---- what is settled

-- without workers all events of a stretch are the console's own
abbrev pub AreOwnAlone : Given → List Entry → Type 0
AreOwnAlone given entries =
    given.workers ≡ 0 → AllByRecursion (λ entry. entry.by ≡ given.by) entries

-- A stretch has no events but claims and finished checks, and without workers all are the
-- console's. Each paragraph that was open on some board of it is settled behind that one, and the
-- reply tells the text's version of the last.
pub record IsConsoleSettledIn (given : Given) (board : Seen) (part : List Entry)
    (reply : Reply) : Type 0 where
  pub quiet : AreQuiet part
  pub own : AreOwnAlone given part
  pub skipped : List Entry
  pub behind : List Entry
  pub part_is : part ≡ skipped ++ behind
  pub settled : AreClosedIn (last_board board skipped) behind
  pub replied : reply ≡ Done (last_board board part).text_version

-- ---- all commands

-- how a command is followed in a stretch behind a board, and with which dictionary then
unfoldable pub IsFollowed : Given → OwnSeen → Command → Seen → List Entry → OwnSeen → Reply → Type 0
IsFollowed given before (Load aff dic) board part after reply =
    IsLoadFollowed given aff dic before board part after reply
IsFollowed given before (Own text) board part after reply =
    IsItemFollowed given before (added before.base.affixes before.own text) board part after reply
IsFollowed given before Show board part after reply =
    AreBetween given.workers part
    × ((after ≡ before) × (reply ≡ look_reply (last_board board part)))
IsFollowed given before Settle board part after reply =
    (after ≡ before) × IsConsoleSettledIn given board part reply
IsFollowed given before Quit board part after reply = ⊥
IsFollowed given before command board part after reply =
    (after ≡ before) × IsPlaceFollowed given command board part reply

-- so it is where a command is asked for, or a line is none
abbrev pub IsFollowedOne : Given → OwnSeen → Option Command → Seen → List Entry → OwnSeen → Reply
    → Type 0
IsFollowedOne given before None board part after reply =
    AreBetween given.workers part × ((after ≡ before) × (reply ≡ NoCommand))
IsFollowedOne given before (Some command) board part after reply =
    IsFollowed given before command board part after reply

-- the events behind a board are cut into a stretch for each that is asked for, in order, and what
-- comes behind the last
abbrev pub Follows : Given → OwnSeen → Seen → List Entry → List (Option Command) → List Reply
    → OwnSeen → Type 0
Follows given before board entries [] replies after =
    AreBetween given.workers entries × ((replies ≡ []) × (after ≡ before))
Follows given before board entries (asked ∷ more) [] after = ⊥
Follows given before board entries (asked ∷ more) (reply ∷ replies) after =
    (part : List Entry) × (rest : List Entry) × (next : OwnSeen) × (entries ≡ part ++ rest)
    × IsFollowedOne given before asked board part next reply
    × Follows given next (last_board board part) rest more replies after

-- a history is that of a console which opens without a text by this dictionary: these commands are
-- followed in it, with these replies
pub record IsConsoleHistory (given : Given) (dictionary : OwnSeen)
    (commands : List (Option Command)) (replies : List Reply) (history : Run) : Type 0 where
  pub run : IsRun history
  pub opens : history.opening ≡ opening_of (in_force dictionary) []
  pub after : OwnSeen
  pub follows : Follows given dictionary history.opening history.entries commands replies after
