-- What a console replies to its lines: a transcript.
use Rattle.std.specs.Prelude.{◌≡◌, ℕ, zero, suc, Bool, true, false, not, ◌⊎◌, List, []}
use Rattle.std.specs.Prelude.{◌∷◌, filter_map, take_while, Option, Some, None, Result, Ok}
use Rattle.std.specs.Prelude.{Err, if◌then◌else◌}
use Rattle.std.specs.List.{AllZip, count_by, flat_map}
use Rattle.std.specs.Str.{is_utf8}
use Rattle.console_lang.specs.Commands.{said_by}
use Rattle.console_lang.specs.Replies.{reply_text}
use Rattle.console_lang.specs.declared.command.Command.{Command}
use Rattle.console_lang.specs.declared.command.Command.TheVariants.{Ins, Put, Sub, Del, Load, Stop}
use Rattle.console_lang.specs.declared.command.Command.TheVariants.{Ask, Own, Show, Settle, Quit}
use Rattle.console_lang.specs.declared.command.CommandFault.{CommandFault}
use Rattle.console_lang.specs.declared.command.CommandFault.TheVariants.{BadCommand}
use Rattle.console_lang.specs.declared.reply.Reply.{Reply}
use Rattle.console_lang.specs.declared.reply.Reply.TheVariants.{NoCommand, NoFiles}
use Rattle.dictionary_swap.specs.Loads.{DictionaryFiles, lexicon_due, found_in}
use Rattle.outside.specs.Files.{Folder}
use Rattle.personal_words.specs.declared.items.OwnItem.{OwnItem}
use Rattle.edit_core.specs.paragraph_text.Paragraphs.{HasNoBreak}
use Rattle.mark_types.specs.spell_types.declared.Lexicon.{Lexicon}
use Rattle.console_board.specs.Consoles.{Console, Outcome, TextState, Waiting, Finished, Parked}
use Rattle.console_board.specs.Consoles.{inserted, console_after_put, substituted, removed, stopped}
use Rattle.console_board.specs.Consoles.{asked}
use Rattle.console_board.specs.Consoles.{console_after_settle, shown}
use Rattle.console_board.specs.OwnConsoles.{OwnConsole, OwnOutcome, load_outcome, own_opened, owned}

-- ---- what lines ask for

-- what a line says: nothing where it is blank, its command, or that it is none; a line that is not
-- UTF-8 is none
abbrev pub line_says : List ℕ → Result (Option Command) CommandFault
line_says line = if is_utf8 line then said_by line else Err BadCommand

-- whether a line ends the console
abbrev pub quits : Result (Option Command) CommandFault → Bool
quits (Ok (Some Quit)) = true
quits _ = false

abbrev pub is_quit : List ℕ → Bool
is_quit line = quits (line_says line)

-- the lines before the first that is `quit`
abbrev pub lines_before_quit : List (List ℕ) → List (List ℕ)
lines_before_quit lines = take_while (λ line. not (is_quit line)) lines

-- what a line asks for: nothing where it is blank, a command, or, where it is no command, that this
-- is said
abbrev pub asked_for : Result (Option Command) CommandFault → Option (Option Command)
asked_for (Ok None) = None
asked_for (Ok (Some command)) = Some (Some command)
asked_for (Err fault) = Some None

-- no text of a command has a line feed
abbrev pub HasWholeText : Command → Type 0
HasWholeText (Ins place text) = HasNoBreak text
HasWholeText (Put place text) = HasNoBreak text
HasWholeText (Sub place from to text) = HasNoBreak text
HasWholeText _ = Unit {0}

-- what lines ask for, one after another
unfoldable pub commands_asked_by : List (List ℕ) → List (Option Command)
commands_asked_by lines = filter_map (λ line. asked_for (line_says line)) lines

-- ---- what is done

-- what there is of the two files of a dictionary: where a folder is told, what it has of them;
-- where none is, anything
abbrev pub IsThere : Option Folder → List ℕ → List ℕ → DictionaryFiles → Type 0
IsThere None aff dic there = Unit {0}
IsThere (Some folder) aff dic there = there ≡ found_in folder aff dic

-- a command has this outcome
abbrev pub HasOutcome : Outcome → Reply → Console → Type 0
HasOutcome outcome reply after = (reply ≡ outcome.reply) × (after ≡ outcome.after)

-- what a console replies to a command that changes no dictionary, and what it has then come to;
-- `quit` is not replied to
unfoldable pub IsReplyTo : Console → Command → Reply → Console → Type 0
IsReplyTo before (Ins place text) reply after = HasOutcome (inserted before place text) reply after
IsReplyTo before (Put place text) reply after = HasOutcome (console_after_put before place text) reply after
IsReplyTo before (Sub place from to text) reply after =
    HasOutcome (substituted before place from to text) reply after
IsReplyTo before (Del place) reply after = HasOutcome (removed before place) reply after
IsReplyTo before (Load aff dic) reply after = ⊥
IsReplyTo before (Own text) reply after = ⊥
IsReplyTo before (Stop place) reply after = HasOutcome (stopped before place) reply after
IsReplyTo before (Ask place) reply after = HasOutcome (asked before place) reply after
IsReplyTo before Show reply after = HasOutcome (shown before) reply after
IsReplyTo before Settle reply after = HasOutcome (console_after_settle before) reply after
IsReplyTo before Quit reply after = ⊥

-- a command that is of a base or of a list of personal words has this outcome
abbrev pub HasOwnOutcome : OwnOutcome → Reply → OwnConsole → Type 0
HasOwnOutcome outcome reply after = (reply ≡ outcome.reply) × (after ≡ outcome.after)

-- a load has the outcome that its files say, or it is told that the files failed
abbrev pub LoadsFiles : Option Folder → OwnConsole → List ℕ → List ℕ → Reply → OwnConsole → Type 0
LoadsFiles told before aff dic reply after =
    ((there : DictionaryFiles) × IsThere told aff dic there
    × HasOwnOutcome (load_outcome before (lexicon_due there)) reply after)
    ⊎ ((reply ≡ NoFiles) × (after ≡ before))

-- a command that is of neither changes the console alone
abbrev pub RepliesBeside : OwnConsole → Command → Reply → OwnConsole → Type 0
RepliesBeside before command reply after =
    IsReplyTo before.console command reply after.console
    × (after ≡ record before { console = after.console })

-- what is replied to a command, and what the console with its base and its list has then come to
unfoldable pub IsOwnReplyTo : Option Folder → OwnConsole → Command → Reply → OwnConsole → Type 0
IsOwnReplyTo told before (Load aff dic) reply after = LoadsFiles told before aff dic reply after
IsOwnReplyTo told before (Own text) reply after = HasOwnOutcome (owned before text) reply after
IsOwnReplyTo told before command reply after = RepliesBeside before command reply after

-- what is replied where a command is asked for, or none
abbrev pub IsReplyToAsked : Option Folder → OwnConsole → Option Command → Reply → OwnConsole → Type
    0
IsReplyToAsked told before None reply after = (reply ≡ NoCommand) × (after ≡ before)
IsReplyToAsked told before (Some command) reply after =
    IsOwnReplyTo told before command reply after

-- ---- what is checked meanwhile

-- what waits may become finished; all else stays
abbrev pub MayChangeTo : TextState → TextState → Type 0
MayChangeTo Waiting after = (after ≡ Waiting) ⊎ (after ≡ Finished)
MayChangeTo Finished after = after ≡ Finished
MayChangeTo Parked after = after ≡ Parked

-- some of what waits, none or all of it, is finished
pub record IsChecked (before after : OwnConsole) : Type 0 where
  pub states : List TextState
  pub after_is : after
      ≡ record before { console = record before.console { states = states } }
  pub each : AllZip MayChangeTo before.console.states states

-- between two commands so many workers check: where there is none, nothing changes
abbrev pub IsMeanwhile : ℕ → OwnConsole → OwnConsole → Type 0
IsMeanwhile zero before after = after ≡ before
IsMeanwhile (suc workers) before after = IsChecked before after

-- ---- one after another

-- a console replies once to each that is asked for, in order
abbrev pub Answers : ℕ → Option Folder → OwnConsole → List (Option Command) → List Reply
    → OwnConsole → Type 0
Answers workers told before [] replies after = (replies ≡ []) × (after ≡ before)
Answers workers told before (command ∷ commands) [] after = ⊥
Answers workers told before (command ∷ commands) (reply ∷ replies) after =
    (ready : OwnConsole) × IsMeanwhile workers before ready
    × ((next : OwnConsole) × IsReplyToAsked told ready command reply next
    × Answers workers told next commands replies after)

-- a console that opens by a dictionary and a list of personal words replies so to these lines, none
-- of which is `quit`
pub record IsTranscript (workers : ℕ) (told : Option Folder) (base : Lexicon) (own : List OwnItem)
    (lines : List (List ℕ)) (replies : List Reply) : Type 0 where
  pub last : OwnConsole
  pub answers : Answers workers told (own_opened base own) (commands_asked_by lines) replies last

-- what is written of replies
abbrev pub written_of : List Reply → List ℕ
written_of replies = flat_map reply_text replies

-- how often it is told that the files failed
abbrev pub is_no_files : Reply → Bool
is_no_files NoFiles = true
is_no_files _ = false

abbrev pub failures_in : List Reply → ℕ
failures_in replies = count_by is_no_files replies
