-- What a console over a desk has replied, and why it stops.
use Rattle.std.specs.Prelude.{◌≡◌, ℕ, ◌+◌, ◌-◌, ◌^◌, ◌≤◌, Bool, true, false, List, [], ◌∷◌, ◌++◌}
use Rattle.std.specs.Prelude.{Option, None, Some, is_some}
use Rattle.outside.specs.Files.{Folder}
use Rattle.board_share.specs.edit_core.declared.refusal.Refusal.{Refusal}
use Rattle.board_share.specs.edit_core.declared.refusal.Refusal.TheVariants as refusal
use Rattle.board_share.specs.Eyes.{EyeSeen, IsLater, events_in, last_of}
use Rattle.console_lang.specs.declared.command.Command.{Command}
use Rattle.console_lang.specs.declared.command.Command.TheVariants.{Load, Own, Quit}
use Rattle.console_lang.specs.declared.reply.Reply.{Reply}
use Rattle.console_board.specs.BoardAnswers.{reply_for}
use Rattle.console_board.specs.Transcripts.{commands_asked_by, failures_in, written_of}
use Rattle.console_history.specs.Told.{GoesOneOn, IsNoMoreAsked, IsToldTo, Seat, Told}
use Rattle.desk_console.specs.declared.stop.Stop.{Stop}
use Rattle.desk_console.specs.declared.stop.Stop.TheVariants as stop
use Rattle.desk_console.specs.declared.console.TheConstants.{SESSION}

-- ---- why a console stops

-- the refusal that stops it
abbrev pub refusal_of_stop : Stop → Refusal
refusal_of_stop (stop.Spent point) = refusal.Spent point
refusal_of_stop stop.Wanting = refusal.NoMemory

-- a refusal stops the console, or has a reply
abbrev pub StopsOrHasReply : Refusal → Type 0
StopsOrHasReply (refusal.Spent point) = Unit {0}
StopsOrHasReply refusal.NoMemory = Unit {0}
StopsOrHasReply other = is_some (reply_for other) ≡ true

-- A command was cut off for this reason: what its eye knows may be more, and one event of its own
-- may have been published. That no event may come any more shows on the last board that it knows.
pub record IsCutOff (old new : EyeSeen) (why : Stop) : Type 0 where
  pub goes : GoesOneOn old new
  pub spent : (point : ℕ) → why ≡ stop.Spent point → 2 ^ 62 ≤ (last_of new.run).point

-- it has stopped so
pub record IsStopped (old new : EyeSeen) (stopped : Option Stop) : Type 0 where
  pub why : Stop
  pub stopped_is : stopped ≡ Some why
  pub cut : IsCutOff old new why

-- ---- commands

-- whether a command is done without a dictionary, and does not end the console
abbrev pub needs_no_dictionary : Command → Bool
needs_no_dictionary (Load aff dic) = false
needs_no_dictionary (Own text) = false
needs_no_dictionary Quit = false
needs_no_dictionary asked = true

-- ---- how many lines may be answered

-- more events than one console asks for by all lines that it may read
abbrev pub most_asked : ℕ
most_asked = 2 ^ 33

-- how many lines a console can answer at least whose eye has counted these events
abbrev pub lines_left_for_eye : EyeSeen → ℕ
lines_left_for_eye eye = most_asked - events_in eye.counts

-- no event may come any more, although few were asked for
pub record IsSpentEarly (eye : EyeSeen) : Type 0 where
  pub last : 2 ^ 62 ≤ (last_of eye.run).point
  pub few : events_in eye.counts ≤ most_asked

-- ---- what was replied

-- a command was replied to, and the reply was added to a text; the files failed as often at least
-- as it says
pub record IsCommandReplied (folder : Option Folder) (failed failed_now : ℕ) (before after : Seat)
    (command : Command) (text text_now : List ℕ) : Type 0 where
  pub reply : Reply
  pub told : IsToldTo folder SESSION before command after reply
  pub text_is : text_now ≡ text ++ written_of (reply ∷ [])
  pub failures : failed + failures_in (reply ∷ []) ≤ failed_now

-- From one seat on these lines were replied to with this text. The console has come to another seat
-- then, or has been stopped behind it. The files tell the same as before, and failed as often at
-- least as was said.
pub record HasTold (folder folder_now : Option Folder) (failed failed_now : ℕ)
    (stopped_first : Option Stop) (first now : Seat) (stopped : Option Stop)
    (lines : List (List ℕ)) (text : List ℕ) : Type 0 where
  pub replies : List Reply
  pub seen : Seat
  pub told : Told folder SESSION first (commands_asked_by lines) replies seen
  pub text_is : text ≡ written_of replies
  pub failures : failed + failures_in replies ≤ failed_now
  pub same : folder_now ≡ folder
  pub later : IsLater seen.eye now.eye
  pub asks : IsNoMoreAsked seen.eye now.eye
  pub going : stopped ≡ None → now ≡ seen
  pub spent : (point : ℕ) → stopped_first ≡ None → stopped ≡ Some (stop.Spent point)
      → IsSpentEarly now.eye
