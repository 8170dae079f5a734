-- An eye goes on by one event of its own at most that is not a check.
use Rattle.std.proofs.Common.{◌≡◌, ◌∙◌, refl, sym, ap, subst, ℕ, ◌+◌, ◌≤◌, List, length, false}
use Rattle.std.proofs.Common.{Option, None, Some, Result, Ok, Err, arith}
use Rattle.outside.specs.Files.{Folder}
use Rattle.spell_types.specs.declared.Lexicon.{Lexicon}
use Rattle.personal_words.specs.declared.items.OwnItem.{OwnItem}
use Rattle.personal_words.specs.declared.faults.OwnLineWhy.{OwnLineWhy}
use Rattle.personal_words.specs.Lists.{added}
use Rattle.personal_words.specs.Dictionaries.{in_force}
use Rattle.dictionary_swap.specs.Loads.{lexicon_due}
use Rattle.dictionary_swap.specs.declared.fault.LoadFault.{LoadFault}
use Rattle.board_share.specs.edit_core.Events.{SeenEvent, ALoad}
use Rattle.board_share.specs.edit_core.Runs.{asked_of, is_quiet}
use Rattle.board_share.specs.Eyes.{EyeSeen, IsLater, entries_in, events_in, last_of}
use Rattle.board_share.specs.declared.told.Told.{Told as ToldOf}
use Rattle.board_share.specs.Eyes.{CountsChecks}
use Rattle.console_lang.specs.declared.command.Command.{Command}
use Rattle.console_lang.specs.declared.command.Command.TheVariants.{Load, Own, Show, Settle, Quit}
use Rattle.console_lang.specs.declared.reply.Reply.{Reply}
use Rattle.console_board.specs.BoardAnswers.{event_for}
use Rattle.console_history.specs.Told.{Due as WasDue, FilesFailed as DidFail, GoesOneOn}
use Rattle.console_history.specs.Told.{IsBaseTold, IsCommandTold, IsEventTold, IsItemTold}
use Rattle.console_history.specs.Told.{IsPlaceTold, IsReloadTold, IsToldTo, Looks, Publishes, Seat}
use Rattle.console_history.specs.Told.{Taken as WasTaken, TurnedDown as WasTurnedDown}
use Rattle.console_history.proofs.Counting.{GoesOn, asked-on, checks-asked, events-counted}
use Rattle.console_history.proofs.Counting.{goes-apart, goes-later, goes-looks, goes-publishes}
use Rattle.console_history.proofs.Counting.{goes-self, goes-trans, length-on}
use Rattle.console_history.proofs.Following.{goes-to}
use Rattle.console_history.proofs.Places.{event-asked}
use Rattle.console_history.proofs.Stretches.{CoreLaws}

no-more : (new old part whole before : ℕ) → new ≤ old + part → whole ≡ before + part
    → new + before ≤ whole + old
no-more new old part whole before few is = omega (arith, few, is)

longer : (new old part whole before : ℕ) → new ≤ old + part → whole ≡ before + part
    → before + new ≤ whole + old
longer new old part whole before few is = omega (arith, few, is)

-- ---- how many are counted
none-more : (new old : ℕ) → new ≡ old → new ≤ old + 1
none-more new old same = omega (arith, same)

just-one : (new old : ℕ) → new ≡ old + 1 → new ≤ old + 1
just-one new old one = omega (arith, one)

on-from : (new middle old : ℕ) → middle ≡ old → new ≤ middle + 1 → new ≤ old + 1
on-from new middle old same more = omega (arith, same, more)

one-same : (before after : Seat) → after ≡ before
    → events_in after.eye.counts ≤ events_in before.eye.counts + 1
one-same before after same =
    none-more (events_in after.eye.counts) (events_in before.eye.counts)
    (ap (λ (seat : Seat). events_in seat.eye.counts) same)

one-looks : (old new : EyeSeen) → Looks old new
    → events_in new.counts ≤ events_in old.counts + 1
one-looks old new looks =
    none-more (events_in new.counts) (events_in old.counts) (ap events_in looks.counts)

one-checks : (old new : EyeSeen) → CountsChecks old new
    → events_in new.counts ≤ events_in old.counts + 1
one-checks old new counts =
    none-more (events_in new.counts) (events_in old.counts) (checks-asked old new counts)

one-publishes : (event : SeenEvent) (old new : EyeSeen) (told : ToldOf) → is_quiet event ≡ false
    → Publishes event old new told → events_in new.counts ≤ events_in old.counts + 1
one-publishes event old new told asked publishes =
    just-one (events_in new.counts) (events_in old.counts)
    (ap events_in publishes.counts ∙ events-counted event old.counts asked)

one-reload : (old : EyeSeen) (after : Seat) (reply : Reply) → IsReloadTold old after reply
    → events_in after.eye.counts ≤ events_in old.counts + 1
one-reload old after reply reload =
    one-publishes (ALoad (in_force after.dictionary)) old after.eye reload.told refl
    reload.publishes

one-base : (before : Seat) (due : Result Lexicon LoadFault) (after : Seat) (reply : Reply)
    → IsBaseTold before due after reply
    → events_in after.eye.counts ≤ events_in before.eye.counts + 1
one-base before (Ok base) after reply tells = one-reload before.eye after reply tells.1
one-base before (Err fault) after reply tells = one-same before after tells.0

one-item : (before : Seat) (item : Result (Option OwnItem) OwnLineWhy) (after : Seat)
    (reply : Reply) → IsItemTold before item after reply
    → events_in after.eye.counts ≤ events_in before.eye.counts + 1
one-item before (Ok None) after reply tells = one-looks before.eye after.eye tells.1.0
one-item before (Ok (Some item)) after reply tells = one-reload before.eye after reply tells.1
one-item before (Err why) after reply tells = one-same before after tells.0

one-event : (event : SeenEvent) (old new : EyeSeen) (reply : Reply) → is_quiet event ≡ false
    → IsEventTold event old new reply → events_in new.counts ≤ events_in old.counts + 1
one-event event old new reply asked (WasTaken tells publishes replied) =
    one-publishes event old new tells asked publishes
one-event event old new reply asked (WasTurnedDown down) = one-looks old new down.looks

one-command : (session : ℕ) (command : Command) (found : Option SeenEvent)
    (looked new : EyeSeen) (reply : Reply) → event_for session (last_of looked.run) command ≡ found
    → IsCommandTold found looked new reply
    → events_in new.counts ≤ events_in looked.counts + 1
one-command session command None looked new reply is tells =
    none-more (events_in new.counts) (events_in looked.counts)
    (ap (λ (eye : EyeSeen). events_in eye.counts) tells.0)
one-command session command (Some event) looked new reply is tells =
    one-event event looked new reply
    (event-asked session (last_of looked.run) command event is) tells

one-place : (session : ℕ) (command : Command) (old new : EyeSeen) (reply : Reply)
    → IsPlaceTold session command old new reply
    → events_in new.counts ≤ events_in old.counts + 1
one-place session command old new reply place =
    on-from (events_in new.counts) (events_in place.looked.counts) (events_in old.counts)
    (ap events_in place.looks.counts)
    (one-command session command (event_for session (last_of place.looked.run) command)
    place.looked new reply refl place.told)

one-to : (told : Option Folder) (session : ℕ) (before : Seat) (command : Command)
    (after : Seat) (reply : Reply) → IsToldTo told session before command after reply
    → events_in after.eye.counts ≤ events_in before.eye.counts + 1
unfolding IsToldTo
one-to told session before (Load aff dic) after reply (WasDue there is tells) =
    one-base before (lexicon_due there) after reply tells
one-to told session before (Load aff dic) after reply (DidFail same replied) =
    one-same before after same
one-to told session before (Own text) after reply tells =
    one-item before (added before.dictionary.base.affixes before.dictionary.own text) after
    reply tells
one-to told session before Show after reply tells = one-looks before.eye after.eye tells.0.1
one-to told session before Settle after reply tells =
    one-checks before.eye after.eye tells.0.1.counts
one-to told session before Quit after reply tells = absurd tells
one-to told session before command after reply tells =
    one-place session command before.eye after.eye reply tells.1

module _ (laws : CoreLaws) where
  goes-one-on : (old new : EyeSeen) → GoesOn old new
      → events_in new.counts ≤ events_in old.counts + 1 → GoesOneOn old new
  goes-one-on old new goes one = record {
    later = record {
      number = goes.number;
      opening = goes.opening;
      begins = (goes.part, sym goes.entries);
      longer = longer (entries_in new.counts) (entries_in old.counts) (length goes.part)
          (length new.run.entries) (length old.run.entries) goes.all
          (length-on laws old new goes.part goes.entries);
    };
    asks = no-more (events_in new.counts) (events_in old.counts) (asked_of goes.part)
        (asked_of new.run.entries) (asked_of old.run.entries) goes.asked
        (asked-on laws old new goes.part goes.entries);
    one = one;
  }

  pub command-one : (told : Option Folder) (session : ℕ) (before after : Seat)
      (command : Command) (reply : Reply) → IsToldTo told session before command after reply
      → GoesOneOn before.eye after.eye
  command-one told session before after command reply tells =
      goes-one-on before.eye after.eye
      (goes-to laws told session before command after reply tells)
      (one-to told session before command after reply tells)

  pub self-one : (eye : EyeSeen) → GoesOneOn eye eye
  self-one eye =
      goes-one-on eye eye (goes-self laws eye eye refl)
      (none-more (events_in eye.counts) (events_in eye.counts) refl)

  pub looks-one : (old new : EyeSeen) → Looks old new → GoesOneOn old new
  looks-one old new looks =
      goes-one-on old new (goes-looks laws old new looks) (one-looks old new looks)

  pub publishes-one : (event : SeenEvent) (old new : EyeSeen) (told : ToldOf)
      → is_quiet event ≡ false → Publishes event old new told → GoesOneOn old new
  publishes-one event old new told asked publishes =
      goes-one-on old new (goes-publishes laws event old new told asked publishes)
      (one-publishes event old new told asked publishes)

  pub checks-one : (old new : EyeSeen) → IsLater old new → CountsChecks old new
      → GoesOneOn old new
  checks-one old new later counts =
      goes-one-on old new (goes-later laws old new later (checks-asked old new counts))
      (one-checks old new counts)

  pub looked-one : (old middle new : EyeSeen) → Looks old middle → GoesOneOn middle new
      → GoesOneOn old new
  looked-one old middle new looks goes =
      goes-one-on old new
      (goes-trans laws old middle new (goes-looks laws old middle looks)
      (goes-apart laws middle new goes.later goes.asks))
      (on-from (events_in new.counts) (events_in middle.counts) (events_in old.counts)
      (ap events_in looks.counts) goes.one)
