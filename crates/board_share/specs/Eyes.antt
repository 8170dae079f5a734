-- What an eye knows, and what its calls do to it.
use Rattle.std.specs.Prelude.{◌≡◌, ℕ, ◌+◌, ◌≤◌, List, [], length}
use mathlib.Core.List.{IsPrefix}
use Rattle.edit_core.specs.Events.{SeenEvent, kind_of}
use Rattle.edit_core.specs.Runs.{Entry, Run, entries_by, last_board}
use Rattle.edit_core.specs.Seen.{Seen}
use Rattle.edit_core.specs.declared.event.EventKind.{EventKind}
use Rattle.edit_core.specs.declared.event.EventKind.TheVariants as kind
use Rattle.board_share.specs.declared.counts.Counts.{Counts}

-- an eye: its number, the history that it knows, and how many events came through it
pub record EyeSeen : Type 0 where
  pub number : ℕ
  pub run : Run
  pub counts : Counts

-- the board that a history has come to
abbrev pub last_of : Run → Seen
last_of run = last_board run.opening run.entries

-- ---- counts

abbrev pub none_counted : Counts
none_counted = record { edits = 0; loads = 0; asks = 0; checks = 0 }

-- an event more of a kind: parks count as asks, claims and finishes as checks
abbrev pub counted : EventKind → Counts → Counts
counted kind.Edit counts = record counts { edits = counts.edits + 1 }
counted kind.Load counts = record counts { loads = counts.loads + 1 }
counted kind.Park counts = record counts { asks = counts.asks + 1 }
counted kind.Ask counts = record counts { asks = counts.asks + 1 }
counted kind.Claim counts = record counts { checks = counts.checks + 1 }
counted kind.Finish counts = record counts { checks = counts.checks + 1 }

-- how many edits, loads, parks and asks were counted
abbrev pub events_in : Counts → ℕ
events_in counts = counts.edits + (counts.loads + counts.asks)

-- how many events of all six kinds were counted
abbrev pub entries_in : Counts → ℕ
entries_in counts = events_in counts + counts.checks

-- a history has, through a number, at least as many events of each kind as were counted
pub record IsCounted (by : ℕ) (entries : List Entry) (counts : Counts) : Type 0 where
  pub edits : counts.edits ≤ entries_by kind.Edit by entries
  pub loads : counts.loads ≤ entries_by kind.Load by entries
  pub asks : counts.asks ≤ entries_by kind.Park by entries + entries_by kind.Ask by entries
  pub checks : counts.checks ≤ entries_by kind.Claim by entries + entries_by kind.Finish by entries

-- ---- what a call does to an eye

-- the eye knows all that it knew, and at least as many events more as were counted
pub record IsLater (old new : EyeSeen) : Type 0 where
  pub number : new.number ≡ old.number
  pub opening : new.run.opening ≡ old.run.opening
  pub begins : IsPrefix old.run.entries new.run.entries
  pub longer : length old.run.entries + entries_in new.counts
      ≤ length new.run.entries + entries_in old.counts

-- the event is counted, and no other
abbrev pub CountsOne : SeenEvent → EyeSeen → EyeSeen → Type 0
CountsOne event old new = new.counts ≡ counted (kind_of event) old.counts

-- no event is counted
abbrev pub CountsNothing : EyeSeen → EyeSeen → Type 0
CountsNothing old new = new.counts ≡ old.counts

-- claims and finishes may be counted, and no other event is
pub record CountsChecks (old new : EyeSeen) : Type 0 where
  pub edits : new.counts.edits ≡ old.counts.edits
  pub loads : new.counts.loads ≡ old.counts.loads
  pub asks : new.counts.asks ≡ old.counts.asks
  pub checks : old.counts.checks ≤ new.counts.checks

-- an eye that a desk starts with: it knows the opening board alone
abbrev pub fresh_eye : Seen → ℕ → EyeSeen
fresh_eye opening number = record {
  number = number;
  run = record { opening = opening; entries = [] };
  counts = none_counted;
}
