-- What the history of a desk is, once the desk is closed.
use Rattle.std.specs.Prelude.{◌≡◌, ◌<◌, List, length}
use Rattle.std.specs.List.{AllByRecursion}
use mathlib.Core.List.{IsPrefix}
use Rattle.edit_core.specs.Runs.{IsRun, Run, events_asked_by, entries_by, entries_through}
use Rattle.edit_core.specs.declared.event.EventKind.TheVariants as kind
use Rattle.board_share.specs.Eyes.{EyeSeen, IsCounted, entries_in, events_in}

-- a history begins with what an eye knows, and has through the eye's number the events that it
-- counted, and no others
pub record HasEventsOf (history : Run) (eye : EyeSeen) : Type 0 where
  pub opening : eye.run.opening ≡ history.opening
  pub begins : IsPrefix eye.run.entries history.entries
  pub edits : entries_by kind.Edit eye.number history.entries ≡ eye.counts.edits
  pub loads : entries_by kind.Load eye.number history.entries ≡ eye.counts.loads
  pub events : events_asked_by eye.number history.entries ≡ events_in eye.counts
  pub entries : entries_through eye.number history.entries ≡ entries_in eye.counts

-- a history begins with what an eye knows, and has at least the events that it counted
pub record IsSeenIn (history : Run) (eye : EyeSeen) : Type 0 where
  pub opening : eye.run.opening ≡ history.opening
  pub begins : IsPrefix eye.run.entries history.entries
  pub counted : IsCounted eye.number history.entries eye.counts

-- a history has the events of these eyes, which are numbered from 0, and no others
pub record IsTheirs (eyes : List EyeSeen) (history : Run) : Type 0 where
  pub run : IsRun history
  pub each : AllByRecursion (HasEventsOf history) eyes
  pub others : AllByRecursion (λ entry. entry.by < length eyes) history.entries
