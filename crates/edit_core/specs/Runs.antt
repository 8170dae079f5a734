-- A history: the boards that one event after another makes of an opening board.
use Rattle.std.specs.Prelude.{◌≡◌, ℕ, ◌+◌, ◌*◌, ◌≤◌, Bool, true, false, not, ◌&&◌, ◌==◌, ◌⊎◌, List}
use Rattle.std.specs.Prelude.{[], ◌∷◌, Some}
use Rattle.std.specs.List.{AllZip, count_by}
use Rattle.mark_types.specs.spell_types.declared.Lexicon.{Lexicon}
use Rattle.paragraph_text.specs.Paragraphs.{Paragraph}
use Rattle.paragraph_text.specs.Edits.{with_id}
use Rattle.edit_core.specs.Events.{SeenEvent, ALoad, AFinish, kind_of}
use Rattle.edit_core.specs.Seen.{Seen, IsOpening, IsValidBoard}
use Rattle.edit_core.specs.Steps.{IsFit, IsRefused, Step}
use Rattle.edit_core.specs.Views.{is_finished, is_parked}
use Rattle.edit_core.specs.declared.event.EventKind.{EventKind}
use Rattle.edit_core.specs.declared.event.EventKind.TheVariants as kind
use Rattle.edit_core.specs.declared.refusal.Refusal.{Refusal}
use Rattle.edit_core.specs.declared.state.Standing.{Standing}
use Rattle.edit_core.specs.declared.state.Standing.TheVariants as standing

-- an event of a history: the number of the one through whom it came, the event, and the board
-- behind it
pub record Entry : Type 0 where
  pub by : ℕ
  pub event : SeenEvent
  pub board : Seen

-- each board is made of the one before it by its event
abbrev pub AreSteps : Seen → List Entry → Type 0
AreSteps before [] = Unit {0}
AreSteps before (entry ∷ entries) =
    Step before entry.event entry.board × AreSteps entry.board entries

-- the board that a history has come to
abbrev pub last_board : Seen → List Entry → Seen
last_board before [] = before
last_board before (entry ∷ entries) = last_board entry.board entries

-- a history: an opening board, and the events behind it
pub record Run : Type 0 where
  pub opening : Seen
  pub entries : List Entry

pub record IsRun (run : Run) : Type 0 where
  pub opens : IsOpening run.opening
  pub valid : IsValidBoard run.opening
  pub steps : AreSteps run.opening run.entries

-- ---- how many entries there are of a kind

-- whether two kinds are one
abbrev pub is_kind : EventKind → EventKind → Bool
is_kind kind.Edit kind.Edit = true
is_kind kind.Load kind.Load = true
is_kind kind.Claim kind.Claim = true
is_kind kind.Finish kind.Finish = true
is_kind kind.Park kind.Park = true
is_kind kind.Ask kind.Ask = true
is_kind _ _ = false

-- whether an entry has a kind and came through this number
abbrev pub is_entry : EventKind → ℕ → Entry → Bool
is_entry asked by entry = is_kind asked (kind_of entry.event) && (entry.by == by)

-- how many entries have a kind and came through this number
abbrev pub entries_by : EventKind → ℕ → List Entry → ℕ
entries_by asked by entries = count_by (is_entry asked by) entries

-- how many entries have a kind
abbrev pub entries_of : EventKind → List Entry → ℕ
entries_of asked entries = count_by (λ entry. is_kind asked (kind_of entry.event)) entries

-- how many entries came through a number, of all kinds together
abbrev pub entries_through : ℕ → List Entry → ℕ
entries_through by entries = count_by (λ entry. entry.by == by) entries

-- the kinds of entries
abbrev pub all_kinds : List EventKind
all_kinds = kind.Edit ∷ kind.Load ∷ kind.Claim ∷ kind.Finish ∷ kind.Park ∷ kind.Ask ∷ []

-- the kinds of what is asked, and is not of workers
abbrev pub asked_kinds : List EventKind
asked_kinds = kind.Edit ∷ kind.Load ∷ kind.Park ∷ kind.Ask ∷ []

-- ---- what stays and what grows

-- the paragraph with an id is there
abbrev pub IsLive : ℕ → List Paragraph → Type 0
IsLive id paragraphs = (paragraph : Paragraph) × (with_id id paragraphs ≡ Some paragraph)

-- a later board of a history beside an earlier one
pub record OnlyGrew (earlier later : Seen) : Type 0 where
  pub point : earlier.point ≤ later.point
  pub text : earlier.text_version ≤ later.text_version
  pub dict : earlier.dict_version ≤ later.dict_version
  pub next_id : earlier.next_id ≤ later.next_id
  -- an id that is live was live, or is new
  pub live : (id : ℕ) → IsLive id later.paragraphs → IsLive id earlier.paragraphs
      ⊎ (earlier.next_id ≤ id)
  -- the rev of an id does not fall, and equal revs have equal texts
  pub revs : (id : ℕ) (old new : Paragraph) → with_id id earlier.paragraphs ≡ Some old
      → with_id id later.paragraphs ≡ Some new
      → (old.rev ≤ new.rev) × (old.rev ≡ new.rev → old.text ≡ new.text)
  -- equal text versions have equal texts
  pub texts : earlier.text_version ≡ later.text_version → earlier.paragraphs ≡ later.paragraphs
  -- equal dictionary versions have equal dictionaries
  pub lexicons : earlier.dict_version ≡ later.dict_version → earlier.lexicon ≡ later.lexicon

-- the kinds of events of workers
abbrev pub is_workers : EventKind → Bool
is_workers kind.Claim = true
is_workers kind.Finish = true
is_workers _ = false

-- the events of workers
abbrev pub is_quiet : SeenEvent → Bool
is_quiet event = is_workers (kind_of event)

-- how one paragraph may stand behind events of workers: what is parked stays so, and nothing else
-- becomes so; what is finished stays so
pub record MayBecome (before after : Standing) : Type 0 where
  pub parked : is_parked after ≡ is_parked before
  pub finished : is_finished before ≡ true → is_finished after ≡ true

-- events of workers change nothing but that paragraphs are held or finished
pub record IsQuiet (before after : Seen) : Type 0 where
  pub text : after.text_version ≡ before.text_version
  pub dict : after.dict_version ≡ before.dict_version
  pub lexicon : after.lexicon ≡ before.lexicon
  pub next_id : after.next_id ≡ before.next_id
  pub paragraphs : after.paragraphs ≡ before.paragraphs
  pub standings : AllZip MayBecome before.standings after.standings

-- whether a paragraph waits for a worker
abbrev pub is_waiting : Standing → Bool
is_waiting standing.Waiting = true
is_waiting _ = false

-- whether a worker holds a paragraph
abbrev pub is_held : Standing → Bool
is_held (standing.Held worker) = true
is_held _ = false

-- the furthest point that events of workers alone can lead to: what waits can be claimed and
-- finished, what is held can be finished
abbrev pub furthest_point : Seen → ℕ
furthest_point board =
    board.point + (2 * count_by is_waiting board.standings + count_by is_held board.standings)

-- how many events of a history are not of workers
abbrev pub asked_of : List Entry → ℕ
asked_of entries = count_by (λ entry. not (is_quiet entry.event)) entries

-- how many events of a history came through a number and are not of workers
abbrev pub events_asked_by : ℕ → List Entry → ℕ
events_asked_by by entries = count_by (λ entry. not (is_quiet entry.event) && (entry.by == by)) entries

-- all events of a stretch are of workers
abbrev pub AreQuiet : List Entry → Type 0
AreQuiet [] = Unit {0}
AreQuiet (entry ∷ entries) = (is_quiet entry.event ≡ true) × AreQuiet entries

-- ---- a list of events, one after another

-- what an event makes of a board: a refused event leaves it
abbrev pub IsAnswered : Seen → SeenEvent → Seen → Type 0
IsAnswered board event after =
    Step board event after ⊎ ((refusal : Refusal) × IsRefused board event refusal × (after ≡ board))

-- each event is fit for each board that may be there when its turn comes
abbrev pub AreFit : Seen → List SeenEvent → Type 0
AreFit board [] = Unit {0}
AreFit board (event ∷ events) =
    IsFit board event × ((after : Seen) → IsAnswered board event after → AreFit after events)

-- a check is of a paragraph of a board with this rev, by its dictionary
pub record IsCheckOf (board : Seen) (id rev : ℕ) (text : List ℕ) (lexicon : Lexicon) : Type 0 where
  pub paragraph : Paragraph
  pub named : with_id id board.paragraphs ≡ Some paragraph
  pub current : paragraph.rev ≡ rev
  pub text_is : text ≡ paragraph.text
  pub lexicon_is : lexicon ≡ board.lexicon

-- an event brings nothing but what is of a board: its checks are of the board's paragraphs, and its
-- dictionary is the board's
abbrev pub IsOfBoard : Seen → SeenEvent → Type 0
IsOfBoard board (ALoad lexicon) = lexicon ≡ board.lexicon
IsOfBoard board (AFinish worker id rev dict text lexicon) = IsCheckOf board id rev text lexicon
IsOfBoard board _ = Unit {0}

-- what a list of events makes of a board, one after another
abbrev pub Replays : Seen → List SeenEvent → Seen → Type 0
Replays board [] after = after ≡ board
Replays board (event ∷ events) after =
    (next : Seen) × IsAnswered board event next × Replays next events after

-- a board is the last of a history that goes on from another, by some of these events, in their
-- order
abbrev pub AreTakenFrom : List SeenEvent → List Entry → Type 0
AreTakenFrom events [] = Unit {0}
AreTakenFrom [] (entry ∷ entries) = ⊥
AreTakenFrom (event ∷ events) (entry ∷ entries) =
    ((entry.event ≡ event) × AreTakenFrom events entries) ⊎ AreTakenFrom events (entry ∷ entries)

pub record IsReplayed (board : Seen) (events : List SeenEvent) (after : Seen) : Type 0 where
  pub entries : List Entry
  pub steps : AreSteps board entries
  pub taken : AreTakenFrom events entries
  pub last : last_board board entries ≡ after
