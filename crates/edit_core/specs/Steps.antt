-- What an event makes of a board, and where it is refused.
use Rattle.std.specs.Prelude.{◌≡◌, ℕ, ◌+◌, ◌<◌, ◌^◌, Bool, true, false, ◌==◌, ◌⊎◌, List, map, set}
use Rattle.std.specs.Prelude.{find, nat_lt, slice_get, Option, None, Some}
use Rattle.std.specs.List.{zip}
use Rattle.std.specs.Option.{option_map, option_map_or, option_or}
use Rattle.mark_types.specs.spell_types.declared.Lexicon.{Lexicon}
use Rattle.paragraph_text.specs.Paragraphs.{Paragraph}
pub use Rattle.paragraph_text.specs.Edits.{kept_after, place_of}
use Rattle.paragraph_text.specs.Edits.{Applies, IsOnlyOne, next_id_after}
use Rattle.paragraph_text.specs.Edits.{edit_refusal}
use Rattle.paragraph_text.specs.declared.edits.Edit.{Edit}
use Rattle.paragraph_text.specs.declared.edits.EditRefusal.{EditRefusal}
use Rattle.paragraph_text.specs.declared.edits.EditRefusal.TheVariants as edits
use Rattle.edit_core.specs.Seen.{Seen}
use Rattle.edit_core.specs.Events.{SeenEvent, AnEdit, ALoad, AClaim, AFinish, APark, AnAsk}
use Rattle.edit_core.specs.declared.refusal.Refusal.{Refusal}
use Rattle.edit_core.specs.declared.refusal.Refusal.TheVariants.{Spent, Gone, Behind, BadSpan}
use Rattle.edit_core.specs.declared.refusal.Refusal.TheVariants.{HasBreak, TooLong, Full, Taken}
use Rattle.edit_core.specs.declared.refusal.Refusal.TheVariants.{Reloaded, Finished, Parked}
use Rattle.edit_core.specs.declared.refusal.Refusal.TheVariants.{NotParked, NoMemory}
use Rattle.edit_core.specs.declared.state.Standing.{Standing}
use Rattle.edit_core.specs.declared.state.Standing.TheVariants as standing
use Rattle.edit_core.specs.declared.state.State.{State}
use Rattle.edit_core.specs.declared.state.State.TheVariants as state

-- a paragraph with an id stands at a place of a board, in this way
pub record IsAt (board : Seen) (id place : ℕ) (paragraph : Paragraph) (stands : Standing) : Type
    0 where
  pub place_is : place_of id board.paragraphs ≡ Some place
  pub paragraph_is : slice_get board.paragraphs place ≡ Some paragraph
  pub standing_is : slice_get board.standings place ≡ Some stands

-- ---- what each event makes of a board

-- a session edits: the text has the next version, and the touched paragraph waits
pub record Edits (before : Seen) (edit : Edit) (after : Seen) : Type 0 where
  pub paragraphs : List Paragraph
  pub applied : Applies (before.text_version + 1) before.next_id before.paragraphs edit paragraphs
  pub after_is : after ≡ record before {
    point = before.point + 1;
    text_version = before.text_version + 1;
    paragraphs = paragraphs;
    standings = kept_after standing.Waiting before.paragraphs before.standings edit;
    next_id = next_id_after before.next_id edit;
  }

-- under another dictionary a parked paragraph is parked still, and all others wait
abbrev pub reloaded : Standing → Standing
reloaded standing.Parked = standing.Parked
reloaded _ = standing.Waiting

-- what is kept of a paragraph under another dictionary
abbrev pub reloaded_state : {J : Type 0} → State J → State J
reloaded_state state.Parked = state.Parked
reloaded_state _ = state.Waiting

-- a dictionary comes into force, under the next dictionary version
abbrev pub Loads : Seen → Lexicon → Seen → Type 0
Loads before lexicon after = after ≡ record before {
  point = before.point + 1;
  dict_version = before.dict_version + 1;
  lexicon = lexicon;
  standings = map reloaded before.standings;
}

-- One paragraph stands in another way, if it may; all else stays.
pub record Moves (before : Seen) (id : ℕ) (may : Paragraph → Standing → Type 0) (becomes : Standing)
    (after : Seen) : Type 0 where
  pub place : ℕ
  pub paragraph : Paragraph
  pub stands : Standing
  pub here : IsAt before id place paragraph stands
  pub allowed : may paragraph stands
  pub after_is : after
      ≡ record before { point = before.point + 1; standings = set before.standings place becomes }

-- a paragraph that is neither finished nor parked
abbrev pub is_open : Standing → Bool
is_open standing.Waiting = true
is_open (standing.Held worker) = true
is_open standing.Parked = false
is_open standing.Finished = false

-- a worker may claim what waits, with its rev
abbrev pub MayClaim : ℕ → Paragraph → Standing → Type 0
MayClaim rev paragraph stands = (paragraph.rev ≡ rev) × (stands ≡ standing.Waiting)

-- a check finishes a paragraph that is open, with its rev and the dictionary version in force, if
-- it is of the paragraph's text, by the dictionary in force
pub record MayFinish (board : Seen) (rev dict : ℕ) (text : List ℕ) (lexicon : Lexicon)
    (paragraph : Paragraph) (stands : Standing) : Type 0 where
  pub current : paragraph.rev ≡ rev
  pub in_force : board.dict_version ≡ dict
  pub free : is_open stands ≡ true
  pub text_is : text ≡ paragraph.text
  pub lexicon_is : lexicon ≡ board.lexicon

-- what an event makes of a board whose history may go on
abbrev pub Makes : Seen → SeenEvent → Seen → Type 0
Makes before (AnEdit session edit) after = Edits before edit after
Makes before (ALoad lexicon) after = Loads before lexicon after
Makes before (AClaim worker id rev) after =
    Moves before id (MayClaim rev) (standing.Held worker) after
Makes before (AFinish worker id rev dict text lexicon) after =
    Moves before id (MayFinish before rev dict text lexicon) standing.Finished after
Makes before (APark session id) after =
    Moves before id (λ _ stands. is_open stands ≡ true) standing.Parked after
Makes before (AnAsk session id) after =
    Moves before id (λ _ stands. stands ≡ standing.Parked) standing.Waiting after

-- one event of a history: this board comes behind that one by this event
pub record Step (before : Seen) (event : SeenEvent) (after : Seen) : Type 0 where
  pub goes_on : before.point < 2 ^ 62
  pub makes : Makes before event after

-- the first paragraph with an id, and how it stands
abbrev pub found : ℕ → Seen → Option (Paragraph × Standing)
found id board = find (λ row. row.0.id == id) (zip board.paragraphs board.standings)

-- ---- what the steps of an event find

-- the first paragraph with an id stands at a place, with a rev and in a way, and it is the one that
-- is found
pub record IsBoardFoundAt (board : Seen) (id place rev : ℕ) (stands : Standing) : Type 0 where
  pub paragraph : Paragraph
  pub here : IsAt board id place paragraph stands
  pub rev_is : rev ≡ paragraph.rev
  pub found_is : found id board ≡ Some (paragraph, stands)

-- ---- the refusals, each where it would be told if no other were there

abbrev pub unless : Bool → Refusal → Option Refusal
unless true refusal = None
unless false refusal = Some refusal

-- a history has no event more
abbrev pub spent : Seen → Option Refusal
spent board = unless (nat_lt board.point (2 ^ 62)) (Spent board.point)

-- a refusal of an edit, as one of a board
abbrev pub refusal_of : EditRefusal → Refusal
refusal_of (edits.Gone id) = Gone id
refusal_of (edits.Behind rev) = Behind rev
refusal_of (edits.BadSpan length) = BadSpan length
refusal_of (edits.HasBreak at) = HasBreak at
refusal_of (edits.TooLong would) = TooLong would
refusal_of (edits.Full count) = Full count
refusal_of edits.NoMemory = NoMemory

-- a paragraph is named that is not there; otherwise what is asked of it
abbrev pub gone_or : ℕ → Seen → (Paragraph → Standing → Option Refusal) → Option Refusal
gone_or id board asked = option_map_or (λ row. asked row.0 row.1) (found id board) (Some (Gone id))

-- the paragraph has another rev
abbrev pub refused_behind : ℕ → Paragraph → Option Refusal
refused_behind rev paragraph = unless (paragraph.rev == rev) (Behind paragraph.rev)

-- the paragraph does not wait
abbrev pub not_waiting : ℕ → Standing → Option Refusal
not_waiting rev standing.Waiting = None
not_waiting rev (standing.Held worker) = Some (Taken worker)
not_waiting rev standing.Finished = Some (Finished rev)
not_waiting rev standing.Parked = Some (Parked rev)

-- the paragraph is finished, or parked
abbrev pub settled : ℕ → Standing → Option Refusal
settled rev standing.Waiting = None
settled rev (standing.Held worker) = None
settled rev standing.Finished = Some (Finished rev)
settled rev standing.Parked = Some (Parked rev)

-- the paragraph is not parked
abbrev pub not_parked : ℕ → Standing → Option Refusal
not_parked rev standing.Parked = None
not_parked rev _ = Some (NotParked rev)

-- another dictionary version is in force
abbrev pub outdated : Seen → ℕ → Option Refusal
outdated board dict = unless (board.dict_version == dict) (Reloaded board.dict_version)

abbrev pub claim_refusal : ℕ → Paragraph → Standing → Option Refusal
claim_refusal rev paragraph stands =
    option_or (refused_behind rev paragraph) (not_waiting paragraph.rev stands)

abbrev pub finish_refusal : Seen → ℕ → ℕ → Paragraph → Standing → Option Refusal
finish_refusal board rev dict paragraph stands =
    option_or (refused_behind rev paragraph)
    (option_or (outdated board dict) (settled paragraph.rev stands))

-- the first refusal that a board shows for an event while its history goes on
abbrev pub event_refusal : Seen → SeenEvent → Option Refusal
event_refusal board (AnEdit session edit) =
    option_map refusal_of (edit_refusal board.paragraphs edit)
event_refusal board (ALoad lexicon) = None
event_refusal board (AClaim worker id rev) = gone_or id board (claim_refusal rev)
event_refusal board (AFinish worker id rev dict text lexicon) =
    gone_or id board (finish_refusal board rev dict)
event_refusal board (APark session id) =
    gone_or id board (λ paragraph stands. settled paragraph.rev stands)
event_refusal board (AnAsk session id) =
    gone_or id board (λ paragraph stands. not_parked paragraph.rev stands)

-- the first refusal that a board shows for an event
abbrev pub first_refusal : Seen → SeenEvent → Option Refusal
first_refusal board event = option_or (spent board) (event_refusal board event)

-- an event is refused so
abbrev pub IsRefused : Seen → SeenEvent → Refusal → Type 0
IsRefused board event refusal = first_refusal board event ≡ Some refusal

-- ---- what is asked of an event before a board takes it

-- where its rev and its dictionary version are those of the board, a check is of the paragraph's
-- text, by the dictionary in force
abbrev pub IsFitCheck : Seen → (id rev dict : ℕ) → (text : List ℕ) → Lexicon → Type 0
IsFitCheck board id rev dict text lexicon =
    (place : ℕ) (paragraph : Paragraph) (stands : Standing) → IsAt board id place paragraph stands
    → paragraph.rev ≡ rev → board.dict_version ≡ dict
    → (text ≡ paragraph.text) × (lexicon ≡ board.lexicon)

-- the check that finishes a paragraph is fit for it
abbrev pub IsFit : Seen → SeenEvent → Type 0
IsFit board (AFinish worker id rev dict text lexicon) = IsFitCheck board id rev dict text lexicon
IsFit board _ = Unit {0}

-- ---- what is decided of each event

-- an event makes exactly one board and is not refused, or it has exactly one refusal and makes no
-- board
abbrev pub IsDecided : Seen → SeenEvent → Type 0
IsDecided board event =
    (IsOnlyOne (Step board event) × ((refusal : Refusal) → ¬ IsRefused board event refusal))
    ⊎ (IsOnlyOne (IsRefused board event) × ((after : Seen) → ¬ Step board event after))
