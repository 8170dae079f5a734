-- What is settled: each paragraph that was open has been seen finished, or is not to be checked any
-- more as it was.
use Rattle.std.specs.Prelude.{◌≡◌, ℕ, Bool, true, false, ◌&&◌, ◌==◌, List, ◌++◌, Some, slice_get}
use Rattle.std.specs.Option.{option_map_or}
use mathlib.Core.List.{IsPrefix}
use Rattle.edit_core.specs.paragraph_text.Paragraphs.{Paragraph}
use Rattle.edit_core.specs.Runs.{Entry, last_board}
use Rattle.edit_core.specs.Seen.{Seen}
use Rattle.edit_core.specs.Steps.{found, is_open}
use Rattle.edit_core.specs.declared.state.Standing.{Standing}
use Rattle.board_share.specs.Eyes.{EyeSeen}

-- whether a check for this rev and this dictionary version could finish the paragraph with an id:
-- it is there with this rev, neither finished nor parked, and the version is in force
abbrev pub is_open_for : (id rev dict : ℕ) → Seen → Bool
is_open_for id rev dict board =
    (board.dict_version == dict)
    && option_map_or (λ row. (row.0.rev == rev) && is_open row.1) (found id board) false

-- on some board, of this one and those behind it, no such check could: the paragraph is finished
-- for this rev and version, or gone, or of another rev, or parked, or another version is in force
pub record IsClosedIn (board : Seen) (entries : List Entry) (id rev dict : ℕ) : Type 0 where
  pub front : List Entry
  pub begins : IsPrefix front entries
  pub closed : is_open_for id rev dict (last_board board front) ≡ false

-- so it is with each paragraph that was open on the first of these boards
abbrev pub AreClosedIn : Seen → List Entry → Type 0
AreClosedIn board entries =
    (place : ℕ) (paragraph : Paragraph) (stands : Standing)
    → slice_get board.paragraphs place ≡ Some paragraph
    → slice_get board.standings place ≡ Some stands → is_open stands ≡ true
    → IsClosedIn board entries paragraph.id paragraph.rev board.dict_version

-- Behind all that the eye knew stand events that a look skipped, then the others. Each paragraph
-- that was open at that look is settled among these.
pub record IsSettled (old new : EyeSeen) : Type 0 where
  pub skipped : List Entry
  pub behind : List Entry
  pub entries : new.run.entries ≡ (old.run.entries ++ skipped) ++ behind
  pub settled : AreClosedIn (last_board old.run.opening (old.run.entries ++ skipped)) behind
