-- How a board is settled paragraph by paragraph, and why it is not.
use Rattle.std.specs.Prelude.{◌≡◌, ℕ, true, false, List, ◌++◌, None, Some, slice_get}
use Rattle.board_share.specs.paragraph_text.Paragraphs.{Paragraph}
use Rattle.board_share.specs.edit_core.Runs.{Entry, last_board}
use Rattle.board_share.specs.edit_core.Seen.{Seen}
use Rattle.board_share.specs.edit_core.Steps.{is_open}
use Rattle.board_share.specs.edit_core.declared.state.Standing.{Standing}
use Rattle.board_share.specs.Eyes.{EyeSeen, last_of}
use Rattle.board_share.specs.Settled.{AreClosedIn, is_open_for}
use Rattle.board_share.specs.declared.claim.ClaimFault.{ClaimFault}
use Rattle.board_share.specs.declared.claim.ClaimFault.TheVariants as fault
use Rattle.board_share.specs.declared.told.Told.{Told}
use Rattle.check_workers.specs.Ends.{IsLastPoint}

-- no such check could on this board finish the paragraph at a place of another board, if it was
-- open there
abbrev pub CanFinishNoCheck : Seen → ℕ → Seen → Type 0
CanFinishNoCheck board place now =
    (paragraph : Paragraph) (stands : Standing) → slice_get board.paragraphs place ≡ Some paragraph
    → slice_get board.standings place ≡ Some stands → is_open stands ≡ true
    → is_open_for paragraph.id paragraph.rev board.dict_version now ≡ false

-- each paragraph that was open on the last board that the eye knew is settled behind it
pub record IsSettledFrom (board : Seen) (old new : EyeSeen) : Type 0 where
  pub behind : List Entry
  pub entries : new.run.entries ≡ old.run.entries ++ behind
  pub settled : AreClosedIn board behind

-- ---- where not all could be settled

-- a paragraph is open on a board
pub record HasOpen (board : Seen) : Type 0 where
  pub place : ℕ
  pub stands : Standing
  pub at : slice_get board.standings place ≡ Some stands
  pub free : is_open stands ≡ true

-- a paragraph was open on a board, and no event may come behind this point of a later one
pub record IsSpentOver (board now : Seen) (point : ℕ) : Type 0 where
  pub last : IsLastPoint now point
  pub had : HasOpen board

-- why a board is not settled
abbrev pub IsBoardFault : (board now : Seen) → ClaimFault → Type 0
IsBoardFault board now (fault.Spent point) = IsSpentOver board now point
IsBoardFault board now fault.NoMemory = Unit {0}

-- Behind all that the eye knew stand events that a look skipped, then the others. A paragraph was
-- open at that look, and no event may come behind this point.
pub record IsSpentSettling (old new : EyeSeen) (point : ℕ) : Type 0 where
  pub skipped : List Entry
  pub behind : List Entry
  pub entries : new.run.entries ≡ (old.run.entries ++ skipped) ++ behind
  pub spent : IsSpentOver (last_board old.run.opening (old.run.entries ++ skipped))
      (last_of new.run) point

-- why a settle fails
abbrev pub IsSettleFault : EyeSeen → EyeSeen → ClaimFault → Type 0
IsSettleFault old new (fault.Spent point) = IsSpentSettling old new point
IsSettleFault old new fault.NoMemory = Unit {0}

-- where a board stands in its history, as it is told where nothing is put in
abbrev pub told_of_board : Seen → Told
told_of_board board = record {
  point = board.point;
  text = board.text_version;
  dict = board.dict_version;
  made = None;
}
