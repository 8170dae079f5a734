-- What the parts of a desk keep.
use Rattle.std.specs.Prelude.{◌≡◌, ℕ, List, length}
use Rattle.logbook.specs.Pages.{Book, Named}
use Rattle.edit_core.specs.Runs.{Entry, IsRun, entries_of, last_board}
use Rattle.edit_core.specs.Seen.{Seen}
use Rattle.board_share.specs.Eyes.{IsCounted, entries_in}
use Rattle.board_share.specs.Logs.{head_of_book}
use Rattle.edit_core.specs.declared.event.EventKind.TheVariants as kind
use Rattle.board_share.specs.declared.counts.Counts.{Counts}
use Rattle.board_share.specs.declared.counts.Totals.{Totals}

-- the entries of a book, so many of them, which are a history that comes to this board
pub record IsFrontOfBook (book : Book) (opening : Seen) (count : ℕ) (kept : Book) (entries : List Entry)
    (board : Seen) : Type 0 where
  pub number : count ≡ length entries
  pub book_is : kept ≡ book
  pub run : IsRun (record { opening = opening; entries = entries })
  pub ends : last_board opening entries ≡ board

-- what an eye counted is in the history that it knows; its share of the ledger is one part, with as
-- much as it counted
pub record IsEye (number : ℕ) (entries : List Entry) (counts : Counts) (parts amount : ℕ) : Type
    0 where
  pub counted : IsCounted number entries counts
  pub part : parts ≡ 1
  pub amount_is : amount ≡ entries_in counts

-- how many edits and loads a history has
pub record AreTotals (entries : List Entry) (totals : Totals) : Type 0 where
  pub edits : totals.edits ≡ entries_of kind.Edit entries
  pub loads : totals.loads ≡ entries_of kind.Load entries

-- what stands under the lock: the number that all events go through, the opening board, and how
-- many entries the ledger has counted; of the ledger's parts none is left
pub record IsScribe (entries : List Entry) (book : Book) (head : Named) (opening kept : Seen)
    (total parts amount : ℕ) (totals : Totals) : Type 0 where
  pub head_is : head ≡ head_of_book book
  pub opening_is : kept ≡ opening
  pub total_is : total ≡ length entries
  pub none_left : (parts ≡ 0) × (amount ≡ 0)
  pub totals_are : AreTotals entries totals

-- a whole history, with its last board and its totals
pub record IsClosed (opening last : Seen) (entries : List Entry) (totals : Totals) : Type 0 where
  pub run : IsRun (record { opening = opening; entries = entries })
  pub ends : last_board opening entries ≡ last
  pub totals_are : AreTotals entries totals
