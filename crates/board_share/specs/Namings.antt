-- What a desk's name stands for.
use Rattle.std.specs.Prelude.{◌≡◌, ℕ, []}
use Rattle.logbook.specs.Pages.{Book}
use Rattle.mark_types.specs.spell_types.Blank.{blank_lexicon}
use Rattle.edit_core.specs.Seen.{Seen, opening_of}

-- a desk's name before any desk has it: the ledger that is open under it, in how many parts, and
-- the book of its events
pub record BlankSeen : Type 0 where
  pub ledger : ℕ
  pub parts : ℕ
  pub book : Book

-- a name stands for a blank and for an opening board: the ledger and its parts, the book of events
-- and the board are those of the name
pub record IsNamed (blank : BlankSeen) (opening : Seen) (name parts : ℕ) (book : Book)
    (opens : Seen) : Type 0 where
  pub ledger_is : blank.ledger ≡ name
  pub parts_are : blank.parts ≡ parts
  pub book_is : blank.book ≡ book
  pub opening_is : opening ≡ opens

-- a book that no desk has
abbrev pub no_book : Book
no_book = record { number = 0; log_name = 0; cells_name = 0 }

-- a board without paragraphs
abbrev pub no_board : Seen
no_board = opening_of blank_lexicon []
