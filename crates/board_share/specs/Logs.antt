-- The number that every event goes through, and what a step of it tells.
use Rattle.std.specs.Prelude.{ℕ, ◌≡◌, ◌==◌, true, List, [], ◌∷◌, ◌++◌, length, MatchBool}
use Rattle.logbook.specs.Pages.{Book, Cell, Named, Step, View}

-- the number is how many entries the list has; the book's other word is left at 0
abbrev pub IsLogKept : {E : Type 0} → List Cell → List E → Type 0
IsLogKept cells list = cells ≡ (length list, true) ∷ (0, true) ∷ []

-- the number of a book
abbrev pub head_of_book : Book → Named
head_of_book book = record { tracked = true; key = 0; book = book }

-- where the number was the one that was expected, the entry stands behind all that had been seen
abbrev pub AppendsEntry : {E : Type 0} → Step E → View E ℕ → ℕ → View E ℕ → Type 0
AppendsEntry step before found after =
    MatchBool (found == step.old) (after.0 ≡ before.0 ++ step.ask ∷ []) (Unit {0})
