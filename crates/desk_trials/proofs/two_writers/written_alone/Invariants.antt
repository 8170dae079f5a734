-- The name stands for the blank and the board that are given.
use Rattle.desk_trials.proofs.two_writers.written_alone.Given as goal

abbrev pub ghosts-written-D-Naming : goal.ghosts-written-D-Naming
ghosts-written-D-Naming g a = record { book = a.blank.book; opening = a.opening }

abbrev pub ghosts-written-D-Ledger : goal.ghosts-written-D-Ledger
ghosts-written-D-Ledger g a = record { name = a.blank.ledger; parts = a.blank.parts }
