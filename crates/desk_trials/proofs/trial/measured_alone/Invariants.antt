-- The name stands for the blank and the board that are given.
use Rattle.desk_trials.proofs.trial.measured_alone.Given as goal

abbrev pub ghosts-measured-D-Naming : goal.ghosts-measured-D-Naming
ghosts-measured-D-Naming g a = record { book = a.blank.book; opening = a.opening }

abbrev pub ghosts-measured-D-Ledger : goal.ghosts-measured-D-Ledger
ghosts-measured-D-Ledger g a = record { name = a.blank.ledger; parts = a.blank.parts }
