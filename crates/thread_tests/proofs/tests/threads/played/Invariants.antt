-- The name stands for the blank and the board that are given.
use Rattle.thread_tests.proofs.tests.threads.played.Given as goal

abbrev pub ghosts-play_over-D-Naming : goal.ghosts-play_over-D-Naming
ghosts-play_over-D-Naming g a = record { book = a.blank.book; opening = a.opening }

abbrev pub ghosts-play_over-D-Ledger : goal.ghosts-play_over-D-Ledger
ghosts-play_over-D-Ledger g a = record { name = a.blank.ledger; parts = a.blank.parts }
