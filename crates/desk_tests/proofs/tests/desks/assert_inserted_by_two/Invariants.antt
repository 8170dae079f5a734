-- The name stands for the blank and the board that are given.
use Rattle.desk_tests.proofs.tests.desks.assert_inserted_by_two.Given as goal

abbrev pub ghosts-assert_two_threads-D-Naming : goal.ghosts-assert_two_threads-D-Naming
ghosts-assert_two_threads-D-Naming g a = record { book = a.blank.book; opening = a.opening }

abbrev pub ghosts-assert_two_threads-D-Ledger : goal.ghosts-assert_two_threads-D-Ledger
ghosts-assert_two_threads-D-Ledger g a = record { name = a.blank.ledger; parts = a.blank.parts }
