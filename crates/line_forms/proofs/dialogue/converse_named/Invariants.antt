-- The name stands for the blank and the board that are given.
use Rattle.line_forms.proofs.dialogue.converse_named.Given as goal

abbrev pub ghosts-converse_over-D-Naming : goal.ghosts-converse_over-D-Naming
ghosts-converse_over-D-Naming g a = record { book = a.blank.book; opening = a.opening }

abbrev pub ghosts-converse_over-D-Ledger : goal.ghosts-converse_over-D-Ledger
ghosts-converse_over-D-Ledger g a = record { name = a.blank.ledger; parts = a.blank.parts }
