-- The name stands for the blank and the board that are given.
use Rattle.team_forms.proofs.teamwork.answer_at_once.Given as goal

abbrev pub ghosts-answer_named-D-Naming : goal.ghosts-answer_named-D-Naming
ghosts-answer_named-D-Naming g a = record { book = a.blank.book; opening = a.opening }

abbrev pub ghosts-answer_named-D-Ledger : goal.ghosts-answer_named-D-Ledger
ghosts-answer_named-D-Ledger g a = record { name = a.blank.ledger; parts = a.blank.parts }
