-- So many texts are shown.
use Rattle.std.proofs.Common.{◌≡◌, map, take}
use Rattle.edit_core.specs.Views.{view_of}
use Rattle.console_board.specs.BoardAnswers.{shown_para}
use Rattle.console_board.proofs.showing.show.Given as goal

abbrev pub invariant-loop-place : goal.invariant-loop-place
invariant-loop-place g l = l.paragraphs ≡ take l.place (map shown_para (view_of l.board).shown)
