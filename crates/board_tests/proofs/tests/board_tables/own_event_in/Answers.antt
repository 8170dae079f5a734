-- What is of every board is of this one.
use Rattle.std.proofs.Common.{Result, Ok, Err, IfOk}
use Rattle.edit_core.specs.Events.{event_of}
use Rattle.edit_core.specs.Seen.{Seen}
use Rattle.edit_core.specs.Runs.{IsOfBoard}
use Rattle.board_tests.proofs.tests.board_tables.own_event_in.Goals as goal

at-board : {E A : Type 0} (P : Seen → A → Type 0) (r : Result A E) (board : Seen)
    → IfOk r (λ a. (board : Seen) → P board a) → IfOk r (P board)
at-board P (Ok a) board all = all board
at-board P (Err e) board all = tt

pub returns-in_default : goal.returns-in_default
returns-in_default g c =
    at-board (λ board event. IsOfBoard board (event_of g.J.Judge.lexicon event))
    c.plain_event.result c.args.board.now c.plain_event.ensures.of
