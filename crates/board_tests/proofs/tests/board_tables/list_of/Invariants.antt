-- So far each event is of the board.
use Rattle.std.proofs.Common.{map}
use Rattle.std.specs.List.{AllByRecursion}
use Rattle.edit_core.specs.Events.{event_of}
use Rattle.edit_core.specs.Runs.{IsOfBoard}
use Rattle.board_tests.proofs.tests.board_tables.list_of.Given as goal

abbrev pub invariant-loop-line : goal.invariant-loop-line
invariant-loop-line g l =
    AllByRecursion (IsOfBoard l.board) (map (event_of g.J.Judge.lexicon) l.events.items)
