-- What the events that are left make of the board so far is what all events make of the first
-- board.
use Rattle.std.proofs.Common.{map}
use Rattle.edit_core.specs.Events.{event_of}
use Rattle.edit_core.specs.Runs.{AreFit, Replays}
use Rattle.edit_core.specs.Seen.{Seen}
use Rattle.edit_core.proofs.board.Board.replay.Given as goal

abbrev pub invariant-loop-event : goal.invariant-loop-event
invariant-loop-event g l = record {
  made : (after : Seen)
      → Replays l.board (map (event_of g.J.Judge.lexicon) l.event-iterator.rest.items) after
      → Replays l.fn.self (map (event_of g.J.Judge.lexicon) l.fn.events.items) after;
  fit : AreFit l.board (map (event_of g.J.Judge.lexicon) l.event-iterator.rest.items);
}
