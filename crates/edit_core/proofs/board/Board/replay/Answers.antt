-- The first of the events that are left has its turn.
use Rattle.std.proofs.Common.{◌≡◌, ◌∙◌, refl, sym, subst, [], map}
use Rattle.std.proofs.lemmas.List.{nil_from_length}
use Rattle.edit_core.specs.Events.{event_of}
use Rattle.edit_core.specs.Runs.{Replays}
use Rattle.edit_core.proofs.Replays.{first-fit, later-fit, later-made}
use Rattle.edit_core.proofs.board.Board.replay.Goals as goal

pub answered-requires : goal.answered-requires
answered-requires g c =
    first-fit (event_of g.J.Judge.lexicon) c.loop-event.board c.in-Some.event
    c.loop-event.event-iterator.rest.items c.next.new.self.rest.items c.in-Some.ensures.steps.0
    c.loop-event.invariant.fit

pub loop-event-preserved : goal.loop-event-preserved
loop-event-preserved g c =
    let left = c.loop-event.event-iterator.rest.items in
    let later = c.next.new.self.rest.items in
    let is = c.in-Some.ensures.steps.0 in
    record {
      made = λ after more. c.loop-event.invariant.made after
          (later-made (event_of g.J.Judge.lexicon) c.loop-event.board c.in_ok-board.board after
          c.in-Some.event left later is c.in_ok-board.ensures more);
      fit = later-fit (event_of g.J.Judge.lexicon) c.loop-event.board c.in_ok-board.board
          c.in-Some.event left later is c.loop-event.invariant.fit c.in_ok-board.ensures;
    }

pub returns : goal.returns
returns g c =
    let left = c.loop-event.event-iterator.rest in
    let none : left.items ≡ [] =
    nil_from_length left.items (sym left.ok.0 ∙ c.in-None.ensures.steps.0) in
    c.loop-event.invariant.made c.loop-event.board
    (subst (λ es. Replays c.loop-event.board (map (event_of g.J.Judge.lexicon) es)
    c.loop-event.board) (sym none) refl)
