-- Under another dictionary no check is kept.
use Rattle.std.proofs.Common.{◌<◌, ◌^◌, sym, subst}
use Rattle.std.specs.Arc.{arc_value}
use Rattle.edit_core.specs.Seen.{Seen}
use Rattle.edit_core.proofs.Kept.{kept-loaded, seen-loaded}
use Rattle.edit_core.proofs.board.Board.board_after_load.Goals as goal

pub invariant_of-result : goal.invariant_of-result
invariant_of-result g c =
    let inside = c.self.inside in
    kept-loaded g.J.Judge.lexicon inside.point inside.text inside.dict (arc_value inside.judge)
    (arc_value c.args.judge) inside.paragraphs c.in_ok-copy.field-0
    inside.states c.in_ok-reloaded_states.field-0 inside.next_id c.self.invariant
    (subst (λ (board : Seen). board.point < 2 ^ 62) (sym c.self.view_is) c.requires)
    c.in_ok-copy.ensures c.in_ok-reloaded_states.ensures

pub returns : goal.returns
returns g c =
    let inside = c.self.inside in
    seen-loaded g.J.Judge.lexicon inside.point inside.text inside.dict (arc_value inside.judge)
    (arc_value c.args.judge) inside.paragraphs c.in_ok-copy.field-0
    inside.states c.in_ok-reloaded_states.field-0 inside.next_id c.args.self.now c.self.view_is
    c.in_ok-copy.ensures c.in_ok-reloaded_states.ensures
