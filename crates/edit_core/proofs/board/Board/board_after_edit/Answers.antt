-- The edit's list is that of the next board, and the paragraph that it touches waits.
use Rattle.std.proofs.Common.{◌+◌, ◌<◌, ◌^◌, sym, subst}
use Rattle.std.specs.Arc.{arc_value}
use Rattle.edit_core.specs.Seen.{Seen}
use Rattle.edit_core.specs.Steps.{Edits}
use Rattle.edit_core.proofs.Kept.{IsKept, kept-edited, seen-edited, seen}
use Rattle.edit_core.proofs.board.Board.board_after_edit.Goals as goal

pub invariant_of-result : goal.invariant_of-result
invariant_of-result g c =
    let inside = c.self.inside in
    let lexicon_of = g.J.Judge.lexicon in
    let applied = c.in_ok-paragraphs.ensures in
    subst (λ paragraphs. IsKept lexicon_of (inside.point + 1) (inside.text + 1) inside.dict
    (arc_value c.in_ok-try_clone.field-0) paragraphs c.in_ok-kept_beside.field-0
    c.next_id_after.result) (sym c.paragraphs.view_is)
    (subst (IsKept lexicon_of (inside.point + 1) (inside.text + 1) inside.dict
    (arc_value c.in_ok-try_clone.field-0) c.in_ok-paragraphs.paragraphs
    c.in_ok-kept_beside.field-0) (sym c.next_id_after.ensures)
    (kept-edited lexicon_of inside.point inside.text inside.dict (arc_value inside.judge)
    (arc_value c.in_ok-try_clone.field-0) inside.paragraphs c.in_ok-paragraphs.paragraphs
    inside.states c.in_ok-kept_beside.field-0 inside.next_id c.args.edit.now c.self.invariant
    (subst (λ (board : Seen). board.point < 2 ^ 62) (sym c.self.view_is) c.requires)
    c.in_ok-try_clone.ensures applied.applied
    (applied.kept c.self.invariant.0.paragraphs) c.in_ok-kept_beside.ensures))

pub returns-clause-made : goal.returns-clause-made
returns-clause-made g c =
    let inside = c.self.inside in
    let lexicon_of = g.J.Judge.lexicon in
    let applied = c.in_ok-paragraphs.ensures in
    subst (λ paragraphs. Edits c.args.self.now c.args.edit.now
    (seen lexicon_of (inside.point + 1) (inside.text + 1) inside.dict
    (arc_value c.in_ok-try_clone.field-0) paragraphs c.in_ok-kept_beside.field-0
    c.next_id_after.result)) (sym c.paragraphs.view_is)
    (subst (λ next. Edits c.args.self.now c.args.edit.now
    (seen lexicon_of (inside.point + 1) (inside.text + 1) inside.dict
    (arc_value c.in_ok-try_clone.field-0) c.in_ok-paragraphs.paragraphs
    c.in_ok-kept_beside.field-0 next)) (sym c.next_id_after.ensures)
    (seen-edited lexicon_of inside.point inside.text inside.dict (arc_value inside.judge)
    (arc_value c.in_ok-try_clone.field-0) inside.paragraphs c.in_ok-paragraphs.paragraphs
    inside.states c.in_ok-kept_beside.field-0 inside.next_id c.args.edit.now c.args.self.now
    c.self.view_is c.in_ok-try_clone.ensures applied.applied c.in_ok-kept_beside.ensures))
