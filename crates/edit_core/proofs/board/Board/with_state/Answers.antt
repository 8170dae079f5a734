-- One state is another, and the board is seen so.
use Rattle.std.proofs.Common.{◌≡◌, ◌<◌, ◌^◌, sym, subst, slice_get, Some}
use Rattle.std.specs.Arc.{arc_value}
use Rattle.paragraph_text.specs.Paragraphs.{Paragraph}
use Rattle.edit_core.specs.Seen.{Seen, IsCheckOfParagraph}
use Rattle.edit_core.proofs.Kept.{kept-moved, seen-moved}
use Rattle.edit_core.proofs.board.Board.with_state.Goals as goal

pub invariant_of-result : goal.invariant_of-result
invariant_of-result g c =
    let inside = c.self.inside in
    let lexicon_of = g.J.Judge.lexicon in
    kept-moved lexicon_of inside.point inside.text inside.dict (arc_value inside.judge)
    (arc_value c.in_ok-try_clone.field-0) inside.paragraphs c.in_ok-copy.field-0
    inside.states c.in_ok-replaced.field-0 inside.next_id c.args.place c.args.state c.self.invariant
    (subst (λ (board : Seen). board.point < 2 ^ 62) (sym c.self.view_is) c.requires.goes_on)
    c.in_ok-try_clone.ensures c.in_ok-copy.ensures c.in_ok-replaced.ensures
    (subst (λ (board : Seen). (paragraph : Paragraph) → slice_get board.paragraphs c.args.place
    ≡ Some paragraph → IsCheckOfParagraph lexicon_of board.lexicon paragraph c.args.state)
    (sym c.self.view_is) c.requires.theirs)

pub returns : goal.returns
returns g c =
    let inside = c.self.inside in
    let lexicon_of = g.J.Judge.lexicon in
    seen-moved lexicon_of inside.point inside.text inside.dict (arc_value inside.judge)
    (arc_value c.in_ok-try_clone.field-0) inside.paragraphs c.in_ok-copy.field-0
    inside.states c.in_ok-replaced.field-0 inside.next_id c.args.place c.args.state c.args.self.now
    c.self.view_is
    c.in_ok-try_clone.ensures c.in_ok-copy.ensures c.in_ok-replaced.ensures
