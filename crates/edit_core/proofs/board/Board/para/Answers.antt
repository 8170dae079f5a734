-- The paragraph stands at its place, and its state beside it.
use Rattle.std.proofs.Common.{◌≡◌, ◌∙◌, sym, ap, Some, slice_get}
use Rattle.std.specs.Arc.{arc_value}
use Rattle.std.specs.Option.{option_copied, option_map}
use Rattle.std.proofs.lemmas.Option.{slice_get-map}
use Rattle.edit_core.specs.Seen.{Seen, IsCheckOfParagraph, standing_of}
use Rattle.edit_core.specs.Views.{view_of, shown_in}
use Rattle.edit_core.proofs.Kept.{seen}
use Rattle.edit_core.proofs.Locality.{shown-at, shown-kept, shows-now}
use Rattle.edit_core.proofs.Places.{zip-at}
use Rattle.edit_core.proofs.board.Board.para.Goals as goal

pub returns-in-Some-get-clause-some : goal.returns-in-Some-get-clause-some
returns-in-Some-get-clause-some g c =
    let inside = c.self.inside in
    let lexicon_of = g.J.Judge.lexicon in
    let board : Seen =
    seen lexicon_of inside.point inside.text inside.dict (arc_value inside.judge)
    inside.paragraphs inside.states inside.next_id in
    let place = c.args.place in
    let paragraph = c.in-Some.para.now in
    let s = c.in-Some-get.state.now in
    let at : slice_get board.paragraphs place ≡ Some paragraph =
    sym c.get.ensures ∙ ap option_copied c.in-Some.is in
    let beside : slice_get inside.states place ≡ Some s =
    sym c.get-in-Some.ensures ∙ ap option_copied c.in-Some-get.is in
    let stands : slice_get board.standings place ≡ Some (standing_of s) =
    slice_get-map standing_of inside.states place ∙ ap (option_map standing_of) beside in
    let shown : slice_get (view_of board).shown place ≡ Some (shown_in c.shown.result) =
    shown-at board 1 board.standings place (standing_of s) stands
    ∙ ap (λ m. Some m)
    (shown-kept lexicon_of board place paragraph s c.shown_marks_are_local.ensures at
    (zip-at (IsCheckOfParagraph lexicon_of board.lexicon) board.paragraphs inside.states place paragraph s
    c.self.invariant.1 at beside) ∙ sym c.shown.ensures) in
    shows-now board c.args.self.now place _ c.self.view_is (
    record {
      paragraph = paragraph;
      at = at;
      id = ap (λ p. p.id) c.para.view_is;
      rev = ap (λ p. p.rev) c.para.view_is;
      text = ap (λ p. p.text) c.para.view_is;
      shown = shown;
    }
    )
