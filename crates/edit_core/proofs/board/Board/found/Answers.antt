-- The first paragraph with an id stands at its place, and a state beside it.
use Rattle.std.proofs.Common.{◌≡◌, ◌∙◌, sym, ap, subst, None, Some, slice_get}
use Rattle.std.specs.Arc.{arc_value}
use Rattle.std.specs.Option.{option_copied, option_map}
use Rattle.std.proofs.lemmas.Option.{slice_get-map, none-some}
use Rattle.edit_core.specs.Seen.{Seen, standing_of}
use Rattle.edit_core.specs.Steps.{IsAt, IsBoardFoundAt, found}
use Rattle.edit_core.proofs.Found.{found-none, found-some, some-at}
use Rattle.edit_core.proofs.Kept.{seen}
use Rattle.paragraph_text.specs.Laws.{some-at as stands-at}
use Rattle.edit_core.proofs.board.Board.found.Goals as goal

pub returns-in-None-clause-none : goal.returns-in-None-clause-none
returns-in-None-clause-none g c =
    let inside = c.self.inside in
    let board : Seen =
    seen g.J.Judge.lexicon inside.point inside.text inside.dict (arc_value inside.judge)
    inside.paragraphs inside.states inside.next_id in
    ap (found c.args.id) (sym c.self.view_is)
    ∙ found-none board c.args.id (sym c.place_near.ensures ∙ c.in-None.is)

pub returns-in-None-get-clause-none : goal.returns-in-None-get-clause-none
returns-in-None-get-clause-none g c =
    let inside = c.self.inside in
    let there =
    stands-at inside.paragraphs c.args.id c.in-Some.place
    (sym c.place_near.ensures ∙ c.in-Some.is) in
    absurd (none-some there.0 (sym (sym c.get.ensures ∙ ap option_copied c.in-None-get.is)
    ∙ there.1.at))

pub returns-in-None-get-2-clause-none : goal.returns-in-None-get-2-clause-none
returns-in-None-get-2-clause-none g c =
    let inside = c.self.inside in
    let board : Seen =
    seen g.J.Judge.lexicon inside.point inside.text inside.dict (arc_value inside.judge)
    inside.paragraphs inside.states inside.next_id in
    let there =
    some-at board c.args.id c.in-Some.place c.self.invariant.0.standings
    (sym c.place_near.ensures ∙ c.in-Some.is) in
    let nothing : slice_get board.standings c.in-Some.place ≡ None =
    slice_get-map standing_of inside.states c.in-Some.place
    ∙ ap (option_map standing_of)
    (sym c.get-in-Some-get.ensures ∙ ap option_copied c.in-None-get-2.is) in
    absurd (none-some there.1 (sym nothing ∙ there.2.standing_is))

pub returns-in-Some-get-2-clause-found : goal.returns-in-Some-get-2-clause-found
returns-in-Some-get-2-clause-found g c =
    let inside = c.self.inside in
    let board : Seen =
    seen g.J.Judge.lexicon inside.point inside.text inside.dict (arc_value inside.judge)
    inside.paragraphs inside.states inside.next_id in
    let id = c.args.id in
    let place = c.in-Some.place in
    let paragraph = c.in-Some-get.para.now in
    let stands = c.standing.result in
    let here : IsAt board id place paragraph stands = record {
      place_is = sym c.place_near.ensures ∙ c.in-Some.is;
      paragraph_is = sym c.get.ensures ∙ ap option_copied c.in-Some-get.is;
      standing_is = slice_get-map standing_of inside.states place
          ∙ ap (option_map standing_of)
          (sym c.get-in-Some-get.ensures ∙ ap option_copied c.in-Some-get-2.is)
          ∙ ap (λ s. Some s) (sym c.standing.ensures);
    } in
    subst (λ (board : Seen). IsBoardFoundAt board id place c.para.inside.rev stands) c.self.view_is (
    record {
      paragraph = paragraph;
      here = here;
      rev_is = ap (λ p. p.rev) c.para.view_is;
      found_is = found-some board id place paragraph stands here;
    }
    )
