-- How a paragraph stands, by what a board shows of it.
use Rattle.std.proofs.Common.{◌≡◌, ◌∙◌, refl, sym, ap, ℕ, zero, suc, ◌+◌, ◌==◌, Bool, true, List}
use Rattle.std.proofs.Common.{[], ◌∷◌}
use Rattle.std.proofs.Common.{slice_get, Option, None, Some}
use Rattle.std.specs.Option.{option_map_or}
use Rattle.std.proofs.lemmas.Option.{cond_some, same_Some}
use Rattle.board_share.specs.paragraph_text.Laws.{found-none}
use Rattle.board_share.specs.paragraph_text.Paragraphs.{Paragraph}
use Rattle.board_share.specs.edit_core.Laws.{find-beside, none-beside}
use Rattle.board_share.specs.edit_core.Seen.{Seen}
use Rattle.board_share.specs.edit_core.Steps.{found, is_open, place_of}
use Rattle.board_share.specs.edit_core.Views.{ShownMarks, ShowsParagraph, is_parked, shown_from}
use Rattle.board_share.specs.edit_core.Views.{shown_in}
use Rattle.board_share.specs.edit_core.Views.{view_of}
use Rattle.board_share.specs.edit_core.declared.state.Standing.{Standing}
use Rattle.board_share.specs.edit_core.declared.state.Standing.TheVariants as standing
use Rattle.board_share.specs.edit_core.declared.view.ParaView.{ParaView}
use Rattle.board_share.specs.declared.claim.Claim.{Claim}
use Rattle.check_workers.specs.Ends.{why_for, why_of}
use Rattle.check_workers.specs.Settling.{HasOpen}
use Rattle.check_workers.specs.Showing.{is_open_in, is_parked_in}
use Rattle.check_workers.specs.declared.ends.Why.{Why}
use Rattle.check_workers.specs.declared.ends.Why.TheVariants.{Gone}

-- a paragraph stands so, and this is what is shown of it
pub record StandsAs (standings : List Standing) (place : ℕ) (shown : ShownMarks) : Type 0 where
  pub stands : Standing
  pub at : slice_get standings place ≡ Some stands
  pub parked : is_parked_in shown ≡ is_parked stands
  pub free : is_open_in shown ≡ is_open stands

pub stands-as : (board : Seen) (number : ℕ) (standings : List Standing) (place : ℕ)
    (shown : ShownMarks) → slice_get (shown_from board number standings) place ≡ Some shown
    → StandsAs standings place shown
stands-as board number [] place shown at = absurd (cc)
stands-as board number (standing.Waiting ∷ standings) zero shown at =
    record { stands = standing.Waiting; at = refl; parked = cc; free = cc }
stands-as board number (standing.Held worker ∷ standings) zero shown at =
    record { stands = standing.Held worker; at = refl; parked = cc; free = cc }
stands-as board number (standing.Parked ∷ standings) zero shown at =
    record { stands = standing.Parked; at = refl; parked = cc; free = cc }
stands-as board number (standing.Finished ∷ standings) zero shown at = record {
  stands = standing.Finished;
  at = refl;
  parked = ap is_parked_in (sym (same_Some _ shown at));
  free = ap is_open_in (sym (same_Some _ shown at));
}
stands-as board number (stands ∷ standings) (suc place) shown at =
    let rest = stands-as board (number + 1) standings place shown at in
    record { stands = rest.stands; at = rest.at; parked = rest.parked; free = rest.free }

-- the paragraph at the place of an id is found with how it stands
pub found-as : (board : Seen) (id place : ℕ) (paragraph : Paragraph) (stands : Standing)
    → place_of id board.paragraphs ≡ Some place → slice_get board.paragraphs place ≡ Some paragraph
    → slice_get board.standings place ≡ Some stands
    → found id board ≡ Some (paragraph, stands)
found-as board id place paragraph stands placed at beside =
    find-beside (λ (p : Paragraph). p.id == id) board.paragraphs board.standings place
    (cond_some _ _ place placed).1 at beside

-- where no paragraph has the id of a claim, it is gone
pub why-gone : {J : Type 0} (board : Seen) (claim : Claim J)
    → place_of claim.id board.paragraphs ≡ None → why_of board claim ≡ Some Gone
why-gone board claim none =
    let p = λ (paragraph : Paragraph). paragraph.id == claim.id in
    ap (λ rows. option_map_or
    (λ row. why_for claim.rev claim.dict row.0.rev board.dict_version (is_parked row.1)) rows
    (Some Gone))
    (none-beside p board.paragraphs board.standings (found-none p board.paragraphs none))

-- the cause to stop a check, by what is shown of its paragraph and by what is in force
pub why-shown : {J : Type 0} (board : Seen) (claim : Claim J) (place : ℕ) (view : ParaView)
    (why : Option Why) → place_of claim.id board.paragraphs ≡ Some place → ShowsParagraph board place view
    → {dict : ℕ} {parked : Bool} → dict ≡ board.dict_version
    → parked ≡ is_parked_in (shown_in view.shown)
    → why ≡ why_for claim.rev claim.dict view.rev dict parked
    → why_of board claim ≡ why
why-shown board claim place view why placed shows {dict} {parked} in-force is-parked is =
    let kept = stands-as board 1 board.standings place (shown_in view.shown) shows.shown in
    ap (λ rows. option_map_or
    (λ row. why_for claim.rev claim.dict row.0.rev board.dict_version (is_parked row.1)) rows
    (Some Gone))
    (found-as board claim.id place shows.paragraph kept.stands placed shows.at kept.at)
    ∙ (ap (λ rev. why_for claim.rev claim.dict rev board.dict_version (is_parked kept.stands))
    (sym shows.rev)
    ∙ (ap (why_for claim.rev claim.dict view.rev board.dict_version)
    (sym (is-parked ∙ kept.parked))
    ∙ (ap (λ d. why_for claim.rev claim.dict view.rev d parked) (sym in-force) ∙ sym is)))

-- what is shown of a paragraph tells whether it is open
pub open-shown : (board : Seen) (place : ℕ) (shown : ShownMarks) (stands : Standing)
    → slice_get (view_of board).shown place ≡ Some shown
    → slice_get board.standings place ≡ Some stands → is_open_in shown ≡ is_open stands
open-shown board place shown stands at beside =
    let kept = stands-as board 1 board.standings place shown at in
    kept.free ∙ ap is_open (same_Some kept.stands stands (sym kept.at ∙ beside))

-- a paragraph that is shown as open is open
pub has-open : (board : Seen) (place : ℕ) (shown : ShownMarks)
    → slice_get (view_of board).shown place ≡ Some shown → is_open_in shown ≡ true
    → HasOpen board
has-open board place shown at free =
    let kept = stands-as board 1 board.standings place shown at in
    record { place = place; stands = kept.stands; at = kept.at; free = sym kept.free ∙ free }
