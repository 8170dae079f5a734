-- The first paragraph that waits is free, so that nothing is due.
use Rattle.std.proofs.Common.{◌≡◌, ◌∙◌, sym, ap, subst, None}
use Rattle.std.specs.Arc.{arc_value}
use Rattle.edit_core.specs.Events.{AClaim}
use Rattle.edit_core.specs.Runs.{last_board}
use Rattle.edit_core.specs.Seen.{Seen, IsValidBoard}
use Rattle.edit_core.specs.Steps.{first_refusal}
use Rattle.board_share.proofs.Claiming.{only-wanting}
use Rattle.board_share.proofs.front.Front.claimed.Goals as goal

pub returns-clause-refused : goal.returns-clause-refused
returns-clause-refused g c =
    let claim = c.requires.claim in
    let board : Seen = last_board g.D.Naming.opening c.args.self.now in
    let ends : arc_value c.self.inside.board ≡ board =
    sym c.self.invariant.ends ∙ ap (last_board g.D.Naming.opening) c.self.view_is in
    let valid = subst IsValidBoard (c.deref.ensures ∙ ends) c.versions-versions.ensures.valid in
    let free = c.waiting_is_free.ensures board c.args.worker claim.place claim.paragraph valid
    c.requires.goes_on claim.first claim.at in
    let none : first_refusal board (AClaim c.args.worker c.args.claim.now.id c.args.claim.now.rev)
    ≡ None = rw (claim.id, claim.rev) free in
    only-wanting c.next_near.result _ (ap (λ (b : Seen). first_refusal b
    (AClaim c.args.worker c.args.claim.now.id c.args.claim.now.rev)) (c.deref-2.ensures ∙ ends)
    ∙ none) c.next_near.ensures.refused
