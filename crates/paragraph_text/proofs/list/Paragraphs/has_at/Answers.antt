-- The paragraph at the place has the id, which no other has.
use Rattle.std.proofs.Common.{◌≡◌, ◌∙◌, sym, ap, subst, Some, slice_get}
use Rattle.std.specs.Option.{option_copied}
use Rattle.paragraph_text.specs.Edits.{place_of}
use Rattle.paragraph_text.specs.Laws.{own-placed}
use Rattle.paragraph_text.proofs.list.Paragraphs.has_at.Goals as goal

pub returns-in-Some : goal.returns-in-Some
returns-in-Some c =
    let rows = c.args.self.now in
    let found = c.in-Some.para.now in
    let at : slice_get rows c.args.place ≡ Some found =
    sym c.get.ensures ∙ ap option_copied c.in-Some.is in
    let named : found.id ≡ c.args.id = sym (ap (λ p. p.id) c.para.view_is) ∙ c.if-para-id.true in
    λ _. subst (λ id. place_of id rows ≡ Some c.args.place) named
    (own-placed rows c.args.place found c.requires at)
