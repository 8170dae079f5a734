-- Each part that may end the word is looked at.
use Rattle.std.proofs.Common.{◌≡◌, ◌∙◌, sym, subst, refl, ◌<◌, false, true, true≢false, List, ◌∷◌}
use Rattle.std.proofs.Common.{[], length, arith}
use Rattle.spell_types.specs.declared.parts.Part.{Part}
use Rattle.spell_types.specs.declared.parts.Place.TheVariants.{Middle, Last}
use Rattle.compound_words.specs.Rests.{Piece, asked_by, patterns_of}
use Rattle.compound_words.proofs.AddLemmas.{AreLeft, left-all, left-turn, left-none, left-given}
use Rattle.compound_words.proofs.AddLemmas.{last-barred, last-before, once-grown}
use Rattle.compound_words.proofs.rows.add_last.Goals as goal

-- none is left
nothing : (parts : List Part) → (0 < length parts → false ≡ true) → parts ≡ []
nothing [] none = refl
nothing (part ∷ parts) none = absurd (true≢false (sym (none (omega arith))))

pub loop-part-init : goal.loop-part-init
loop-part-init c =
    left-all (asked_by c.args.search.now) (patterns_of c.args.search.now) Middle c.args.text.now
    (record {
      before = c.args.start.now.before.now;
      front = c.args.text.now;
      following = [];
      rests = [];
    })
    c.in_ok-parts.parts.items c.args.row.now c.in_ok-parts.ensures

pub loop-part-preserved-in-Continue-branch-2 : goal.loop-part-preserved-in-Continue-branch-2
loop-part-preserved-in-Continue-branch-2 c =
    let a = asked_by c.args.search.now in
    let rules = patterns_of c.args.search.now in
    let text = c.args.text.now in
    let piece : Piece =
    record {
      before = c.args.start.now.before.now;
      front = text;
      following = [];
      rests = [];
    } in
    let part = c.in-Some.part in
    let left =
    subst (λ parts. AreLeft a rules Middle text piece parts c.args.row.now c.loop-part.row)
    c.in-Some.ensures.items c.loop-part.invariant in
    let given = left-given a piece.before text c.pop.new.self.items part left.given in
    left-turn c.pop.new.self.items part left
    (once-grown c.patterns_match.ensures.one_by_one a rules {place = Last}
    (last-before a rules _ piece.before given
    (sym c.may_end.ensures ∙ c.if-may_end.true) refl) c.in_ok-add.ensures)

pub loop-part-preserved : goal.loop-part-preserved
loop-part-preserved c =
    let a = asked_by c.args.search.now in
    let rules = patterns_of c.args.search.now in
    let text = c.args.text.now in
    let piece : Piece =
    record {
      before = c.args.start.now.before.now;
      front = text;
      following = [];
      rests = [];
    } in
    let part = c.in-Some.part in
    let left =
    subst (λ parts. AreLeft a rules Middle text piece parts c.args.row.now c.loop-part.row)
    c.in-Some.ensures.items c.loop-part.invariant in
    let given = left-given a piece.before text c.pop.new.self.items part left.given in
    left-turn c.pop.new.self.items part left
    (last-barred a rules text part c.loop-part.row piece.before given
    (sym c.may_end.ensures ∙ c.if-may_end.false))

pub returns-clause-has : goal.returns-clause-has
returns-clause-has c =
    let a = asked_by c.args.search.now in
    let rules = patterns_of c.args.search.now in
    let text = c.args.text.now in
    let piece : Piece =
    record {
      before = c.args.start.now.before.now;
      front = text;
      following = [];
      rests = [];
    } in
    left-none a rules Middle text piece c.args.row.now c.loop-part.row
    (subst (λ parts. AreLeft a rules Middle text piece parts c.args.row.now c.loop-part.row)
    (nothing c.loop-part.parts.items
    (λ some. c.in_default.ensures.variant.1
    (omega (arith, some, c.loop-part.parts.ok.0)))) c.loop-part.invariant)
