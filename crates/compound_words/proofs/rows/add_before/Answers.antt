-- Each part is looked at with the rests that it may stand before.
use Rattle.std.proofs.Common.{◌≡◌, ◌∙◌, ◌++◌, ◌<◌, true, false, true≢false, sym, ap, subst, refl}
use Rattle.std.proofs.Common.{List, [], ◌∷◌, length, map, arith}
use Rattle.spell_types.specs.declared.parts.Part.{Part}
use Rattle.compound_words.specs.Counting.{fewest}
use Rattle.compound_words.specs.Rests.{Piece, asked_by, count_of, patterns_of, rests_at}
use Rattle.compound_words.proofs.AddLemmas.{AreLeft, left-all, left-none, left-turn, left-given}
use Rattle.compound_words.proofs.AddLemmas.{inner-before, once-grown}
use Rattle.compound_words.proofs.rows.add_before.Goals as goal

pub loop-part-init : goal.loop-part-init
loop-part-init c =
    let at = c.args.piece.now in
    left-all (asked_by c.args.search.now) (patterns_of c.args.search.now) c.args.here
    (at.text.now ++ at.following.now)
    (record {
      before = at.start.now.before.now;
      front = at.text.now;
      following = at.following.now;
      rests = at.rests.now;
    })
    c.in_ok-parts.parts.items c.args.row.now c.in_ok-parts.ensures

pub loop-part-preserved : goal.loop-part-preserved
loop-part-preserved c =
    let a = asked_by c.args.search.now in
    let rules = patterns_of c.args.search.now in
    let here = c.args.here in
    let at = c.args.piece.now in
    let piece : Piece =
    record {
      before = at.start.now.before.now;
      front = at.text.now;
      following = at.following.now;
      rests = at.rests.now;
    } in
    let text = piece.front ++ piece.following in
    let part = c.in-Some.part in
    let left =
    subst (λ parts. AreLeft a rules here text piece parts c.args.row.now c.loop-part.row)
    c.in-Some.ensures.items c.loop-part.invariant in
    let given = left-given a piece.before piece.front c.pop.new.self.items part left.given in
    left-turn c.pop.new.self.items part left
    (once-grown c.patterns_match.ensures.one_by_one a rules
    (inner-before piece given c.requires.front c.requires.row
    c.requires.some c.requires.fits refl
    (λ way. ap (λ rests. fewest (map (λ rest. count_of rest way) rests))
    (ap rests_at c.deref.ensures.value ∙ c.in_ok-followers.ensures)
    ∙ c.requires.enough.same a part way)) c.in_ok-add.ensures)

-- none is left
nothing : (parts : List Part) → (0 < length parts → false ≡ true) → parts ≡ []
nothing [] none = refl
nothing (part ∷ parts) none = absurd (true≢false (sym (none (omega arith))))

pub returns-clause-has : goal.returns-clause-has
returns-clause-has c =
    let a = asked_by c.args.search.now in
    let rules = patterns_of c.args.search.now in
    let at = c.args.piece.now in
    let piece : Piece =
    record {
      before = at.start.now.before.now;
      front = at.text.now;
      following = at.following.now;
      rests = at.rests.now;
    } in
    left-none a rules c.args.here
    (piece.front ++ piece.following) piece c.args.row.now c.loop-part.row
    (subst (λ parts. AreLeft a rules c.args.here
    (piece.front ++ piece.following) piece parts c.args.row.now c.loop-part.row)
    (nothing c.loop-part.parts.items
    (λ some. c.in_default.ensures.variant.1
    (omega (arith, some, c.loop-part.parts.ok.0)))) c.loop-part.invariant)
