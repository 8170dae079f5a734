-- One text more has the character.
use Rattle.std.proofs.Common.{◌≡◌, ◌∙◌, ℕ, List, [], ◌∷◌, ◌++◌, length, map, set}
use Rattle.std.proofs.Common.{take, drop, ap, arith, length-append, length-drop, length-take}
use Rattle.std.proofs.lemmas.List.{length-map, length-set}
use Rattle.std.proofs.lemmas.List.Edits.{map_over_more}
use Rattle.letter_case.proofs.sharps.push_each.Goals as goal

-- as many texts as at first
as-many : (f : List ℕ → List ℕ) (xs ys : List (List ℕ)) (place : ℕ)
    → ys ≡ map f (take place xs) ++ drop place xs → length ys ≡ length xs
as-many f xs ys place is =
    omega (
      arith,
      ap length is,
      length-append (map f (take place xs)) (drop place xs),
      length-map
          (take place xs) f,
      length-take place xs,
      length-drop place xs,
    )

pub loop-place-preserved : goal.loop-place-preserved
loop-place-preserved c = record {
  within =
      omega (
        arith,
        c.loop-place-test.true,
        length-set c.loop-place.texts.items c.loop-place.place
            c.push.new.self,
      );
  texts =
      ap (λ text. set c.loop-place.texts.items c.loop-place.place text) c.in_ok-push.ensures.ok
      ∙ map_over_more
      (λ text. text ++ c.args.c ∷ [])
      c.args.texts.now.items c.loop-place.texts.items c.loop-place.place c.index_mut.result.now
      (omega (
        arith,
        c.loop-place-test.true,
        as-many
            (λ text. text ++ c.args.c ∷ [])
            c.args.texts.now.items c.loop-place.texts.items c.loop-place.place
            c.loop-place.invariant.texts,
      ))
      c.loop-place.invariant.texts c.index_mut.ensures.value;
}
