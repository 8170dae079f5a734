-- The texts before the loop's place have the character, and the others are as they were.
use Rattle.std.proofs.Common.{◌≡◌, ◌≤◌, ◌-◌, [], ◌∷◌, ◌++◌, map, take, drop, length}
use Rattle.letter_case.proofs.sharps.push_each.Given as goal

abbrev pub invariant-loop-place : goal.invariant-loop-place
invariant-loop-place l = record {
  within : l.place ≤ length l.texts.items;
  texts : l.texts.items ≡ map (λ text. text ++ l.c ∷ [])
      (take l.place l.fn.texts.items) ++ drop l.place l.fn.texts.items;
}

abbrev pub decreases-loop-place : goal.decreases-loop-place
decreases-loop-place l = length l.texts.items - l.place
