-- Two eyes in the order of their numbers are all eyes of a desk with two.
use Rattle.std.proofs.Common.{◌≡◌, ◌∙◌, sym, ap, subst, ℕ, List, [], ◌∷◌, map}
use Rattle.std.specs.List.{range_with_len}
use Rattle.std.specs.List.Sorted.{IsPermutation}
use Rattle.std.proofs.lemmas.List.Sorted.{IsPermutation-refl}
use Rattle.board_share.specs.Eyes.{EyeSeen}

pub two-eyes : (parts : ℕ) (eyes : List EyeSeen) (first second : EyeSeen) → parts ≡ 2
    → first.number ≡ 0 → second.number ≡ 1 → eyes ≡ first ∷ second ∷ []
    → IsPermutation (range_with_len 0 parts) (map (λ eye. eye.number) eyes)
two-eyes parts eyes first second two zeroth next are =
    let numbers : map (λ (eye : EyeSeen). eye.number) eyes ≡ 0 ∷ 1 ∷ [] =
    ap (map (λ (eye : EyeSeen). eye.number)) are ∙ cc (zeroth, next) in
    let range : range_with_len 0 parts ≡ 0 ∷ 1 ∷ [] = ap (range_with_len 0) two in
    subst (λ xs. IsPermutation xs (map (λ eye. eye.number) eyes)) (sym range)
    (subst (λ ys. IsPermutation (0 ∷ 1 ∷ []) ys) (sym numbers) (IsPermutation-refl (0 ∷ 1 ∷ [])))
