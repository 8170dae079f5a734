-- A list of numbers in order is known by how often each number stands in it.
use Rattle.std.proofs.Common.{◌≡◌, ◌∙◌, ◌⊎◌, inl, inr, refl, sym, ap, ap₂, ℕ, suc, ◌<◌, ◌≤◌, List}
use Rattle.std.proofs.Common.{[], ◌∷◌, nat_eq, sum_by, if◌then◌else◌, IsPermutation, IsSorted}
use Rattle.std.proofs.Common.{arith}
use Rattle.std.specs.List.Sorted.{IsNonDecreasing, IsStrictlySortedBy}
use Rattle.std.specs.Ordering.{nat_cmp}
use Rattle.std.proofs.lemmas.Bool.{eq-eqb, ne_eqb, cases_order}
use Rattle.std.proofs.lemmas.List.Sums.{sum_by-cons}
use Rattle.std.proofs.lemmas.List.Sorted.{sum_by-IsPermutation, IsNonDecreasingBy-from_sort}
use Rattle.std.proofs.lemmas.Map.Keys.{non_decreasing_from_sorted}

-- one, if the numbers are the same
abbrev one : ℕ → ℕ → ℕ
one v x = if nat_eq x v then 1 else 0

one-same : (v : ℕ) → one v v ≡ 1
one-same v = ap (λ b. if b then 1 else 0) (eq-eqb v v refl)

one-below : (v x : ℕ) → v < x → one v x ≡ 0
one-below v x below = ap (λ b. if b then 1 else 0) (ne_eqb x v (λ same. omega (arith, same, below)))

-- the list without its first number
tail-rises : (x : ℕ) (xs : List ℕ) → IsNonDecreasing (x ∷ xs) → IsNonDecreasing xs
tail-rises x xs up = λ i j d before within. up (suc i) (suc j) d (omega arith) (omega arith)

none-below : (v x : ℕ) (xs : List ℕ) → IsNonDecreasing (x ∷ xs) → v < x
    → sum_by (one v) (x ∷ xs) ≡ 0
none-below v x [] up below = omega (arith, sum_by-cons (one v) x [], one-below v x below)
none-below v x (y ∷ ys) up below =
    let next : x ≤ y = up 0 1 0 (omega arith) (omega arith) in
    omega (
      arith,
      sum_by-cons (one v) x (y ∷ ys),
      one-below v x below,
      none-below v y ys (tail-rises x (y ∷ ys) up) (omega (arith, next, below)),
    )

same-order : (xs ys : List ℕ) → IsNonDecreasing xs → IsNonDecreasing ys
    → ((v : ℕ) → sum_by (one v) xs ≡ sum_by (one v) ys) → xs ≡ ys
same-order [] [] up up' same = refl
same-order [] (y ∷ ys) up up' same =
    absurd (omega (arith, same y, sum_by-cons (one y) y ys, one-same y))
same-order (x ∷ xs) [] up up' same =
    absurd (omega (arith, same x, sum_by-cons (one x) x xs, one-same x))
same-order (x ∷ xs) (y ∷ ys) up up' same =
    by (cases_order x y) (same-order xs ys (tail-rises x xs up) (tail-rises y ys up'))
  where
    by : (x ≡ y) ⊎ ((x < y) ⊎ (y < x))
        → (((v : ℕ) → sum_by (one v) xs ≡ sum_by (one v) ys) → xs ≡ ys) → x ∷ xs ≡ y ∷ ys
    by (inl is) rest =
        ap₂ (λ number more. number ∷ more) is
        (rest (λ v.
        omega (arith, same v, sum_by-cons (one v) x xs, sum_by-cons (one v) y ys, ap (one v) is)))
    by (inr (inl below)) rest =
        absurd (omega
        (arith, same x, sum_by-cons (one x) x xs, one-same x, none-below x y ys up' below))
    by (inr (inr above)) rest =
        absurd (omega
        (arith, same y, sum_by-cons (one y) y ys, one-same y, none-below y x xs up above))

-- the numbers of a list that rises, sorted from any order, are the list
pub sorted-same : (found sorted places : List ℕ) → IsPermutation found places
    → IsPermutation found sorted → IsSorted nat_cmp sorted → IsStrictlySortedBy nat_cmp places
    → sorted ≡ places
sorted-same found sorted places all moved in_order rising =
    same-order sorted places (IsNonDecreasingBy-from_sort (λ x. x) sorted in_order)
    (non_decreasing_from_sorted places rising)
    (λ v. sum_by-IsPermutation (one v) found sorted moved
    ∙ sym (sum_by-IsPermutation (one v) found places all))
