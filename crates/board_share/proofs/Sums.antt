-- Sums and counts that are as large as they can be.
use Rattle.std.proofs.Common.{◌≡◌, ◌∙◌, refl, sym, ap, subst, ℕ, zero, suc, ◌+◌, ◌<◌, ◌≤◌, ◌==◌}
use Rattle.std.proofs.Common.{cond, get_or, ltb, List, [], ◌∷◌, length, map, take, arith}
use Rattle.std.specs.List.{AllByRecursion, count_by, range_with_len, sum_by}
use Rattle.std.proofs.lemmas.Bool.Decides.{nat_tests}
use Rattle.std.proofs.lemmas.List.Sums.{count_by-le-length, sum_by-cons, sum_by_push}
use Rattle.mark_types.specs.lists.Laws.{range_more}

-- what holds where two things hold
pub each-both : {X : Type 0} (P Q S : X → Type 0) → ((x : X) → P x → Q x → S x) → (xs : List X)
    → AllByRecursion P xs → AllByRecursion Q xs → AllByRecursion S xs
each-both P Q S both [] ps qs = tt
each-both P Q S both (x ∷ xs) ps qs = (both x ps.0 qs.0, each-both P Q S both xs ps.1 qs.1)

-- what holds of the items in front of a place, and of the item there
each-suc : {X : Type 0} (P : X → Type 0) (xs : List X) (place : ℕ) (x d : X)
    → place < length xs → x ≡ get_or xs place d → AllByRecursion P (take place xs) → P x
    → AllByRecursion P (take (suc place) xs)
each-suc P [] place x d within is each here = tt
each-suc P (y ∷ xs) zero x d within is each here = (subst P is here, tt)
each-suc P (y ∷ xs) (suc place) x d within is each here =
    (each.0, each-suc P xs place x d (omega arith) is each.1 here)

pub each-next : {X : Type 0} (P : X → Type 0) (xs : List X) (place : ℕ) (x : X)
    → place < length xs → x ≡ get_or xs place x → AllByRecursion P (take place xs) → P x
    → AllByRecursion P (take (place + 1) xs)
each-next P xs place x within is each here =
    let next : suc place ≡ place + 1 = omega arith in
    subst (λ n. AllByRecursion P (take n xs)) next (each-suc P xs place x x within is each here)

-- a sum over what is made of each item
pub sum-map : {X Y : Type 0} (f : Y → ℕ) (g : X → Y) (xs : List X)
    → sum_by f (map g xs) ≡ sum_by (λ x. f (g x)) xs
sum-map f g [] = refl
sum-map f g (x ∷ xs) =
    omega (
      arith,
      sum_by-cons f (g x) (map g xs),
      sum_by-cons (λ x. f (g x)) x xs,
      sum-map f g xs,
    )

-- where no term is larger the sum is no larger
pub sum-most : {X : Type 0} (f g : X → ℕ) (xs : List X) → AllByRecursion (λ x. f x ≤ g x) xs
    → sum_by f xs ≤ sum_by g xs
sum-most f g [] less = omega arith
sum-most f g (x ∷ xs) less =
    omega (arith, sum_by-cons f x xs, sum_by-cons g x xs, less.0, sum-most f g xs less.1)

-- where no term is larger and the sums are equal, the terms are
pub sum-tight : {X : Type 0} (f g : X → ℕ) (xs : List X) → AllByRecursion (λ x. f x ≤ g x) xs
    → sum_by f xs ≡ sum_by g xs → AllByRecursion (λ x. f x ≡ g x) xs
sum-tight f g [] less same = tt
sum-tight f g (x ∷ xs) less same =
    let most = sum-most f g xs less.1 in
    let here = sum_by-cons f x xs in
    let there = sum_by-cons g x xs in (
      omega (arith, here, there, less.0, most, same),
      sum-tight f g xs less.1 (omega (arith, here, there, less.0, most, same)),
    )

-- ---- items with numbers
module _ {X : Type 0} (number : X → ℕ) where
  -- how many items have numbers below a bound
  abbrev pub below : ℕ → List X → ℕ
  below bound xs = count_by (λ x. ltb (number x) bound) xs

  below-none : (xs : List X) → below 0 xs ≡ 0
  below-none [] = refl
  below-none (x ∷ xs) =
      let none : cond {A = ℕ} (ltb (number x) 0) 1 0 ≡ 0 = grind (arith, nat_tests) in
      omega (
        arith,
        sum_by-cons (λ (x : X). cond (ltb (number x) 0) 1 0) x xs,
        none,
        below-none xs,
      )

  below-more : (bound : ℕ) (xs : List X)
      → below (suc bound) xs ≡ below bound xs + count_by (λ x. number x == bound) xs
  below-more bound [] = refl
  below-more bound (x ∷ xs) =
      let step : cond {A = ℕ} (ltb (number x) (suc bound)) 1 0
      ≡ cond (ltb (number x) bound) 1 0 + cond (number x == bound) 1 0 =
      grind (arith, nat_tests) in
      omega (
        arith,
        sum_by-cons (λ (x : X). cond (ltb (number x) (suc bound)) 1 0) x xs,
        sum_by-cons (λ (x : X). cond (ltb (number x) bound) 1 0) x xs,
        sum_by-cons (λ (x : X). cond (number x == bound) 1 0) x xs,
        step,
        below-more bound xs,
      )

  -- as many as have each of the numbers below it, added up
  pub below-sum : (bound : ℕ) (xs : List X)
      → sum_by (λ n. count_by (λ x. number x == n) xs) (range_with_len 0 bound) ≡ below bound xs
  below-sum zero xs = sym (below-none xs)
  below-sum (suc bound) xs =
      let f : ℕ → ℕ = λ n. count_by (λ x. number x == n) xs in
      let more : suc bound ≡ bound + 1 = omega arith in
      ap (sum_by f) (ap (range_with_len 0) more ∙ range_more bound)
      ∙ sum_by_push f (range_with_len 0 bound) bound
      ∙ ap (λ m. m + f bound) (below-sum bound xs)
      ∙ sym (below-more bound xs)

  -- where as many are below a bound as there are, all are
  pub below-all : (bound : ℕ) (xs : List X) → below bound xs ≡ length xs
      → AllByRecursion (λ x. number x < bound) xs
  below-all bound [] all = tt
  below-all bound (x ∷ xs) all =
      let here = sum_by-cons (λ (x : X). cond (ltb (number x) bound) 1 0) x xs in
      let most = count_by-le-length (λ (x : X). ltb (number x) bound) xs in
      let few : cond {A = ℕ} (ltb (number x) bound) 1 0 ≤ 1 = grind (arith, nat_tests) in
      let one : cond {A = ℕ} (ltb (number x) bound) 1 0 ≡ 1 =
      omega (arith, here, most, few, all) in (
        grind (arith, nat_tests, one),
        below-all bound xs (omega (arith, here, most, few, all)),
      )
