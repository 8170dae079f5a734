-- The least item of a list by a total order: it is in the list, and no item is less.
use Rattle.std.proofs.Common.{◌≡◌, ◌∙◌, ◌⊎◌, inl, inr, refl, sym, ap, subst, zero, suc}
use Rattle.std.proofs.Common.{true, false, List, [], ◌∷◌, fold, Contains, Some, None}
use Rattle.std.proofs.Common.{Ordering, Less, Equal, Greater, not-suc-le-zero, le_of_suc-le-suc}
use Rattle.std.specs.Cmp.{IsTotalOrder}
use Rattle.std.specs.List.{reduce}
use Rattle.std.specs.Ordering.{is_gt, is_le, min_by_ordering, ordering_reverse}
use Rattle.std.proofs.lemmas.Cmp.{tied_itself, upto}
use Rattle.std.proofs.lemmas.Option.{same_Some}
use Rattle.mark_types.specs.lists.Laws.{contains-head, contains-tail}

pub at-most : (o : Ordering) → is_gt o ≡ false → is_le o ≡ true
at-most Less is = refl
at-most Equal is = refl
at-most Greater is = absurd cc

module _ {X : Type 0} (c : X → X → Ordering) (o : IsTotalOrder c) where
  abbrev lesser_of : X → X → X
  lesser_of x y = min_by_ordering (c x y) x y

  not-above : (x : X) → is_gt (c x x) ≡ false
  not-above x = ap is_gt (tied_itself o x)

  below-first : (x y : X) → is_gt (c (lesser_of x y) x) ≡ false
  below-first x y = by (c x y) refl
    where
      by : (order : Ordering) → c x y ≡ order
          → is_gt (c (min_by_ordering order x y) x) ≡ false
      by Less is = not-above x
      by Equal is = not-above x
      by Greater is = ap is_gt (o.antisymm y x ∙ ap ordering_reverse is)

  below-second : (x y : X) → is_gt (c (lesser_of x y) y) ≡ false
  below-second x y = by (c x y) refl
    where
      by : (order : Ordering) → c x y ≡ order
          → is_gt (c (min_by_ordering order x y) y) ≡ false
      by Less is = ap is_gt is
      by Equal is = ap is_gt is
      by Greater is = not-above y

  is-one : (x y : X) → (lesser_of x y ≡ x) ⊎ (lesser_of x y ≡ y)
  is-one x y = by (c x y)
    where
      by : (order : Ordering)
          → (min_by_ordering order x y ≡ x) ⊎ (min_by_ordering order x y ≡ y)
      by Less = inl refl
      by Equal = inl refl
      by Greater = inr refl

  -- an item of a list is its head, or stands in the rest
  either : (x z : X) (xs : List X) → Contains (x ∷ xs) z → (x ≡ z) ⊎ Contains xs z
  either x z xs (zero, within, at) = inl at
  either x z xs (suc k, within, at) = inr (k, le_of_suc-le-suc within, at)

  none-inside : (x : X) → Contains [] x → ⊥
  none-inside x (k, within, at) = not-suc-le-zero within

  fold-among : (x : X) (xs : List X) → Contains (x ∷ xs) (fold lesser_of x xs)
  fold-among x [] = contains-head x []
  fold-among x (y ∷ ys) =
      from (either (lesser_of x y) found ys (fold-among (lesser_of x y) ys)) (is-one x y)
    where
      found : X
      found = fold lesser_of (lesser_of x y) ys

      from : (lesser_of x y ≡ found) ⊎ Contains ys found
          → (lesser_of x y ≡ x) ⊎ (lesser_of x y ≡ y)
          → Contains (x ∷ y ∷ ys) found
      from (inr more) one = contains-tail x found (y ∷ ys) (contains-tail y found ys more)
      from (inl same) (inl first) =
          subst (Contains (x ∷ y ∷ ys)) (sym first ∙ same) (contains-head x (y ∷ ys))
      from (inl same) (inr second) =
          contains-tail x found (y ∷ ys)
          (subst (Contains (y ∷ ys)) (sym second ∙ same) (contains-head y ys))

  -- an item is not above any of a list with a head
  abbrev IsBelow : X → X → List X → Type 0
  IsBelow found first more = (z : X) → Contains (first ∷ more) z → is_gt (c found z) ≡ false

  fold-below : (x : X) (xs : List X) (z : X) → Contains (x ∷ xs) z
      → is_gt (c (fold lesser_of x xs) z) ≡ false
  fold-below x [] z inside = from (either x z [] inside)
    where
      from : (x ≡ z) ⊎ Contains [] z → is_gt (c x z) ≡ false
      from (inl same) = subst (λ z. is_gt (c x z) ≡ false) same (not-above x)
      from (inr more) = absurd (none-inside z more)
  fold-below x (y ∷ ys) z inside =
      first (fold-below (lesser_of x y) ys) (either x z (y ∷ ys) inside)
    where
      found : X
      found = fold lesser_of (lesser_of x y) ys

      least_of_both : IsBelow found (lesser_of x y) ys → is_gt (c found (lesser_of x y)) ≡ false
      least_of_both below = below (lesser_of x y) (contains-head (lesser_of x y) ys)

      second : IsBelow found (lesser_of x y) ys → (y ≡ z) ⊎ Contains ys z
          → is_gt (c found z) ≡ false
      second below (inl same) =
          subst (λ z. is_gt (c found z) ≡ false) same
          (upto o found (lesser_of x y) y (least_of_both below) (below-second x y))
      second below (inr more) = below z (contains-tail (lesser_of x y) z ys more)

      first : IsBelow found (lesser_of x y) ys → (x ≡ z) ⊎ Contains (y ∷ ys) z
          → is_gt (c found z) ≡ false
      first below (inl same) =
          subst (λ z. is_gt (c found z) ≡ false) same
          (upto o found (lesser_of x y) x (least_of_both below) (below-first x y))
      first below (inr more) = second below (either y z ys more)

  pub least-among : (xs : List X) (found : X) → reduce lesser_of xs ≡ Some found
      → Contains xs found
  least-among [] found is = absurd cc
  least-among (x ∷ xs) found is =
      subst (Contains (x ∷ xs)) (same_Some _ _ is) (fold-among x xs)

  pub least-below : (xs : List X) (found z : X) → reduce lesser_of xs ≡ Some found
      → Contains xs z → is_gt (c found z) ≡ false
  least-below [] found z is inside = absurd cc
  least-below (x ∷ xs) found z is inside =
      subst (λ found. is_gt (c found z) ≡ false) (same_Some _ _ is) (fold-below x xs z inside)

  pub least-none : (xs : List X) (z : X) → reduce lesser_of xs ≡ None → Contains xs z → ⊥
  least-none [] z is inside = none-inside z inside
  least-none (x ∷ xs) z is inside = absurd cc
