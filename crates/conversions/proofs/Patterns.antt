-- The best pattern so far, one character after another.
use Rattle.std.proofs.Common.{◌≡◌, ◌∙◌, ◌⊎◌, inl, inr, refl, sym, ap, subst, ℕ, ◌+◌, ◌<◌, ◌≤◌, Bool}
use Rattle.std.proofs.Common.{true, false, List, [], ◌∷◌, length, take, get_or, slice_get}
use Rattle.std.proofs.Common.{nat_eq, Contains, Option, None, Some, arith}
use Rattle.std.specs.Cmp.{IsTotalOrder}
use Rattle.std.specs.Cmp.Lexicographic.{pointwise, slice_cmp}
use Rattle.std.specs.List.{filter, starts_with}
use Rattle.std.specs.Ordering.{is_lt, nat_cmp, ordering_then}
use Rattle.std.specs.declared.cmp.Ordering.{Ordering}
use Rattle.std.specs.declared.cmp.Ordering.TheVariants.{Less, Equal, Greater}
use Rattle.std.proofs.lemmas.Bool.{cases_lt}
use Rattle.std.proofs.lemmas.Bool.Decides.{nat_tests}
use Rattle.std.proofs.lemmas.Cmp.{nat_list_cmp_total, nat_cmp_total, then_total, on_total}
use Rattle.std.proofs.lemmas.Cmp.{tied_itself}
use Rattle.std.proofs.lemmas.List.{length-take-le, take-take}
use Rattle.std.proofs.lemmas.List.Kept.{IsSortedBy-filter}
use Rattle.std.proofs.lemmas.List.Sorted.{ranks_by, sorted_far}
use Rattle.std.proofs.lemmas.Option.{get_or_from_slice_get, slice_get_within}
use Rattle.std.proofs.lemmas.Slice.Eq.{bytes_eq-Decides}
use Rattle.spell_types.specs.lists.Laws.{contains-filter, contains-none, filter-holds, filter-among}
use Rattle.text_order.specs.TextOrder.{AreInOrder, beginning, having}
use Rattle.conversions.specs.Patterns.{ConversionPattern, pattern_cmp, ArePatternsSorted, FitsUpTo}
use Rattle.conversions.specs.Patterns.{IsBestUpTo}
use Rattle.conversions.specs.Patterns.{BestUpTo}

-- ---- the order of patterns
pattern-total : IsTotalOrder pattern_cmp
pattern-total =
    then_total (on_total (λ (p : ConversionPattern). p.0.items) nat_list_cmp_total)
    (on_total (λ (p : ConversionPattern). p.1) nat_cmp_total)

then-not_less : (o more : Ordering) → is_lt (ordering_then o more) ≡ false → is_lt o ≡ false
then-not_less Less more is = is
then-not_less Equal more is = refl
then-not_less Greater more is = refl

pub sorted-in_order : (patterns : List ConversionPattern) → ArePatternsSorted patterns
    → AreInOrder patterns
sorted-in_order patterns sorted = λ k d above within. then-not_less _ _ (sorted k d above within)

equal-rise : (text other : List ℕ) (place later : ℕ) → text ≡ other
    → is_lt (ordering_then (slice_cmp nat_cmp other text) (nat_cmp later place)) ≡ false
    → place ≤ later
equal-rise text other place later same order =
    by (sym (ap (λ o. is_lt (ordering_then o (nat_cmp later place)))
    (ap (λ xs. slice_cmp nat_cmp xs text) (sym same) ∙ tied_itself nat_list_cmp_total text))
    ∙ order)
  where
    by : is_lt (nat_cmp later place) ≡ false → place ≤ later
    by order = grind (arith, nat_tests)

-- ---- what stays among others
first-among : (found : List ConversionPattern) (p : ConversionPattern) → slice_get found 0 ≡ Some p
    → Contains found p
first-among found p first =
    (0, slice_get_within found 0 p first, get_or_from_slice_get found 0 p p first)

-- ---- patterns at the front of a text
fits-more : (text : List ℕ) (n : ℕ) (from : List ℕ) → FitsUpTo text (n + 1) from
    → (from ≡ take (n + 1) text) ⊎ FitsUpTo text n from
fits-more text n from fit = by (cases_lt (length from) (n + 1))
  where
    by : (length from < n + 1) ⊎ (n + 1 ≤ length from) → (from ≡ take (n + 1) text)
        ⊎ FitsUpTo text n from
    by (inl less) = inr (record { some = fit.some; upto = omega (arith, less); front = fit.front })
    by (inr all) =
        let long : length from ≡ n + 1 = omega (arith, all, fit.upto) in
        inl (sym fit.front ∙ ap (λ k. take k text) long)

fits-wider : (text : List ℕ) (n m : ℕ) (from : List ℕ) → n ≤ m → FitsUpTo text n from
    → FitsUpTo text m from
fits-wider text n m from wider fit =
    record { some = fit.some; upto = omega (arith, wider, fit.upto); front = fit.front }

fits-taken : (text : List ℕ) (n : ℕ) (from : List ℕ) → n + 1 ≤ length text
    → from ≡ take (n + 1) text → FitsUpTo text (n + 1) from
fits-taken text n from within is =
    let long : length from ≡ n + 1 = ap length is ∙ length-take-le (n + 1) text within in
    record {
      some = omega (arith, long);
      upto = omega (arith, long);
      front = ap (λ k. take k text) long ∙ sym is;
    }

begins : (text : List ℕ) (n m : ℕ) (from : List ℕ) → n ≤ length text → n ≤ length from
    → FitsUpTo text m from → starts_with nat_eq from (take n text) ≡ true
begins text n m from within long fit =
    let front : take (length (take n text)) from ≡ take n text =
    ap (λ k. take k from) (length-take-le n text within) ∙ ap (take n) (sym fit.front)
    ∙ take-take n (length from) text long in
    (bytes_eq-Decides (take n text) (take (length (take n text)) from)).1 (sym front)

-- ---- the best so far
pub none_yet : (patterns : List ConversionPattern) (text : List ℕ) → BestUpTo patterns text 0 None
none_yet patterns text = λ p among fit. omega (arith, fit.some, fit.upto)

-- where no more patterns fit, the best stays
best-kept : (patterns : List ConversionPattern) (text : List ℕ) (n m : ℕ) (best : Option ConversionPattern) → n ≤ m
    → ((p : ConversionPattern) → Contains patterns p → FitsUpTo text m p.0.items → FitsUpTo text n p.0.items)
    → BestUpTo patterns text n best → BestUpTo patterns text m best
best-kept patterns text n m None wider less was = λ p among fit. was p among (less p among fit)
best-kept patterns text n m (Some best) wider less was = record {
  among = was.among;
  fit = fits-wider text n m best.0.items wider was.fit;
  longest = λ p among fit. was.longest p among (less p among fit);
  first = was.first;
}

-- no pattern is the next front
none_longer : (patterns : List ConversionPattern) (text : List ℕ) (n : ℕ) (best : Option ConversionPattern)
    (found : List ConversionPattern) → found ≡ having (take (n + 1) text) patterns → found ≡ []
    → BestUpTo patterns text n best → BestUpTo patterns text (n + 1) best
none_longer patterns text n best found is none was =
    best-kept patterns text n (n + 1) best (omega arith) less was
  where
    less : (p : ConversionPattern) → Contains patterns p → FitsUpTo text (n + 1) p.0.items
        → FitsUpTo text n p.0.items
    less p among fit = by (fits-more text n p.0.items fit)
      where
        by : (p.0.items ≡ take (n + 1) text) ⊎ FitsUpTo text n p.0.items → FitsUpTo text n p.0.items
        by (inr fit) = fit
        by (inl same) = absurd (contains-none found p none (subst (λ ps. Contains ps p) (sym is)
            (contains-filter (λ (q : ConversionPattern). pointwise nat_eq q.0.items (take (n + 1) text))
            patterns p among ((bytes_eq-Decides p.0.items (take (n + 1) text)).1 same))))

-- no pattern begins with the next front
pub none_begins : (patterns : List ConversionPattern) (text : List ℕ) (n : ℕ) (best : Option ConversionPattern)
    → n + 1 ≤ length text → beginning (take (n + 1) text) patterns ≡ []
    → BestUpTo patterns text n best → BestUpTo patterns text (length text) best
none_begins patterns text n best within none was =
    best-kept patterns text n (length text) best (omega arith) less was
  where
    less : (p : ConversionPattern) → Contains patterns p → FitsUpTo text (length text) p.0.items
        → FitsUpTo text n p.0.items
    less p among fit = by (cases_lt (length p.0.items) (n + 1))
      where
        by : (length p.0.items < n + 1) ⊎ (n + 1 ≤ length p.0.items) → FitsUpTo text n p.0.items
        by (inl less) = record { some = fit.some; upto = omega (arith, less); front = fit.front }
        by (inr long) = absurd (contains-none (beginning (take (n + 1) text) patterns) p none
            (contains-filter (λ (q : ConversionPattern). starts_with nat_eq q.0.items (take (n + 1) text))
            patterns p among (begins text (n + 1) (length text) p.0.items within long fit)))

-- the first pattern that is the next front
next_best : (patterns : List ConversionPattern) (text : List ℕ) (n : ℕ) (best : ConversionPattern)
    (found : List ConversionPattern) → ArePatternsSorted patterns → n + 1 ≤ length text
    → found ≡ having (take (n + 1) text) patterns → slice_get found 0 ≡ Some best
    → IsBestUpTo patterns text (n + 1) best
next_best patterns text n best found sorted within is first = record {
  among = filter-among has patterns best inside;
  fit = fits-taken text n best.0.items within same;
  longest = λ p among fit.
      omega (arith, fit.upto, ap length same, length-take-le (n + 1) text within);
  first = λ p among equal.
      rising p equal
      (contains-filter has patterns p among
      ((bytes_eq-Decides p.0.items (take (n + 1) text)).1 (equal ∙ same)));
}
  where
    has : ConversionPattern → Bool
    has = λ q. pointwise nat_eq q.0.items (take (n + 1) text)

    first' : slice_get (filter has patterns) 0 ≡ Some best
    first' = subst (λ ps. slice_get ps 0 ≡ Some best) is first

    inside : Contains (filter has patterns) best
    inside = first-among (filter has patterns) best first'

    same : best.0.items ≡ take (n + 1) text
    same = (bytes_eq-Decides best.0.items (take (n + 1) text)).0
        (filter-holds has patterns best inside)

    rising : (p : ConversionPattern) → p.0.items ≡ best.0.items → Contains (filter has patterns) p
        → best.1 ≤ p.1
    rising p equal (k, within, at) =
        let lt = λ (q r : ConversionPattern). is_lt (pattern_cmp q r) in
        let order = ranks_by pattern-total (λ (q : ConversionPattern). q) in
        let far : lt (get_or (filter has patterns) k p) (get_or (filter has patterns) 0 p) ≡ false =
        sorted_far lt order (filter has patterns) (IsSortedBy-filter lt order has patterns sorted) 0
        k p (omega arith) within in
        let here : get_or (filter has patterns) 0 p ≡ best =
        get_or_from_slice_get (filter has patterns) 0 best p first' in
        equal-rise best.0.items p.0.items best.1 p.1 (sym equal)
        (sym (ap (λ q. lt q best) at) ∙ sym (ap (lt (get_or (filter has patterns) k p)) here) ∙ far)

-- where the next front is a pattern it is the best one, the first of its equals
pub first_best : (patterns alike found : List ConversionPattern) (text : List ℕ) (n : ℕ) (best : ConversionPattern)
    → ArePatternsSorted patterns → n + 1 ≤ length text
    → alike ≡ beginning (take (n + 1) text) patterns
    → ((all : List ConversionPattern) (front : List ℕ) → AreInOrder all → length front ≡ n + 1
    → alike ≡ beginning front all → found ≡ having front all)
    → Some best ≡ slice_get found 0 → IsBestUpTo patterns text (n + 1) best
first_best patterns alike found text n best sorted within so_far ends first =
    next_best patterns text n best found sorted within
    (ends patterns (take (n + 1) text) (sorted-in_order patterns sorted)
    (length-take-le (n + 1) text within) so_far) (sym first)

-- and otherwise the best one stays
pub none_best : (patterns alike found : List ConversionPattern) (text : List ℕ) (n : ℕ)
    (best : Option ConversionPattern) → ArePatternsSorted patterns → n + 1 ≤ length text
    → alike ≡ beginning (take (n + 1) text) patterns
    → ((all : List ConversionPattern) (front : List ℕ) → AreInOrder all → length front ≡ n + 1
    → alike ≡ beginning front all → found ≡ having front all)
    → None ≡ slice_get found 0 → BestUpTo patterns text n best → BestUpTo patterns text (n + 1) best
none_best patterns alike found text n best sorted within so_far ends first =
    none_longer patterns text n best found
    (ends patterns (take (n + 1) text) (sorted-in_order patterns sorted)
    (length-take-le (n + 1) text within) so_far) (empty found first)
  where
    empty : (xs : List ConversionPattern) → None ≡ slice_get xs 0 → xs ≡ []
    empty [] none = refl
    empty (x ∷ xs) none = absurd (cc)
