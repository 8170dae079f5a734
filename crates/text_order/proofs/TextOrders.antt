-- Rows in order that begin alike, by what comes next in them.
use Rattle.std.proofs.Common.{◌≡◌, ◌∙◌, ◌⊎◌, inl, inr, refl, sym, ap, ap₂, subst, ℕ, ◌+◌, ◌-◌, ◌<◌}
use Rattle.std.proofs.Common.{◌≤◌, Bool, true, false, cond, ◌&&◌, List, [], ◌∷◌, ◌++◌, length, take}
use Rattle.std.proofs.Common.{drop, get_or, slice_get, nat_eq, ltb, leb, eq-eqb, ne_eqb, append-nil}
use Rattle.std.proofs.Common.{length-drop, arith}
use Rattle.std.specs.Cmp.Lexicographic.{pointwise, slice_cmp}
use Rattle.std.specs.List.{All, AllByRecursion, filter, starts_with}
use Rattle.std.specs.List.Sorted.{IsNonDecreasingBy, IsPartitionPoint}
use Rattle.std.specs.Option.{option_map_or}
use Rattle.std.specs.declared.cmp.Ordering.{Ordering}
use Rattle.std.specs.declared.cmp.Ordering.TheVariants.{Equal}
use Rattle.std.specs.Ordering.{is_lt, nat_cmp, ordering_then}
use Rattle.std.proofs.lemmas.Bool.{false≢true, and_parts}
use Rattle.std.proofs.lemmas.Bool.Decides.{nat_tests}
use Rattle.std.proofs.lemmas.Cmp.{nat_list_cmp_total}
use Rattle.std.proofs.lemmas.List.{length-take, get_or-take, get_or-drop, take-append-drop}
use Rattle.std.proofs.lemmas.List.Elements.{filter-append, filter_agree, filter_passes}
use Rattle.std.proofs.lemmas.List.Elements.{recursion_from_All}
use Rattle.std.proofs.lemmas.List.Kept.{IsSortedBy-filter}
use Rattle.std.proofs.lemmas.List.Sorted.{ranks_by, sorted_far}
use Rattle.std.proofs.lemmas.Option.{slice_get-get_or}
use Rattle.text_order.specs.TextOrder.{Row, AreInOrder, beginning, having, next_at, next_in}

-- ---- what a filter keeps
filter-none : {X : Type 0} (p : X → Bool) (xs : List X) → AllByRecursion (λ x. p x ≡ false) xs
    → filter p xs ≡ []
filter-none p [] none = refl
filter-none p (x ∷ xs) none =
    ap (λ b. cond b (x ∷ filter p xs) (filter p xs)) none.0 ∙ filter-none p xs none.1

filter-all : {X : Type 0} (p : X → Bool) (xs : List X) → AllByRecursion (λ x. p x ≡ true) xs
    → filter p xs ≡ xs
filter-all p [] all = refl
filter-all p (x ∷ xs) all = ap (λ b. cond b (x ∷ filter p xs) (filter p xs)) all.0
    ∙ ap (λ ys. x ∷ ys) (filter-all p xs all.1)

filter-both : {X : Type 0} (p q : X → Bool) (xs : List X)
    → filter q (filter p xs) ≡ filter (λ x. p x && q x) xs
filter-both p q [] = refl
filter-both p q (x ∷ xs) = by (filter-both p q xs) (p x)
  where
    by : filter q (filter p xs) ≡ filter (λ y. p y && q y) xs → (b : Bool)
        → filter q (cond b (x ∷ filter p xs) (filter p xs))
        ≡ cond (b && q x) (x ∷ filter (λ y. p y && q y) xs) (filter (λ y. p y && q y) xs)
    by rest true = ap (λ ys. cond (q x) (x ∷ ys) ys) rest
    by rest false = rest

-- what lies between the places found by halves
pub between : {X : Type 0} (n : X → ℕ) (w i j : ℕ) (xs : List X)
    → IsPartitionPoint (λ y. ltb (n y) w ≡ true) (λ y. ltb (n y) w ≡ false) xs i
    → IsPartitionPoint (λ y. leb (n y) w ≡ true) (λ y. leb (n y) w ≡ false) (drop i xs) j
    → take j (drop i xs) ≡ filter (λ y. nat_eq (n y) w) xs
between {X} n w i j xs first last =
    let p = λ (y : X). nat_eq (n y) w in
    let rest = drop i xs in
    sym (ap (filter p) (sym (take-append-drop i xs))
    ∙ filter-append p (take i xs) rest
    ∙ ap (λ ys. ys ++ filter p rest)
    (filter-none p (take i xs) (recursion_from_All (λ y. p y ≡ false) (take i xs) lower))
    ∙ ap (filter p) (sym (take-append-drop j rest))
    ∙ filter-append p (take j rest) (drop j rest)
    ∙ ap₂ (λ ys zs. ys ++ zs)
    (filter-all p (take j rest) (recursion_from_All (λ y. p y ≡ true) (take j rest) equal))
    (filter-none p (drop j rest) (recursion_from_All (λ y. p y ≡ false) (drop j rest) higher))
    ∙ append-nil (take j rest))
  where
    is_lower : (a : ℕ) → ltb a w ≡ true → nat_eq a w ≡ false
    is_lower a below = grind (arith, nat_tests)

    is_equal : (a : ℕ) → ltb a w ≡ false → leb a w ≡ true → nat_eq a w ≡ true
    is_equal a above below = grind (arith, nat_tests)

    is_higher : (a : ℕ) → leb a w ≡ false → nat_eq a w ≡ false
    is_higher a above = grind (arith, nat_tests)

    lower : All (λ y. nat_eq (n y) w ≡ false) (take i xs)
    lower = λ k d within.
        let below : k < i = omega (arith, within, length-take i xs) in
        subst (λ y. nat_eq (n y) w ≡ false) (sym (get_or-take i xs k d below))
        (is_lower (n (get_or xs k d)) (first.0 k d (omega arith) below))

    equal : All (λ y. nat_eq (n y) w ≡ true) (take j (drop i xs))
    equal = λ k d within.
        let below : k < j = omega (arith, within, length-take j (drop i xs)) in
        let inside : i + k < length xs =
        omega (arith, within, length-take j (drop i xs), length-drop i xs) in
        let at_rest : get_or (drop i xs) k d ≡ get_or xs (i + k) d = get_or-drop i xs k d in
        subst (λ y. nat_eq (n y) w ≡ true) (sym (get_or-take j (drop i xs) k d below))
        (is_equal (n (get_or (drop i xs) k d))
        (subst (λ y. ltb (n y) w ≡ false) (sym at_rest) (first.1 (i + k) d (omega arith) inside))
        (last.0 k d (omega arith) below))

    higher : All (λ y. nat_eq (n y) w ≡ false) (drop j (drop i xs))
    higher = λ k d within.
        let inside : j + k < length (drop i xs) =
        omega (arith, within, length-drop j (drop i xs)) in
        subst (λ y. nat_eq (n y) w ≡ false) (sym (get_or-drop j (drop i xs) k d))
        (is_higher (n (get_or (drop i xs) (j + k) d)) (last.1 (j + k) d (omega arith) inside))

-- where all or none of the rows are those, the first and the last one tell
bounds : {X : Type 0} (n : X → ℕ) (xs : List X) (low high : ℕ) → IsNonDecreasingBy n xs
    → low ≡ option_map_or n (slice_get xs 0) 0
    → high ≡ option_map_or n (slice_get xs (length xs - 1)) 0
    → (k : ℕ) (d : X) → k < length xs → (low ≤ n (get_or xs k d)) × (n (get_or xs k d) ≤ high)
bounds n xs low high rising first last k d within =
    let lowest : low ≡ n (get_or xs 0 d) =
    first ∙ ap (λ found. option_map_or n found 0)
    (slice_get-get_or xs 0 d (omega (arith, within))) in
    let highest : high ≡ n (get_or xs (length xs - 1) d) =
    last ∙ ap (λ found. option_map_or n found 0)
    (slice_get-get_or xs (length xs - 1) d (omega (arith, within))) in
    let above : n (get_or xs 0 d) ≤ n (get_or xs k d) = rising 0 k d (omega arith) within in
    let below : n (get_or xs k d) ≤ n (get_or xs (length xs - 1) d) =
    rising k (length xs - 1) d (omega (arith, within)) (omega (arith, within)) in
    (omega (arith, lowest, above), omega (arith, highest, below))

pub all_next : {X : Type 0} (n : X → ℕ) (w low high : ℕ) (xs : List X) → IsNonDecreasingBy n xs
    → low ≡ option_map_or n (slice_get xs 0) 0
    → high ≡ option_map_or n (slice_get xs (length xs - 1)) 0 → low ≡ w → high ≡ w
    → xs ≡ filter (λ y. nat_eq (n y) w) xs
all_next {X} n w low high xs rising first last low_is high_is =
    sym (filter-all (λ y. nat_eq (n y) w) xs
    (recursion_from_All (λ y. nat_eq (n y) w ≡ true) xs (λ k d within.
    let both = bounds n xs low high rising first last k d within in
    eq-eqb (n (get_or xs k d)) w (omega (arith, both.0, both.1, low_is, high_is)))))

pub none_next : {X : Type 0} (n : X → ℕ) (w low high : ℕ) (xs : List X) → IsNonDecreasingBy n xs
    → low ≡ option_map_or n (slice_get xs 0) 0
    → high ≡ option_map_or n (slice_get xs (length xs - 1)) 0 → (w < low) ⊎ (high < w)
    → [] ≡ filter (λ y. nat_eq (n y) w) xs
none_next {X} n w low high xs rising first last outside =
    sym (filter-none (λ y. nat_eq (n y) w) xs
    (recursion_from_All (λ y. nat_eq (n y) w ≡ false) xs (λ k d within.
    let both = bounds n xs low high rising first last k d within in
    apart (n (get_or xs k d)) both.0 both.1 outside)))
  where
    apart : (a : ℕ) → low ≤ a → a ≤ high → (w < low) ⊎ (high < w) → nat_eq a w ≡ false
    apart a above below (inl less) = ne_eqb a w (λ same. omega (arith, above, less, same))
    apart a above below (inr more) = ne_eqb a w (λ same. omega (arith, below, more, same))

-- ---- what comes next in texts that begin alike
next-rises : (front text other : List ℕ) → starts_with nat_eq text front ≡ true
    → starts_with nat_eq other front ≡ true → is_lt (slice_cmp nat_cmp other text) ≡ false
    → next_at (length front) text ≤ next_at (length front) other
next-rises [] [] other one two order = omega arith
next-rises [] (x ∷ text) [] one two order = absurd (false≢true (sym order))
next-rises [] (x ∷ text) (y ∷ other) one two order =
    first-rises x y (slice_cmp nat_cmp other text) order
  where
    first-rises : (x y : ℕ) (o : Ordering) → is_lt (ordering_then (nat_cmp y x) o) ≡ false
        → x + 1 ≤ y + 1
    first-rises x y o order = grind (arith, nat_tests)
next-rises (a ∷ front) [] other one two order = absurd (false≢true one)
next-rises (a ∷ front) (x ∷ text) [] one two order = absurd (false≢true two)
next-rises (a ∷ front) (x ∷ text) (y ∷ other) one two order =
    let first = and_parts (nat_eq a x) (pointwise nat_eq front (take (length front) text)) one in
    let second = and_parts (nat_eq a y) (pointwise nat_eq front (take (length front) other)) two in
    next-rises front text other first.1 second.1
    (sym (ap (λ o. is_lt (ordering_then o (slice_cmp nat_cmp other text)))
    (same-first a x y first.0 second.0)) ∙ order)
  where
    same-first : (a x y : ℕ) → nat_eq a x ≡ true → nat_eq a y ≡ true → nat_cmp y x ≡ Equal
    same-first a x y one two = grind (arith, nat_tests)

pub rises : {V : Type 0} (front : List ℕ) (all : List (Row V)) → AreInOrder all
    → IsNonDecreasingBy (next_in (length front)) (beginning front all)
rises {V} front all sorted = λ i j d upto within.
    let begins = λ (row : Row V). starts_with nat_eq row.0.items front in
    let lt = λ (row other : Row V). is_lt (slice_cmp nat_cmp row.0.items other.0.items) in
    let order = ranks_by nat_list_cmp_total (λ (row : Row V). row.0.items) in
    let passes = filter_passes begins all in
    next-rises front (get_or (filter begins all) i d).0.items
    (get_or (filter begins all) j d).0.items
    (passes i d (omega (arith, upto, within))) (passes j d within)
    (sorted_far lt order (filter begins all) (IsSortedBy-filter lt order begins all sorted) i j d
    upto within)

next-more : (front : List ℕ) (c : ℕ) (text : List ℕ)
    → (starts_with nat_eq text front && nat_eq (next_at (length front) text) (c + 1))
    ≡ starts_with nat_eq text (front ++ c ∷ [])
next-more [] c [] = none c
  where
    none : (c : ℕ) → nat_eq 0 (c + 1) ≡ false
    none c = grind (arith, nat_tests)
next-more [] c (x ∷ text) = one c x
  where
    one : (c x : ℕ) → nat_eq (x + 1) (c + 1) ≡ (nat_eq c x && true)
    one c x = grind (arith, nat_tests)
next-more (a ∷ front) c [] = refl
next-more (a ∷ front) c (x ∷ text) = by (next-more front c text) (nat_eq a x)
  where
    by : (starts_with nat_eq text front && nat_eq (next_at (length front) text) (c + 1))
        ≡ starts_with nat_eq text (front ++ c ∷ []) → (b : Bool)
        → ((b && pointwise nat_eq front (take (length front) text))
        && nat_eq (next_at (length front) text) (c + 1))
        ≡ (b && starts_with nat_eq text (front ++ c ∷ []))
    by rest true = rest
    by rest false = refl

next-none : (front text : List ℕ)
    → (starts_with nat_eq text front && nat_eq (next_at (length front) text) 0)
    ≡ pointwise nat_eq text front
next-none [] [] = refl
next-none [] (x ∷ text) = more x
  where
    more : (x : ℕ) → nat_eq (x + 1) 0 ≡ false
    more x = grind (arith, nat_tests)
next-none (a ∷ front) [] = refl
next-none (a ∷ front) (x ∷ text) = by (next-none front text) (nat_eq a x) refl
  where
    back : (b : Bool) → nat_eq a x ≡ b → nat_eq x a ≡ b
    back b is = grind (arith, nat_tests)

    by : (starts_with nat_eq text front && nat_eq (next_at (length front) text) 0)
        ≡ pointwise nat_eq text front → (b : Bool) → nat_eq a x ≡ b
        → ((b && pointwise nat_eq front (take (length front) text))
        && nat_eq (next_at (length front) text) 0) ≡ (nat_eq x a && pointwise nat_eq text front)
    by rest true is = rest ∙ sym (ap (λ b. b && pointwise nat_eq text front) (back true is))
    by rest false is = sym (ap (λ b. b && pointwise nat_eq text front) (back false is))

pub next-kept : {V : Type 0} (front : List ℕ) (c : ℕ) (all : List (Row V))
    → filter (λ row. nat_eq (next_in (length front) row) (c + 1)) (beginning front all)
    ≡ beginning (front ++ c ∷ []) all
next-kept {V} front c all =
    let begins = λ (row : Row V). starts_with nat_eq row.0.items front in
    let next = λ (row : Row V). nat_eq (next_in (length front) row) (c + 1) in
    filter-both begins next all
    ∙ filter_agree (λ row. begins row && next row)
    (λ (row : Row V). starts_with nat_eq row.0.items (front ++ c ∷ []))
    (λ row. next-more front c row.0.items) all

pub ends-kept : {V : Type 0} (front : List ℕ) (all : List (Row V))
    → filter (λ row. nat_eq (next_in (length front) row) 0) (beginning front all) ≡ having front all
ends-kept {V} front all =
    let begins = λ (row : Row V). starts_with nat_eq row.0.items front in
    let ends = λ (row : Row V). nat_eq (next_in (length front) row) 0 in
    filter-both begins ends all
    ∙ filter_agree (λ row. begins row && ends row)
    (λ (row : Row V). pointwise nat_eq row.0.items front) (λ row. next-none front row.0.items)
    all
