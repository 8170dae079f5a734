-- Rising lists of flags, and what is put into them.
use Rattle.std.proofs.Common.{◌≡◌, ◌∙◌, refl, sym, ap, subst, ℕ, zero, suc, ◌<◌, ◌≤◌, ◌==◌, ◌||◌}
use Rattle.std.proofs.Common.{Bool, true, false, List, [], ◌∷◌, length, get_or, slice_get, Some}
use Rattle.std.proofs.Common.{Result, Ok, Err, is_ok, IfOk, IfErr, All, Contains, Any, insert}
use Rattle.std.proofs.Common.{unwrap_or, eq-eqb, Less, Greater, arith, tests, ◌⊎◌, inl, inr, ⊎_elim}
use Rattle.std.proofs.Common.{true≢false, Ordering, ◌++◌}
use Rattle.std.specs.List.{dedup}
use Rattle.std.specs.Cmp.{IsTotalOrder, IsEquivalence}
use Rattle.std.specs.List.Sorted.{IsPartitionPoint, IsBinarySearchResult, IsPermutation, IsSorted}
use Rattle.std.specs.List.Sorted.{IsStrictlySortedBy}
use Rattle.std.specs.Ordering.{nat_cmp, ordering_index, is_eq, eq_by_cmp}
use Rattle.std.proofs.lemmas.Bool.{cases_lt}
use Rattle.std.proofs.lemmas.Bool.Decides.{nat_tests, Decides-eqb}
use Rattle.std.proofs.lemmas.Cmp.{nat_cmp_total, on_total, eq_by_cmp_equiv}
use Rattle.std.proofs.lemmas.List.Elements.{All-nil, All-cons, All-head, All-tail, All-weaker}
use Rattle.std.proofs.lemmas.List.Elements.{All-from_recursion}
use Rattle.std.proofs.lemmas.List.Kept.{IsStrictlySortedBy-dedup, Contains-dedup}
use Rattle.std.proofs.lemmas.List.Kept.{Contains-from_dedup}
use Rattle.std.proofs.lemmas.List.Sorted.{Contains-permutation, IsPermutation-sym}
use Rattle.std.proofs.lemmas.List.Folds.{list_any_at, list_any_none, Any-from_list_any}
use Rattle.std.proofs.lemmas.List.{get_or_default}
use Rattle.std.proofs.lemmas.Option.{slice_get_within, get_or_from_slice_get}
use Rattle.spell_types.specs.declared.flags.Flag.{Flag}
use Rattle.spell_types.specs.Flags.{IsRising, put, put_all, has}

abbrev pub Below : Flag → Flag → Type 0
Below flag later = flag.0 < later.0

-- ---- rising lists
rising-cons : (x : Flag) (xs : List Flag) → All (Below x) xs → IsRising xs → IsRising (x ∷ xs)
rising-cons x xs first rest zero zero d before within = absurd (omega arith)
rising-cons x xs first rest zero (suc j) d before within = first j d (omega arith)
rising-cons x xs first rest (suc i) zero d before within = absurd (omega arith)
rising-cons x xs first rest (suc i) (suc j) d before within = rest i j d (omega arith) (omega arith)

rising-head : (x : Flag) (xs : List Flag) → IsRising (x ∷ xs) → All (Below x) xs
rising-head x xs rising = λ k d within. rising 0 (suc k) d (omega arith) (omega arith)

rising-tail : (x : Flag) (xs : List Flag) → IsRising (x ∷ xs) → IsRising xs
rising-tail x xs rising =
    λ i j d before within. rising (suc i) (suc j) d (omega arith) (omega arith)

pub rising-nil : IsRising []
rising-nil i j d before within = absurd (omega arith)

-- ---- what `put` gives of a list with a first flag
three : {P : Type 0} (a b : ℕ) → (a < b → P) → (a ≡ b → P) → (b < a → P) → P
three a b low same high =
    ⊎_elim low (λ above. ⊎_elim high (λ below. same (omega arith)) (cases_lt b a)) (cases_lt a b)

put-low : (flag first : Flag) (more : List Flag) → flag.0 < first.0
    → put flag (first ∷ more) ≡ flag ∷ first ∷ more
put-low flag first more low = grind (arith, nat_tests)

put-same : (flag first : Flag) (more : List Flag) → flag.0 ≡ first.0
    → put flag (first ∷ more) ≡ first ∷ more
put-same flag first more same = grind (arith, nat_tests)

put-high : (flag first : Flag) (more : List Flag) → first.0 < flag.0
    → put flag (first ∷ more) ≡ first ∷ put flag more
put-high flag first more high = grind (arith, nat_tests)

put-All : (x flag : Flag) (xs : List Flag) → Below x flag → All (Below x) xs
    → All (Below x) (put flag xs)
put-All x flag [] one all = All-cons (Below x) flag [] one all
put-All x flag (first ∷ more) one all =
    three flag.0 first.0
    (λ low. subst (All (Below x)) (sym (put-low flag first more low))
    (All-cons (Below x) flag (first ∷ more) one all))
    (λ same. subst (All (Below x)) (sym (put-same flag first more same)) all)
    (λ high. subst (All (Below x)) (sym (put-high flag first more high))
    (All-cons (Below x) first (put flag more) (All-head (Below x) first more all)
    (put-All x flag more one (All-tail (Below x) first more all))))

-- a rising list still rises
pub put-IsRising : (flag : Flag) (xs : List Flag) → IsRising xs → IsRising (put flag xs)
put-IsRising flag [] rising = rising-cons flag [] (All-nil (Below flag)) rising
put-IsRising flag (first ∷ more) rising =
    three flag.0 first.0
    (λ low. subst IsRising (sym (put-low flag first more low))
    (rising-cons flag (first ∷ more)
    (All-cons (Below flag) first more low
    (All-weaker (Below first) (Below flag) (λ x above. omega arith) more
    (rising-head first more rising)))
    rising))
    (λ same. subst IsRising (sym (put-same flag first more same)) rising)
    (λ high. subst IsRising (sym (put-high flag first more high))
    (rising-cons first (put flag more)
    (put-All first flag more high (rising-head first more rising))
    (put-IsRising flag more (rising-tail first more rising))))

pub put_all-IsRising : (set flags : List Flag) → IsRising set → IsRising (put_all set flags)
put_all-IsRising set [] rising = rising
put_all-IsRising set (flag ∷ more) rising =
    put_all-IsRising (put flag set) more (put-IsRising flag set rising)

-- ---- where a flag stands or is missing
abbrev pub Missing : Flag → List Flag → ℕ → Type 0
Missing flag = IsPartitionPoint (λ held. held.0 < flag.0) (λ held. flag.0 < held.0)

pub put_held : (flag : Flag) (xs : List Flag) (place : ℕ) → IsRising xs
    → slice_get xs place ≡ Some flag → put flag xs ≡ xs
put_held flag [] place rising at = absurd (cc)
put_held flag (first ∷ more) zero rising at =
    put-same flag first more (ap (λ o. (unwrap_or o flag).0) (sym at))
put_held flag (first ∷ more) (suc place) rising at =
    let within : place < length more = slice_get_within more place flag at in
    let above : first.0 < (get_or more place flag).0 =
    rising-head first more rising place flag within in
    let is : get_or more place flag ≡ flag = get_or_from_slice_get more place flag flag at in
    put-high flag first more (subst (λ x. first.0 < x.0) is above)
    ∙ ap (λ rest. first ∷ rest) (put_held flag more place (rising-tail first more rising) at)

pub put_missing : (flag : Flag) (xs : List Flag) (place : ℕ) → place ≤ length xs
    → Missing flag xs place → put flag xs ≡ insert xs place flag
put_missing flag [] zero within parts = refl
put_missing flag [] (suc place) within parts = absurd (omega arith)
put_missing flag (first ∷ more) zero within parts =
    put-low flag first more (parts.1 0 first (omega arith) (omega arith))
put_missing flag (first ∷ more) (suc place) within parts =
    put-high flag first more (parts.0 0 first (omega arith) (omega arith))
    ∙ ap (λ rest. first ∷ rest) (put_missing flag more place (omega arith) (
      λ k d from to. parts.0 (suc k) d (omega arith) (omega arith),
      λ k d from to. parts.1 (suc k) d
          (omega arith) (omega arith),
    ))

pub has_held : (flag : Flag) (xs : List Flag) (place : ℕ) → slice_get xs place ≡ Some flag
    → true ≡ has xs (Some flag)
has_held flag xs place at =
    sym (list_any_at (λ held. held.0 == flag.0) xs place flag (slice_get_within xs place flag at)
    (subst (λ x. (x.0 == flag.0) ≡ true) (sym (get_or_from_slice_get xs place flag flag at))
    (eq-eqb flag.0 flag.0 refl)))

pub has_missing : (flag : Flag) (xs : List Flag) (place : ℕ) → Missing flag xs place
    → false ≡ has xs (Some flag)
has_missing flag xs place parts =
    sym (list_any_none (λ held. held.0 == flag.0) xs (λ k d within.
    ⊎_elim (λ low. apart _ _ (inl (parts.0 k d (omega arith) low)))
    (λ high. apart _ _ (inr (parts.1 k d high within))) (cases_lt k place)))
  where
    apart : (a b : ℕ) → (a < b) ⊎ (b < a) → (a == b) ≡ false
    apart a b (inl low) = grind (arith, nat_tests)
    apart a b (inr high) = grind (arith, nat_tests)

pub has_searched : (flag : Flag) (xs : List Flag) (r : Result ℕ ℕ)
    → IfOk r (λ place. slice_get xs place ≡ Some flag) → IfErr r (Missing flag xs)
    → is_ok r ≡ has xs (Some flag)
has_searched flag xs (Ok place) found missing = has_held flag xs place found
has_searched flag xs (Err place) found missing = has_missing flag xs place missing

-- what `binary_search` says of a rising list
pub searched_missing : (flag : Flag) (xs : List Flag) (r : Result ℕ ℕ)
    → IsBinarySearchResult (λ y. nat_cmp y.0 flag.0) xs r → IsRising xs → IfErr r (Missing flag xs)
searched_missing flag xs (Ok place) is rising = tt
searched_missing flag xs (Err place) is rising =
    let parts = is (λ i j d up within. higher _ _ (level i j d up within) flag.0) in
    (λ k d from to. low _ _ (parts.0 k d from to), λ k d from to. high _ _ (parts.1 k d from to))
  where
    level : (i j : ℕ) (d : Flag) → i ≤ j → j < length xs → (get_or xs i d).0 ≤ (get_or xs j d).0
    level i j d up within =
        ⊎_elim (λ before. omega (arith, rising i j d before within))
        (λ after. let same : i ≡ j = omega arith in omega (arith, ap (λ k. (get_or xs k d).0) same))
        (cases_lt i j)

    higher : (a b : ℕ) → a ≤ b → (x : ℕ)
        → ordering_index (nat_cmp a x) ≤ ordering_index (nat_cmp b x)
    higher a b le x = grind (arith, tests)

    low : (a b : ℕ) → nat_cmp a b ≡ Less → a < b
    low a b is = grind (arith, nat_tests)

    high : (a b : ℕ) → nat_cmp a b ≡ Greater → b < a
    high a b is = grind (arith, nat_tests)

-- ---- which flags a set has
pub put-has : (flag : Flag) (xs : List Flag) (asked : Flag)
    → has (put flag xs) (Some asked) ≡ (flag.0 == asked.0) || has xs (Some asked)
put-has flag [] asked = refl
put-has flag (first ∷ more) asked =
    three flag.0 first.0
    (λ low. ap (λ xs. has xs (Some asked)) (put-low flag first more low))
    (λ same. ap (λ xs. has xs (Some asked)) (put-same flag first more same) ∙ twice _ _ _ _ same)
    (λ high. ap (λ xs. has xs (Some asked)) (put-high flag first more high)
    ∙ ap (λ b. (first.0 == asked.0) || b) (put-has flag more asked)
    ∙ swapped (first.0 == asked.0) (flag.0 == asked.0) (has more (Some asked)))
  where
    twice : (a b x : ℕ) (rest : Bool) → a ≡ b → (b == x) || rest ≡ (a == x) || ((b == x) || rest)
    twice a b x rest same =
        subst (λ c. (b == x) || rest ≡ (c == x) || ((b == x) || rest)) (sym same)
        (once (b == x) rest)
      where
        once : (p q : Bool) → p || q ≡ p || (p || q)
        once true q = refl
        once false q = refl

    swapped : (p q r : Bool) → p || (q || r) ≡ q || (p || r)
    swapped true true r = refl
    swapped true false r = refl
    swapped false q r = refl

or-none : (p q : Bool) → p || q ≡ q || p
or-none true true = refl
or-none true false = refl
or-none false true = refl
or-none false false = refl

or-assoc : (p q r : Bool) → (p || q) || r ≡ p || (q || r)
or-assoc true q r = refl
or-assoc false q r = refl

pub put_all-has : (set flags : List Flag) (asked : Flag)
    → has (put_all set flags) (Some asked) ≡ has flags (Some asked) || has set (Some asked)
put_all-has set [] asked = refl
put_all-has set (flag ∷ more) asked =
    put_all-has (put flag set) more asked
    ∙ ap (λ b. has more (Some asked) || b) (put-has flag set asked)
    ∙ sym (or-assoc (has more (Some asked)) (flag.0 == asked.0) (has set (Some asked)))
    ∙ ap (λ b. b || has set (Some asked)) (or-none (has more (Some asked)) (flag.0 == asked.0))

pub put_all-last : (set flags : List Flag) (flag : Flag)
    → put_all set (flags ++ flag ∷ []) ≡ put flag (put_all set flags)
put_all-last set [] flag = refl
put_all-last set (first ∷ more) flag = put_all-last (put first set) more flag

-- `has` tells what stands in a list
pub has-Contains : (xs : List Flag) (flag : Flag) → has xs (Some flag) ≡ true → Contains xs flag
has-Contains xs flag is = found (Any-from_list_any (λ held. held.0 == flag.0) xs is)
  where
    found : Any (λ held. (held.0 == flag.0) ≡ true) xs → Contains xs flag
    found (k, x, within, at, same) =
        let equal : x ≡ flag = ap (λ n. record { 0 = n }) ((Decides-eqb x.0 flag.0).0 same) in
        (k, within, get_or_default xs k flag x within ∙ at ∙ equal)

pub Contains-has : (xs : List Flag) (flag : Flag) → Contains xs flag → has xs (Some flag) ≡ true
Contains-has xs flag (k, within, at) =
    list_any_at (λ held. held.0 == flag.0) xs k flag within
    (subst (λ x. (x.0 == flag.0) ≡ true) (sym at) (eq-eqb flag.0 flag.0 refl))

pub put_all-Contains : (flags : List Flag) (flag : Flag) → Contains (put_all [] flags) flag
    → Contains flags flag
put_all-Contains flags flag holds =
    has-Contains flags flag
    (sym (or-none (has flags (Some flag)) false) ∙ sym (put_all-has [] flags flag)
    ∙ Contains-has (put_all [] flags) flag holds)

pub Contains-put_all : (flags : List Flag) (flag : Flag) → Contains flags flag
    → Contains (put_all [] flags) flag
Contains-put_all flags flag holds =
    has-Contains (put_all [] flags) flag
    (put_all-has [] flags flag ∙ or-none (has flags (Some flag)) false
    ∙ Contains-has flags flag holds)

-- ---- two rising lists with the same flags are one
above-missing : (flag : Flag) (xs : List Flag) → All (Below flag) xs → has xs (Some flag) ≡ false
above-missing flag xs above =
    list_any_none (λ held. held.0 == flag.0) xs (λ k d within. apart _ _ (above k d within))
  where
    apart : (a b : ℕ) → a < b → (b == a) ≡ false
    apart a b low = grind (arith, nat_tests)

first-held : (flag : Flag) (xs : List Flag) → has (flag ∷ xs) (Some flag) ≡ true
first-held flag xs = grind (arith, nat_tests)

below-all : (flag first : Flag) (more : List Flag) → flag.0 < first.0 → IsRising (first ∷ more)
    → All (Below flag) (first ∷ more)
below-all flag first more low rising =
    All-cons (Below flag) first more low
    (All-weaker (Below first) (Below flag) (λ x above. omega arith) more
    (rising-head first more rising))

pub rising-same : (xs ys : List Flag) → IsRising xs → IsRising ys
    → ((flag : Flag) → has xs (Some flag) ≡ has ys (Some flag)) → xs ≡ ys
rising-same [] [] up up' same = refl
rising-same [] (y ∷ ys) up up' same = absurd (true≢false (sym (same y ∙ first-held y ys)))
rising-same (x ∷ xs) [] up up' same = absurd (true≢false (sym (first-held x xs) ∙ same x))
rising-same (x ∷ xs) (y ∷ ys) up up' same =
    let heads : x ≡ y =
    three x.0 y.0
    (λ low. absurd (true≢false (sym (first-held x xs) ∙ same x
    ∙ above-missing x (y ∷ ys) (below-all x y ys low up'))))
    (λ equal. ap (λ n. record { 0 = n }) equal)
    (λ high. absurd (true≢false (sym (first-held y ys) ∙ sym (same y)
    ∙ above-missing y (x ∷ xs) (below-all y x xs high up)))) in
    ap (λ first. first ∷ xs) heads
    ∙ ap (λ more. y ∷ more) (rising-same xs ys (rising-tail x xs up) (rising-tail y ys up')
    (λ flag. rest flag heads))
  where
    rest : (flag : Flag) → x ≡ y → has xs (Some flag) ≡ has ys (Some flag)
    rest flag heads =
        three flag.0 x.0
        (λ low. behind flag (other _ _ (inr low))
        (other _ _ (inr (subst (λ h. flag.0 < h.0) heads low))))
        (λ equal. both flag equal)
        (λ high. behind flag (other _ _ (inl high))
        (other _ _ (inl (subst (λ h. h.0 < flag.0) heads high))))
      where
        other : (a b : ℕ) → (a < b) ⊎ (b < a) → (a == b) ≡ false
        other a b (inl low) = grind (arith, nat_tests)
        other a b (inr high) = grind (arith, nat_tests)

        behind : (flag : Flag) → (x.0 == flag.0) ≡ false → (y.0 == flag.0) ≡ false
            → has xs (Some flag) ≡ has ys (Some flag)
        behind flag one two =
            ap (λ b. b || has xs (Some flag)) (sym one) ∙ same flag
            ∙ ap (λ b. b || has ys (Some flag)) two

        both : (flag : Flag) → flag.0 ≡ x.0 → has xs (Some flag) ≡ has ys (Some flag)
        both flag equal =
            above-missing flag xs (subst (λ n. All (λ later. n < later.0) xs) (sym equal)
            (rising-head x xs up))
            ∙ sym (above-missing flag ys (subst (λ n. All (λ later. n < later.0) ys)
            (sym (equal ∙ ap (λ h. h.0) heads)) (rising-head y ys up')))

-- a list that is sorted and has no repeats is the set of its flags
pub listed : (flags set : List Flag) → IsRising set
    → ((flag : Flag) → Contains set flag → Contains flags flag)
    → ((flag : Flag) → Contains flags flag → Contains set flag)
    → set ≡ put_all [] flags
listed flags set rising from to =
    rising-same set (put_all [] flags) rising (put_all-IsRising [] flags rising-nil)
    (λ flag. alike flag (has set (Some flag)) (has (put_all [] flags) (Some flag)) refl refl)
  where
    alike : (flag : Flag) (p q : Bool) → has set (Some flag) ≡ p
        → has (put_all [] flags) (Some flag) ≡ q → p ≡ q
    alike flag true true held put = refl
    alike flag false false held put = refl
    alike flag true false held put =
        sym (Contains-has (put_all [] flags) flag (Contains-put_all flags flag
        (from flag (has-Contains set flag held)))) ∙ put
    alike flag false true held put =
        sym held ∙ Contains-has set flag (to flag
        (put_all-Contains flags flag (has-Contains (put_all [] flags) flag put)))

-- ---- a sort, and repeats removed
abbrev pub flag_cmp : Flag → Flag → Ordering
flag_cmp x y = nat_cmp x.0 y.0

flags-total : IsTotalOrder flag_cmp
flags-total = on_total (λ (flag : Flag). flag.0) nat_cmp_total

strict-rising : (xs : List Flag) → IsStrictlySortedBy flag_cmp xs → IsRising xs
unfolding IsStrictlySortedBy
strict-rising [] sorted = rising-nil
strict-rising (x ∷ xs) sorted =
    rising-cons x xs
    (All-weaker (λ y. flag_cmp x y ≡ Less) (Below x) (λ y less. below _ _ less) xs
    (All-from_recursion (λ y. flag_cmp x y ≡ Less) xs sorted.0))
    (strict-rising xs sorted.1)
  where
    below : (a b : ℕ) → nat_cmp a b ≡ Less → a < b
    below a b less = grind (arith, nat_tests)

pub sorted_set : (E : Flag → Flag → Bool) → ((x y : Flag) → E x y ≡ (x.0 == y.0))
    → (flags moved kept : List Flag) → IsPermutation flags moved
    → IsSorted flag_cmp moved → kept ≡ dedup E moved → kept ≡ put_all [] flags
sorted_set E equal flags moved kept permutation sorted is =
    listed flags kept
    (subst IsRising (sym is)
    (strict-rising (dedup E moved) (IsStrictlySortedBy-dedup flags-total ties moved sorted)))
    (λ flag inside. Contains-permutation moved flags flag (IsPermutation-sym flags moved permutation)
    (Contains-from_dedup E moved flag (subst (λ xs. Contains xs flag) is inside)))
    (λ flag inside. subst (λ xs. Contains xs flag) (sym is)
    (Contains-dedup equivalence exact moved flag
    (Contains-permutation flags moved flag permutation inside)))
  where
    same-number : (x y : ℕ) → x == y ≡ is_eq (nat_cmp x y)
    same-number x y = grind (arith, nat_tests)

    ties : (x y : Flag) → E x y ≡ eq_by_cmp flag_cmp x y
    ties x y = equal x y ∙ same-number x.0 y.0

    exact : (x y : Flag) → E x y ≡ true → x ≡ y
    exact x y same = ap (λ n. record { 0 = n }) ((Decides-eqb x.0 y.0).0 (sym (equal x y) ∙ same))

    alike : IsEquivalence (eq_by_cmp flag_cmp)
    alike = eq_by_cmp_equiv flags-total

    equivalence : IsEquivalence E
    equivalence = record {
      refl = λ x. ties x x ∙ alike.refl x;
      symm = λ x y. ties x y ∙ alike.symm x y ∙ sym (ties y x);
      congr = λ x y z same. ties x z ∙ alike.congr x y z (sym (ties x y) ∙ same) ∙ sym (ties y z);
    }
