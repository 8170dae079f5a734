-- Places of rules that pass a test: one rule more, another test, two tests together, their order
-- and their members.
use Rattle.std.proofs.Common.{◌≡◌, ◌∙◌, ◌↔◌, ◌⊎◌, inl, inr, refl, sym, ap, ap₂, ℕ, zero, suc, ◌+◌}
use Rattle.std.proofs.Common.{◌<◌, Bool, true, false, cond, ◌||◌, true≢false, List, [], ◌∷◌, ◌++◌}
use Rattle.std.proofs.Common.{length, slice_get, filter, Option, Some, None, Contains}
use Rattle.std.proofs.Common.{if◌then◌else◌, IsPermutation, length-append, arith}
use Rattle.std.specs.Ordering.{nat_cmp}
use Rattle.std.specs.List.{range_with_len}
use Rattle.std.specs.List.Sorted.{IsStrictlySortedBy}
use Rattle.std.proofs.lemmas.List.Elements.{All-contains, filter-append, filter_agree}
use Rattle.std.proofs.lemmas.List.Elements.{filter_passes}
use Rattle.std.proofs.lemmas.List.Kept.{IsStrictlySortedBy-filter}
use Rattle.std.proofs.lemmas.List.Sorted.{IsPermutation-refl, IsPermutation-cons}
use Rattle.std.proofs.lemmas.List.Sorted.{IsPermutation-middle, IsPermutation-trans}
use Rattle.std.proofs.lemmas.Option.{slice_get_within}
use Rattle.spell_types.specs.lists.Laws.{range_more, contains-filter, contains-range, range-rises}
use Rattle.spell_types.specs.declared.rules.Rule.{Rule}
use Rattle.affix_tables.specs.Places.{passes, places_where}

-- ---- filters
filter-range : (p q : ℕ → Bool) (from count : ℕ)
    → ((place : ℕ) → place < from + count → p place ≡ q place)
    → filter p (range_with_len from count) ≡ filter q (range_with_len from count)
filter-range p q from zero same = refl
filter-range p q from (suc count) same =
    ap₂ (λ b places. cond b (from ∷ places) places) (same from (omega arith))
    (filter-range p q (from + 1) count (λ place below. same place (omega (arith, below))))

one-split : (a b c : Bool) (x : ℕ) (ps qs rs : List ℕ) → (a ≡ true → b ≡ false) → c ≡ (a || b)
    → IsPermutation (ps ++ qs) rs
    → IsPermutation (cond a (x ∷ ps) ps ++ cond b (x ∷ qs) qs) (cond c (x ∷ rs) rs)
one-split true true c x ps qs rs apart either same = absurd (true≢false (apart refl))
one-split true false true x ps qs rs apart either same = IsPermutation-cons x (ps ++ qs) rs same
one-split true false false x ps qs rs apart either same = absurd (true≢false (sym either))
one-split false true true x ps qs rs apart either same =
    IsPermutation-trans (ps ++ x ∷ qs) (x ∷ (ps ++ qs)) (x ∷ rs) (IsPermutation-middle ps x qs)
    (IsPermutation-cons x (ps ++ qs) rs same)
one-split false true false x ps qs rs apart either same = absurd (true≢false (sym either))
one-split false false true x ps qs rs apart either same = absurd (true≢false either)
one-split false false false x ps qs rs apart either same = same

filter-split : (p q r : ℕ → Bool) → ((x : ℕ) → p x ≡ true → q x ≡ false)
    → ((x : ℕ) → r x ≡ (p x || q x)) → (xs : List ℕ)
    → IsPermutation (filter p xs ++ filter q xs) (filter r xs)
filter-split p q r apart either [] = IsPermutation-refl []
filter-split p q r apart either (x ∷ xs) =
    one-split (p x) (q x) (r x) x (filter p xs) (filter q xs) (filter r xs) (apart x) (either x)
    (filter-split p q r apart either xs)

-- ---- a rule more
slice_get-front : (rules : List Rule) (rule : Rule) (place : ℕ) → place < length rules
    → slice_get (rules ++ rule ∷ []) place ≡ slice_get rules place
slice_get-front [] rule place below = absurd (omega (arith, below))
slice_get-front (first ∷ rules) rule zero below = refl
slice_get-front (first ∷ rules) rule (suc place) below =
    slice_get-front rules rule place (omega (arith, below))

slice_get-end : (rules : List Rule) (rule : Rule) → slice_get (rules ++ rule ∷ []) (length rules)
    ≡ Some rule
slice_get-end [] rule = refl
slice_get-end (first ∷ rules) rule = slice_get-end rules rule

pub slice_get-more : (rules : List Rule) (rule : Rule) (place : ℕ) (other : Rule)
    → slice_get (rules ++ rule ∷ []) place ≡ Some other → (slice_get rules place ≡ Some other)
    ⊎ (rule ≡ other)
slice_get-more [] rule zero other is = inr (cc)
slice_get-more [] rule (suc place) other is = absurd (cc)
slice_get-more (first ∷ rules) rule zero other is = inl is
slice_get-more (first ∷ rules) rule (suc place) other is = slice_get-more rules rule place other is

pub places-more : (test : Rule → Bool) (rules : List Rule) (rule : Rule)
    → places_where test (rules ++ rule ∷ []) ≡ places_where test rules
    ++ (if test rule then length rules ∷ [] else [])
places-more test rules rule =
    let now = λ (place : ℕ). passes test (slice_get (rules ++ rule ∷ []) place) in
    let before = λ (place : ℕ). passes test (slice_get rules place) in
    let count = length rules in
    let more : length (rules ++ rule ∷ []) ≡ count + 1 = length-append rules (rule ∷ []) in
    ap (λ n. filter now (range_with_len 0 n)) more
    ∙ ap (filter now) (range_more count)
    ∙ filter-append now (range_with_len 0 count) (count ∷ [])
    ∙ ap₂ (λ xs ys. xs ++ ys)
    (filter-range now before 0 count
    (λ place below. ap (passes test) (slice_get-front rules rule place (omega (arith, below)))))
    (ap (λ found. if passes test found then count ∷ [] else []) (slice_get-end rules rule))

-- ---- other tests
pub places-same : (p q : Rule → Bool) (rules : List Rule)
    → ((place : ℕ) (rule : Rule) → slice_get rules place ≡ Some rule → p rule ≡ q rule)
    → places_where p rules ≡ places_where q rules
places-same p q rules same =
    filter_agree (λ place. passes p (slice_get rules place))
    (λ place. passes q (slice_get rules place)) (λ place. at place (slice_get rules place) refl)
    (range_with_len 0 (length rules))
  where
    at : (place : ℕ) (found : Option Rule) → slice_get rules place ≡ found
        → passes p found ≡ passes q found
    at place None is = refl
    at place (Some rule) is = same place rule is

pub places-none : (p : Rule → Bool) (rules : List Rule) → ((rule : Rule) → p rule ≡ false)
    → places_where p rules ≡ []
places-none p rules none = go (range_with_len 0 (length rules))
  where
    at : (found : Option Rule) → passes p found ≡ false
    at None = refl
    at (Some rule) = none rule

    go : (places : List ℕ) → filter (λ place. passes p (slice_get rules place)) places ≡ []
    go [] = refl
    go (place ∷ places) =
        ap (λ b. cond b (place ∷ filter (λ place. passes p (slice_get rules place)) places)
        (filter (λ place. passes p (slice_get rules place)) places)) (at (slice_get rules place))
        ∙ go places

pub places-split : (p q r : Rule → Bool) (rules : List Rule)
    → ((rule : Rule) → p rule ≡ true → q rule ≡ false)
    → ((rule : Rule) → r rule ≡ (p rule || q rule))
    → IsPermutation (places_where p rules ++ places_where q rules) (places_where r rules)
places-split p q r rules apart either =
    filter-split (λ place. passes p (slice_get rules place))
    (λ place. passes q (slice_get rules place)) (λ place. passes r (slice_get rules place))
    (λ place. apart-at (slice_get rules place)) (λ place. either-at (slice_get rules place))
    (range_with_len 0 (length rules))
  where
    apart-at : (found : Option Rule) → passes p found ≡ true → passes q found ≡ false
    apart-at None is = refl
    apart-at (Some rule) is = apart rule is

    either-at : (found : Option Rule) → passes r found ≡ (passes p found || passes q found)
    either-at None = refl
    either-at (Some rule) = either rule

-- ---- their order
pub places-rise : (test : Rule → Bool) (rules : List Rule)
    → IsStrictlySortedBy nat_cmp (places_where test rules)
places-rise test rules =
    IsStrictlySortedBy-filter nat_cmp (λ place. passes test (slice_get rules place))
    (range_with_len 0 (length rules)) (range-rises 0 (length rules))

-- ---- their members
-- a place is among them just where a rule stands there that passes the test
pub places-members : (test : Rule → Bool) (rules : List Rule) (place : ℕ)
    → Contains (places_where test rules) place
    ↔ ((rule : Rule) × (slice_get rules place ≡ Some rule) × (test rule ≡ true))
places-members test rules place = (
  λ inside. told (slice_get rules place) refl
      (All-contains (λ n. passes test (slice_get rules n) ≡ true) (places_where test rules) place
      (filter_passes (λ n. passes test (slice_get rules n)) (range_with_len 0 (length rules)))
      inside),
  λ (rule, at, holds). contains-filter (λ n. passes test (slice_get rules n))
      (range_with_len 0 (length rules)) place
      (contains-range (length rules) place (slice_get_within rules place rule at))
      (ap (passes test) at ∙ holds),
)
  where
    told : (found : Option Rule) → slice_get rules place ≡ found → passes test found ≡ true
        → (rule : Rule) × (slice_get rules place ≡ Some rule) × (test rule ≡ true)
    told None at holds = absurd (true≢false (sym holds))
    told (Some rule) at holds = (rule, at, holds)
