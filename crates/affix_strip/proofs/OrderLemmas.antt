-- All derivations rise.
use Rattle.std.proofs.Common.{◌≡◌, ◌∙◌, refl, ap, ℕ, ◌<◌, List, [], ◌∷◌, ◌++◌}
use Rattle.std.proofs.Common.{length, map, Option, None, Some, Ordering, Less, Equal, arith}
use Rattle.std.specs.List.{flat_map, range_with_len, AllByRecursion}
use Rattle.std.specs.List.Sorted.{IsStrictlySortedBy}
use Rattle.std.specs.Option.{option_cmp}
use Rattle.std.specs.Ordering.{ordering_then, nat_cmp}
use Rattle.std.proofs.lemmas.Bool.Decides.{nat_tests}
use Rattle.std.proofs.lemmas.List.Kept.{IsStrictlySortedBy-filter}
use Rattle.spell_types.specs.lists.Laws.{each-append, each-weaker, each-map, each-flat_map}
use Rattle.spell_types.specs.lists.Laws.{range-rises}
use Rattle.spell_types.specs.declared.Lexicon.{Lexicon}
use Rattle.spell_types.specs.declared.derivations.Derivation.{Derivation}
use Rattle.spell_types.specs.Derivations.{choices, derivation_of, all_from, all_derivations}
use Rattle.affix_strip.specs.Found.{derives, derivations_of, derivation_cmp, AreDerivationsInOrder}

-- ---- what holds of each
each-always : {X : Type 0} (P : X → Type 0) → ((x : X) → P x) → (xs : List X) → AllByRecursion P xs
each-always P always [] = tt
each-always P always (x ∷ xs) = (always x, each-always P always xs)

-- ---- lists in order
sorted-append : {X : Type 0} (c : X → X → Ordering) (xs ys : List X) → IsStrictlySortedBy c xs
    → IsStrictlySortedBy c ys → AllByRecursion (λ x. AllByRecursion (λ y. c x y ≡ Less) ys) xs
    → IsStrictlySortedBy c (xs ++ ys)
unfolding IsStrictlySortedBy
sorted-append c [] ys front back across = back
sorted-append c (x ∷ xs) ys front back across = (
  each-append (λ y. c x y ≡ Less) xs ys front.0 across.0,
  sorted-append c xs ys front.1 back across.1,
)

sorted-map : {X Y : Type 0} (k : X → X → Ordering) (c : Y → Y → Ordering) (f : X → Y)
    → ((x y : X) → k x y ≡ Less → c (f x) (f y) ≡ Less) → (xs : List X) → IsStrictlySortedBy k xs
    → IsStrictlySortedBy c (map f xs)
unfolding IsStrictlySortedBy
sorted-map k c f keeps [] sorted = tt
sorted-map k c f keeps (x ∷ xs) sorted = (
  each-map (λ y. c (f x) y ≡ Less) f xs
      (each-weaker (λ y. k x y ≡ Less) (λ y. c (f x) (f y) ≡ Less) (λ y less. keeps x y less) xs
      sorted.0),
  sorted-map k c f keeps xs sorted.1,
)

abbrev Across : {Y : Type 0} → (Y → Y → Ordering) → List Y → List Y → Type 0
Across c xs ys = AllByRecursion (λ x. AllByRecursion (λ y. c x y ≡ Less) ys) xs

across-flat_map : {X Y : Type 0} (c : Y → Y → Ordering) (f : X → List Y) (front : List Y)
    (xs : List X) → AllByRecursion (λ x. Across c front (f x)) xs → Across c front (flat_map f xs)
across-flat_map c f [] xs each = tt
across-flat_map c f (y ∷ front) xs each = (
  each-flat_map (λ z. c y z ≡ Less) f xs
      (each-weaker (λ x. Across c (y ∷ front) (f x)) (λ x. AllByRecursion (λ z. c y z ≡ Less) (f x))
      (λ x across. across.0) xs each),
  across-flat_map c f front xs
      (each-weaker (λ x. Across c (y ∷ front) (f x)) (λ x. Across c front (f x))
      (λ x across. across.1) xs each),
)

sorted-flat_map : {X Y : Type 0} (k : X → X → Ordering) (c : Y → Y → Ordering) (f : X → List Y)
    → ((x : X) → IsStrictlySortedBy c (f x)) → ((x y : X) → k x y ≡ Less → Across c (f x) (f y))
    → (xs : List X) → IsStrictlySortedBy k xs → IsStrictlySortedBy c (flat_map f xs)
unfolding IsStrictlySortedBy
sorted-flat_map k c f inside across [] sorted = tt
sorted-flat_map k c f inside across (x ∷ xs) sorted =
    sorted-append c (f x) (flat_map f xs) (inside x)
    (sorted-flat_map k c f inside across xs sorted.1)
    (across-flat_map c f (f x) xs
    (each-weaker (λ y. k x y ≡ Less) (λ y. Across c (f x) (f y)) (across x) xs sorted.0))

-- ---- numbers and places in order
less : (x y : ℕ) → x < y → nat_cmp x y ≡ Less
less x y below = grind (arith, nat_tests)

same : (x : ℕ) → nat_cmp x x ≡ Equal
same x = grind (arith, nat_tests)

same_place : (place : Option ℕ) → option_cmp nat_cmp place place ≡ Equal
same_place None = refl
same_place (Some place) = same place

choices-sorted : (count : ℕ) → IsStrictlySortedBy (option_cmp nat_cmp) (choices count)
unfolding IsStrictlySortedBy
choices-sorted count =
    let place = λ (n : ℕ). let some : Option ℕ = Some n in some in (
      each-map (λ y. option_cmp nat_cmp None y ≡ Less) place (range_with_len 0 count)
          (each-always (λ n. option_cmp nat_cmp None (place n) ≡ Less) (λ n. refl)
          (range_with_len 0 count)),
      sorted-map nat_cmp (option_cmp nat_cmp) place (λ x y before. before) (range_with_len 0 count)
          (range-rises 0 count),
    )

-- ---- derivations in order
then-same : (a b : Ordering) → a ≡ Equal → ordering_then a b ≡ b
then-same a b is = ap (λ o. ordering_then o b) is

then-less : (a b : Ordering) → a ≡ Less → ordering_then a b ≡ Less
then-less a b is = ap (λ o. ordering_then o b) is

abbrev later : Option ℕ → Option ℕ → Option ℕ → Option ℕ → Ordering
later first second first' second' =
    ordering_then (option_cmp nat_cmp first first') (option_cmp nat_cmp second second')

by_second : (entry : ℕ) (prefix first second second' : Option ℕ) → option_cmp nat_cmp second second'
    ≡ Less → derivation_cmp (derivation_of entry prefix first second)
    (derivation_of entry prefix first second') ≡ Less
by_second entry prefix first second second' is =
    then-same (nat_cmp entry entry)
    (ordering_then (option_cmp nat_cmp prefix prefix) (later first second first second'))
    (same entry)
    ∙ then-same (option_cmp nat_cmp prefix prefix) (later first second first second')
    (same_place prefix)
    ∙ then-same (option_cmp nat_cmp first first) (option_cmp nat_cmp second second')
    (same_place first)
    ∙ is

by_first : (entry : ℕ) (prefix first first' second second' : Option ℕ)
    → option_cmp nat_cmp first first' ≡ Less
    → derivation_cmp (derivation_of entry prefix first second)
    (derivation_of entry prefix first' second') ≡ Less
by_first entry prefix first first' second second' is =
    then-same (nat_cmp entry entry)
    (ordering_then (option_cmp nat_cmp prefix prefix) (later first second first' second'))
    (same entry)
    ∙ then-same (option_cmp nat_cmp prefix prefix) (later first second first' second')
    (same_place prefix)
    ∙ then-less (option_cmp nat_cmp first first') (option_cmp nat_cmp second second') is

by_prefix : (entry : ℕ) (prefix prefix' first first' second second' : Option ℕ)
    → option_cmp nat_cmp prefix prefix' ≡ Less
    → derivation_cmp (derivation_of entry prefix first second)
    (derivation_of entry prefix' first' second') ≡ Less
by_prefix entry prefix prefix' first first' second second' is =
    then-same (nat_cmp entry entry)
    (ordering_then (option_cmp nat_cmp prefix prefix') (later first second first' second'))
    (same entry)
    ∙ then-less (option_cmp nat_cmp prefix prefix') (later first second first' second') is

-- what holds of each derivation with these parts
each_second : (P : Derivation → Type 0) (count entry : ℕ) (prefix first : Option ℕ)
    → ((second : Option ℕ) → P (derivation_of entry prefix first second))
    → AllByRecursion P (map (derivation_of entry prefix first) (choices count))
each_second P count entry prefix first always =
    each-map P (derivation_of entry prefix first) (choices count)
    (each-always (λ second. P (derivation_of entry prefix first second)) always (choices count))

abbrev from_prefix : ℕ → ℕ → Option ℕ → List Derivation
from_prefix count entry prefix =
    flat_map (λ first. map (derivation_of entry prefix first) (choices count)) (choices count)

each_first : (P : Derivation → Type 0) (count entry : ℕ) (prefix : Option ℕ)
    → ((first second : Option ℕ) → P (derivation_of entry prefix first second))
    → AllByRecursion P (from_prefix count entry prefix)
each_first P count entry prefix always =
    each-flat_map P (λ first. map (derivation_of entry prefix first) (choices count))
    (choices count)
    (each-always
    (λ first. AllByRecursion P (map (derivation_of entry prefix first) (choices count)))
    (λ first. each_second P count entry prefix first (always first)) (choices count))

each_from : (P : Derivation → Type 0) (count entry : ℕ)
    → ((prefix first second : Option ℕ) → P (derivation_of entry prefix first second))
    → AllByRecursion P (all_from count entry)
each_from P count entry always =
    each-flat_map P (from_prefix count entry) (choices count)
    (each-always (λ prefix. AllByRecursion P (from_prefix count entry prefix))
    (λ prefix. each_first P count entry prefix (always prefix)) (choices count))

prefix-sorted : (count entry : ℕ) (prefix : Option ℕ)
    → IsStrictlySortedBy derivation_cmp (from_prefix count entry prefix)
prefix-sorted count entry prefix =
    sorted-flat_map (option_cmp nat_cmp) derivation_cmp
    (λ first. map (derivation_of entry prefix first) (choices count))
    (λ first. sorted-map (option_cmp nat_cmp) derivation_cmp (derivation_of entry prefix first)
    (by_second entry prefix first) (choices count) (choices-sorted count))
    (λ first first' before. each_second
    (λ d. AllByRecursion (λ e. derivation_cmp d e ≡ Less)
    (map (derivation_of entry prefix first') (choices count))) count entry prefix first
    (λ second. each_second (λ e. derivation_cmp (derivation_of entry prefix first second) e ≡ Less)
    count entry prefix first'
    (λ second'. by_first entry prefix first first' second second' before)))
    (choices count) (choices-sorted count)

entry-sorted : (count entry : ℕ) → IsStrictlySortedBy derivation_cmp (all_from count entry)
entry-sorted count entry =
    sorted-flat_map (option_cmp nat_cmp) derivation_cmp (from_prefix count entry)
    (prefix-sorted count entry)
    (λ prefix prefix' before.
    each_first (λ d. AllByRecursion (λ e. derivation_cmp d e ≡ Less)
    (from_prefix count entry prefix')) count entry prefix
    (λ first second.
    each_first (λ e. derivation_cmp (derivation_of entry prefix first second) e ≡ Less) count
    entry prefix'
    (λ first' second'. by_prefix entry prefix prefix' first first' second second' before)))
    (choices count) (choices-sorted count)

all-sorted : (lexicon : Lexicon) → IsStrictlySortedBy derivation_cmp (all_derivations lexicon)
all-sorted lexicon =
    let count = length lexicon.affixes.rules in
    sorted-flat_map nat_cmp derivation_cmp (all_from count) (entry-sorted count)
    (λ entry entry' before.
    each_from (λ d. AllByRecursion (λ e. derivation_cmp d e ≡ Less) (all_from count entry'))
    count entry
    (λ prefix first second.
    each_from (λ e. derivation_cmp (derivation_of entry prefix first second) e ≡ Less) count
    entry'
    (λ prefix' first' second'. then-less (nat_cmp entry entry')
    (ordering_then (option_cmp nat_cmp prefix prefix') (later first second first' second'))
    before)))
    (range_with_len 0 (length lexicon.entries)) (range-rises 0 (length lexicon.entries))

pub derivations-rise : (lexicon : Lexicon) (word : List ℕ)
    → AreDerivationsInOrder (derivations_of lexicon word)
unfolding derivations_of
derivations-rise lexicon word =
    IsStrictlySortedBy-filter derivation_cmp (derives lexicon word) (all_derivations lexicon)
    (all-sorted lexicon)
