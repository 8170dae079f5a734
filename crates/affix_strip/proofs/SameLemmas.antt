-- Lists of derivations that rise and have the same members are the same; and a sort with the
-- removal of repeats gives such a list.
use Rattle.std.proofs.Common.{◌≡◌, ◌∙◌, ◌↔◌, ◌⊎◌, inl, inr, refl, sym, ap, ap₂, subst, ℕ, zero, suc}
use Rattle.std.proofs.Common.{Bool, true, ◌&&◌, List, [], ◌∷◌, nat_eq, Contains, Option, None, Some}
use Rattle.std.proofs.Common.{Ordering, Less, Equal, Greater, arith}
use Rattle.std.specs.Cmp.{IsTotalOrder, IsEquivalence}
use Rattle.std.specs.Cmp.Lexicographic.{options_total}
use Rattle.std.specs.List.{AllByRecursion, dedup}
use Rattle.std.specs.List.Sorted.{IsStrictlySortedBy, IsPermutation, IsSorted}
use Rattle.std.specs.Option.{option_cmp, option_eq}
use Rattle.std.specs.Ordering.{ordering_then, nat_cmp, eq_by_cmp, is_eq}
use Rattle.std.proofs.lemmas.Bool.{and_parts, eqb-true}
use Rattle.std.proofs.lemmas.Bool.Decides.{nat_tests}
use Rattle.std.proofs.lemmas.Cmp.{nat_cmp_total, on_total, then_total, tied_itself, eq_by_cmp_equiv}
use Rattle.std.proofs.lemmas.List.Elements.{All-contains, All-from_recursion}
use Rattle.std.proofs.lemmas.List.Kept.{IsStrictlySortedBy-dedup, Contains-dedup}
use Rattle.std.proofs.lemmas.List.Kept.{Contains-from_dedup}
use Rattle.std.proofs.lemmas.List.Sorted.{Contains-permutation, IsPermutation-sym}
use Rattle.spell_types.specs.declared.derivations.Derivation.{Derivation}
use Rattle.spell_types.specs.declared.Lexicon.{Lexicon}
use Rattle.spell_types.specs.Derivations.{form_of, derivation_of}
use Rattle.spell_types.specs.Licences.{is_licensed}
use Rattle.affix_strip.specs.Found.{derivation_cmp, derivations_of, AreDerivationsInOrder}
use Rattle.affix_strip.proofs.MemberLemmas.{derivations-members}
use Rattle.affix_strip.proofs.OrderLemmas.{derivations-rise}

pub derivations-total : IsTotalOrder derivation_cmp
derivations-total =
    let places = options_total nat_cmp_total in
    let total = then_total (on_total (λ (d : Derivation). d.entry) nat_cmp_total)
    (then_total (on_total (λ (d : Derivation). d.prefix) places)
    (then_total (on_total (λ (d : Derivation). d.first) places)
    (on_total (λ (d : Derivation). d.second) places))) in
    record { antisymm = total.antisymm; trans = total.trans; congr = total.congr }

-- ---- strictly rising lists
module _ {X : Type 0} (c : X → X → Ordering) (o : IsTotalOrder c) where
  irreflexive : (x : X) → c x x ≡ Less → ⊥
  irreflexive x less = absurd (cc (tied_itself o x, less))

  asymmetric : (x y : X) → c x y ≡ Less → c y x ≡ Less → ⊥
  asymmetric x y one two = irreflexive x (o.trans x y x one two)

  above : (x y : X) (xs : List X) → AllByRecursion (λ z. c x z ≡ Less) xs → Contains xs y
      → c x y ≡ Less
  above x y xs each inside =
      All-contains (λ z. c x z ≡ Less) xs y (All-from_recursion (λ z. c x z ≡ Less) xs each) inside

  -- an item of a list that is not its head stands in the rest
  head-or : (x y : X) (xs : List X) → Contains (x ∷ xs) y → (x ≡ y) ⊎ Contains xs y
  head-or x y xs (zero, within, at) = inl at
  head-or x y xs (suc k, within, at) = inr (k, omega (arith, within), at)

  in-rest : (x y : X) (xs : List X) → Contains xs y → Contains (x ∷ xs) y
  in-rest x y xs (k, within, at) = (suc k, omega (arith, within), at)

  in-head : (x : X) (xs : List X) → Contains (x ∷ xs) x
  in-head x xs = (0, omega arith, refl)

  none-inside : (x : X) → Contains [] x → ⊥
  none-inside x (k, within, at) = omega (arith, within)

  pub same-rising : (xs ys : List X) → IsStrictlySortedBy c xs → IsStrictlySortedBy c ys
      → ((x : X) → Contains xs x ↔ Contains ys x) → xs ≡ ys
  unfolding IsStrictlySortedBy
  same-rising [] [] up up' same = refl
  same-rising [] (y ∷ ys) up up' same = absurd (none-inside y ((same y).1 (in-head y ys)))
  same-rising (x ∷ xs) [] up up' same = absurd (none-inside x ((same x).0 (in-head x xs)))
  same-rising (x ∷ xs) (y ∷ ys) up up' same =
      ap₂ (λ item more. item ∷ more) heads (same-rising xs ys up.1 up'.1 (λ z. (
        λ inside. left z inside (head-or y z ys ((same z).0 (in-rest x z xs inside))),
        λ inside. right z inside (head-or x z xs ((same z).1 (in-rest y z ys inside))),
      )))
    where
      apart : Contains xs y → Contains ys x → x ≡ y
      apart one two = absurd (asymmetric x y (above x y xs up.0 one) (above y x ys up'.0 two))

      second : Contains xs y → (y ≡ x) ⊎ Contains ys x → x ≡ y
      second one (inl is) = sym is
      second one (inr two) = apart one two

      first : (x ≡ y) ⊎ Contains xs y → x ≡ y
      first (inl is) = is
      first (inr one) = second one (head-or y x ys ((same x).0 (in-head x xs)))

      heads : x ≡ y
      heads = first (head-or x y xs ((same y).1 (in-head y ys)))

      left : (z : X) → Contains xs z → (y ≡ z) ⊎ Contains ys z → Contains ys z
      left z inside (inr is) = is
      left z inside (inl is) =
          absurd (irreflexive x
          (subst (λ w. c x w ≡ Less) (sym (heads ∙ is)) (above x z xs up.0 inside)))

      right : (z : X) → Contains ys z → (x ≡ z) ⊎ Contains xs z → Contains xs z
      right z inside (inr is) = is
      right z inside (inl is) =
          absurd (irreflexive y
          (subst (λ w. c y w ≡ Less) (sym (sym heads ∙ is)) (above y z ys up'.0 inside)))

-- ---- a sort, and repeats removed
pub in-order : (E : Derivation → Derivation → Bool)
    → ((x y : Derivation) → E x y ≡ eq_by_cmp derivation_cmp x y)
    → ((x y : Derivation) → E x y ≡ true → x ≡ y)
    → (found moved kept : List Derivation) → IsPermutation found moved
    → IsSorted derivation_cmp moved → kept ≡ dedup E moved
    → AreDerivationsInOrder kept × ((d : Derivation) → Contains kept d ↔ Contains found d)
in-order E ties exact found moved kept permutation sorted is = (
  subst AreDerivationsInOrder (sym is) (IsStrictlySortedBy-dedup derivations-total ties moved sorted),
  λ d. (
    λ inside. Contains-permutation moved found d (IsPermutation-sym found moved permutation)
        (Contains-from_dedup E moved d (subst (λ xs. Contains xs d) is inside)),
    λ inside. subst (λ xs. Contains xs d) (sym is)
        (Contains-dedup equivalence exact moved d
        (Contains-permutation found moved d permutation inside)),
  ),
)
  where
    alike : IsEquivalence (eq_by_cmp derivation_cmp)
    alike = eq_by_cmp_equiv derivations-total

    equivalence : IsEquivalence E
    equivalence = record {
      refl = λ x. ties x x ∙ alike.refl x;
      symm = λ x y. ties x y ∙ alike.symm x y ∙ sym (ties y x);
      congr = λ x y z same. ties x z ∙ alike.congr x y z (sym (ties x y) ∙ same) ∙ sym (ties y z);
    }

-- the same number, place and derivation
same-number : (x y : ℕ) → nat_eq x y ≡ is_eq (nat_cmp x y)
same-number x y = grind (arith, nat_tests)

same-place : (x y : Option ℕ) → option_eq nat_eq x y ≡ is_eq (option_cmp nat_cmp x y)
same-place None None = refl
same-place None (Some y) = refl
same-place (Some x) None = refl
same-place (Some x) (Some y) = same-number x y

then-both : (a b : Ordering) → is_eq (ordering_then a b) ≡ (is_eq a && is_eq b)
then-both Less b = refl
then-both Equal b = refl
then-both Greater b = refl

abbrev same_derivation : Derivation → Derivation → Bool
same_derivation x y =
    nat_eq x.entry y.entry
    && (option_eq nat_eq x.prefix y.prefix
    && (option_eq nat_eq x.first y.first && option_eq nat_eq x.second y.second))

pub same-ties : (x y : Derivation) → same_derivation x y ≡ eq_by_cmp derivation_cmp x y
same-ties x y =
    let prefix = option_cmp nat_cmp x.prefix y.prefix in
    let first = option_cmp nat_cmp x.first y.first in
    let second = option_cmp nat_cmp x.second y.second in
    ap₂ (λ a b. a && b) (same-number x.entry y.entry)
    (ap₂ (λ a b. a && b) (same-place x.prefix y.prefix)
    (ap₂ (λ a b. a && b) (same-place x.first y.first) (same-place x.second y.second)
    ∙ sym (then-both first second))
    ∙ sym (then-both prefix (ordering_then first second)))
    ∙ sym (then-both (nat_cmp x.entry y.entry) (ordering_then prefix (ordering_then first second)))

one-place : (x y : Option ℕ) → option_eq nat_eq x y ≡ true → x ≡ y
one-place None None same = refl
one-place None (Some y) same = absurd (cc)
one-place (Some x) None same = absurd (cc)
one-place (Some x) (Some y) same = ap (λ n. Some n) (eqb-true x y same)

pub same-is : (x y : Derivation) → same_derivation x y ≡ true → x ≡ y
same-is x y same =
    let one = and_parts (nat_eq x.entry y.entry)
    (option_eq nat_eq x.prefix y.prefix
    && (option_eq nat_eq x.first y.first && option_eq nat_eq x.second y.second)) same in
    let two = and_parts (option_eq nat_eq x.prefix y.prefix)
    (option_eq nat_eq x.first y.first && option_eq nat_eq x.second y.second) one.1 in
    let three =
    and_parts (option_eq nat_eq x.first y.first) (option_eq nat_eq x.second y.second)
    two.1 in
    ap (λ entry. derivation_of entry x.prefix x.first x.second) (eqb-true x.entry y.entry one.0)
    ∙ ap (λ prefix. derivation_of y.entry prefix x.first x.second)
    (one-place x.prefix y.prefix two.0)
    ∙ ap (λ first. derivation_of y.entry y.prefix first x.second)
    (one-place x.first y.first three.0)
    ∙ ap (derivation_of y.entry y.prefix y.first) (one-place x.second y.second three.1)

-- what has the members of all derivations, in order, is the list of all
pub same-derivations : (lexicon : Lexicon) (word : List ℕ) (found : List Derivation)
    → AreDerivationsInOrder found
    → ((d : Derivation) → Contains found d
    ↔ ((is_licensed lexicon d ≡ true) × (form_of lexicon d ≡ Some word)))
    → found ≡ derivations_of lexicon word
same-derivations lexicon word found order members =
    same-rising derivation_cmp derivations-total found (derivations_of lexicon word) order
    (derivations-rise lexicon word)
    (λ d. (
      λ inside. (derivations-members lexicon word d).1 ((members d).0 inside),
      λ inside. (members d).1 ((derivations-members lexicon word d).0 inside),
    ))
