-- The places at all endings of a word, or at all its fronts, are those of the rules that fit it.
use Rattle.std.proofs.Common.{◌≡◌, ◌∙◌, refl, sym, ap, ap₂, subst, ℕ, zero, suc, ◌+◌, ◌-◌, ◌≤◌, min}
use Rattle.std.proofs.Common.{Bool, true, false, ◌&&◌, ◌||◌, List, [], ◌∷◌, ◌++◌, append-nil}
use Rattle.std.proofs.Common.{length, take, drop, length-take, length-drop, take_all, nat_eq}
use Rattle.std.proofs.Common.{nat_lt, IsPermutation, IsSorted, nat_cmp, arith}
use Rattle.std.specs.Cmp.Lexicographic.{pointwise}
use Rattle.std.specs.List.{flat_map, range_with_len, starts_with, ends_with}
use Rattle.std.proofs.lemmas.Bool.{and_parts, and_from, eqb-true, eq-eqb, lt-ltb, le-ltb, ne_eqb}
use Rattle.std.proofs.lemmas.Bool.{ltb-true}
use Rattle.std.proofs.lemmas.Bool.Decides.{nat_tests}
use Rattle.std.proofs.lemmas.List.Concat.{flat_map-append}
use Rattle.std.proofs.lemmas.List.Sorted.{IsPermutation-refl, IsPermutation-append}
use Rattle.std.proofs.lemmas.List.Sorted.{IsPermutation-append_left, IsPermutation-trans}
use Rattle.std.proofs.lemmas.Slice.Eq.{bytes_eq-Decides}
use Rattle.spell_types.specs.declared.rules.Rule.{Rule}
use Rattle.spell_types.specs.declared.rules.Side.{Side}
use Rattle.spell_types.specs.declared.rules.Side.TheVariants.{Prefix, Suffix}
use Rattle.spell_types.specs.Derivations.{is_same_side}
use Rattle.std.specs.Cmp.{both_ways}
use Rattle.affix_tables.specs.declared.SideTable.{SideTable}
use Rattle.spell_types.specs.lists.Laws.{range_more}
use Rattle.affix_tables.specs.Places.{adds_on, places_where, suffix_places, prefix_places}
use Rattle.affix_tables.specs.Tables.{groups_at, all_places, IsTable, endings_below, fronts_below}
use Rattle.affix_tables.specs.Tables.{front_places, ending_places}
use Rattle.affix_tables.proofs.OrderLemmas.{sorted-same}
use Rattle.affix_tables.proofs.PlaceLemmas.{places-same, places-none, places-split, places-rise}

flat_map_more : (f : ℕ → List ℕ) (count : ℕ) → flat_map f (range_with_len 0 (count + 1))
    ≡ flat_map f (range_with_len 0 count) ++ f count
flat_map_more f count =
    ap (flat_map f) (range_more count) ∙ flat_map-append f (range_with_len 0 count) (count ∷ [])
    ∙ ap (λ ys. flat_map f (range_with_len 0 count) ++ ys) (append-nil (f count))

flat_map_moved : (f g : ℕ → List ℕ) → ((x : ℕ) → IsPermutation (f x) (g x)) → (xs : List ℕ)
    → IsPermutation (flat_map f xs) (flat_map g xs)
flat_map_moved f g moved [] = IsPermutation-refl []
flat_map_moved f g moved (x ∷ xs) =
    IsPermutation-append (f x) (g x) (flat_map f xs) (flat_map g xs) (moved x)
    (flat_map_moved f g moved xs)

-- the places of all groups of a text
abbrev places_of : SideTable → List ℕ → List ℕ
places_of table text = all_places (groups_at table.by_text.entries text)

-- ---- tests
split-apart : (s f a b : Bool) → (a ≡ true → b ≡ false) → (s && (f && a)) ≡ true
    → (s && (f && b)) ≡ false
split-apart true true a b apart holds = apart holds
split-apart true false a b apart holds = refl
split-apart false f a b apart holds = refl

split-either : (s f a b c : Bool) → c ≡ (a || b)
    → (s && (f && c)) ≡ ((s && (f && a)) || (s && (f && b)))
split-either true true a b c either = either
split-either true false a b c either = refl
split-either false f a b c either = refl

below-apart : (n count : ℕ) → nat_lt n count ≡ true → nat_eq n count ≡ false
below-apart n count below = ne_eqb n count (λ same. omega (arith, same, ltb-true n count below))

below-either : (n count : ℕ) → nat_lt n (count + 1) ≡ (nat_lt n count || nat_eq n count)
below-either n count = grind (arith, nat_tests)

-- what is cut off at one end of a word: its text of each length, and whether a text stands there
record IsEnd (size : ℕ) (text : ℕ → List ℕ) (fits : List ℕ → Bool) : Type 0 where
  cut : (count : ℕ) (add : List ℕ) → count ≤ size → pointwise nat_eq (text count) add
      ≡ (fits add && nat_eq (length add) count)
  within : (add : List ℕ) → fits add ≡ true → length add ≤ size

module _ (side : Side) (size : ℕ) (text : ℕ → List ℕ) (fits : List ℕ → Bool)
    (end : IsEnd size text fits) (rules : List Rule) where
  abbrev shorter : ℕ → List ℕ → Bool
  shorter count add = fits add && nat_lt (length add) count

  abbrev found_at : ℕ → List ℕ
  found_at count = places_where (adds_on side (pointwise nat_eq (text count))) rules

  one-more : (count : ℕ) → count ≤ size
      → IsPermutation (places_where (adds_on side (shorter count)) rules ++ found_at count)
      (places_where (adds_on side (shorter (count + 1))) rules)
  one-more count within =
      places-split (adds_on side (shorter count)) (adds_on side (pointwise nat_eq (text count)))
      (adds_on side (shorter (count + 1))) rules
      (λ rule holds.
      ap (λ b. is_same_side side rule.side && b) (end.cut count rule.add within)
      ∙ split-apart (is_same_side side rule.side) (fits rule.add) (nat_lt (length rule.add) count)
      (nat_eq (length rule.add) count) (below-apart (length rule.add) count) holds)
      (λ rule.
      split-either (is_same_side side rule.side) (fits rule.add) (nat_lt (length rule.add) count)
      (nat_eq (length rule.add) count) (nat_lt (length rule.add) (count + 1))
      (below-either (length rule.add) count)
      ∙ ap (λ b. adds_on side (shorter count) rule || (is_same_side side rule.side && b))
      (sym (end.cut count rule.add within)))

  none-shorter : places_where (adds_on side (shorter 0)) rules ≡ []
  none-shorter =
      places-none (adds_on side (shorter 0)) rules
      (λ rule. by (is_same_side side rule.side) (fits rule.add) (nat_lt (length rule.add) 0)
      (le-ltb (length rule.add) 0 (omega arith)))
    where
      by : (s f a : Bool) → a ≡ false → (s && (f && a)) ≡ false
      by true true a is = is
      by true false a is = refl
      by false f a is = refl

  abbrev Gathers : ℕ → Type 0
  Gathers count =
      IsPermutation (flat_map found_at (range_with_len 0 count))
      (places_where (adds_on side (shorter count)) rules)

  gathered : (count : ℕ) → count ≤ size + 1 → Gathers count
  gathered zero within =
      subst (λ places. IsPermutation [] places) (sym none-shorter) (IsPermutation-refl [])
  gathered (suc count) within = subst Gathers next
      (subst (λ found.
      IsPermutation found (places_where (adds_on side (shorter (count + 1))) rules))
      (sym (flat_map_more found_at count))
      (IsPermutation-trans (flat_map found_at (range_with_len 0 count) ++ found_at count)
      (places_where (adds_on side (shorter count)) rules ++ found_at count)
      (places_where (adds_on side (shorter (count + 1))) rules)
      (IsPermutation-append_left (found_at count) (flat_map found_at (range_with_len 0 count))
      (places_where (adds_on side (shorter count)) rules)
      (gathered count (omega (arith, within))))
      (one-more count (omega (arith, within)))))
    where
      next : count + 1 ≡ suc count
      next = omega arith

  all-shorter : (table : SideTable) → IsTable rules side table
      → places_where (adds_on side (shorter (min table.longest size + 1))) rules
      ≡ places_where (adds_on side fits) rules
  all-shorter table holds =
      places-same (adds_on side (shorter (min table.longest size + 1))) (adds_on side fits) rules
      (λ place rule at.
      by (is_same_side side rule.side) (fits rule.add)
      (nat_lt (length rule.add) (min table.longest size + 1))
      (λ on fit. lt-ltb (length rule.add) (min table.longest size + 1)
      (omega (arith, holds.bounded place rule at on, end.within rule.add fit))))
    where
      by : (s f a : Bool) → (s ≡ true → f ≡ true → a ≡ true) → (s && (f && a)) ≡ (s && f)
      by true true a is = is refl refl
      by true false a is = refl
      by false f a is = refl

  all-gathered : (table : SideTable) → IsTable rules side table
      → IsPermutation
      (flat_map (λ count. places_of table (text count))
      (range_with_len 0 (min table.longest size + 1))) (places_where (adds_on side fits) rules)
  all-gathered table holds =
      let limit = min table.longest size + 1 in
      IsPermutation-trans
      (flat_map (λ count. places_of table (text count)) (range_with_len 0 limit))
      (flat_map found_at (range_with_len 0 limit)) (places_where (adds_on side fits) rules)
      (flat_map_moved (λ count. places_of table (text count)) found_at
      (λ count. holds.at_text (text count)) (range_with_len 0 limit))
      (subst (λ places. IsPermutation (flat_map found_at (range_with_len 0 limit)) places)
      (all-shorter table holds)
      (gathered limit (omega arith)))

-- ---- the two ends of a word
the_end : (word : List ℕ) → IsEnd (length word) (λ count. drop (length word - count) word)
    (ends_with nat_eq word)
the_end word = record {
  cut = λ count add within. both_ways (pointwise nat_eq (drop (length word - count) word) add)
      (ends_with nat_eq word add && nat_eq (length add) count)
      (λ is.
      let same = (bytes_eq-Decides (drop (length word - count) word) add).0 is in
      let size : length add ≡ count =
      omega (arith, ap length same, length-drop (length word - count) word, within) in
      and_from (ends_with nat_eq word add) (nat_eq (length add) count)
      ((bytes_eq-Decides add (drop (length word - length add) word)).1
      (sym same ∙ ap (λ n. drop (length word - n) word) (sym size)))
      (eq-eqb (length add) count size))
      (λ is.
      let parts = and_parts (ends_with nat_eq word add) (nat_eq (length add) count) is in
      let size = eqb-true (length add) count parts.1 in
      (bytes_eq-Decides (drop (length word - count) word) add).1
      (ap (λ n. drop (length word - n) word) (sym size)
      ∙ sym ((bytes_eq-Decides add (drop (length word - length add) word)).0 parts.0)));
  within = λ add fit.
      omega (
        arith,
        ap length ((bytes_eq-Decides add (drop (length word - length add) word)).0 fit),
        length-drop (length word - length add) word,
      );
}

the_front : (word : List ℕ)
    → IsEnd (length word) (λ count. take count word) (starts_with nat_eq word)
the_front word = record {
  cut = λ count add within. both_ways (pointwise nat_eq (take count word) add)
      (starts_with nat_eq word add && nat_eq (length add) count)
      (λ is.
      let same = (bytes_eq-Decides (take count word) add).0 is in
      let size : length add ≡ count =
      omega (arith, ap length same, length-take count word, within) in
      and_from (starts_with nat_eq word add) (nat_eq (length add) count)
      ((bytes_eq-Decides add (take (length add) word)).1
      (sym same ∙ ap (λ n. take n word) (sym size)))
      (eq-eqb (length add) count size))
      (λ is.
      let parts = and_parts (starts_with nat_eq word add) (nat_eq (length add) count) is in
      let size = eqb-true (length add) count parts.1 in
      (bytes_eq-Decides (take count word) add).1
      (ap (λ n. take n word) (sym size)
      ∙ sym ((bytes_eq-Decides add (take (length add) word)).0 parts.0)));
  within = λ add fit.
      omega (
        arith,
        ap length ((bytes_eq-Decides add (take (length add) word)).0 fit),
        length-take (length add) word,
      );
}

-- ---- what the calls give
-- a word from a place on, as a slice to its end has it
pub rest-whole : (word : List ℕ) (place : ℕ) → take (length word - place) (drop place word)
    ≡ drop place word
rest-whole word place =
    take_all (length word - place) (drop place word) (omega (arith, length-drop place word))

pub endings-more : (table : SideTable) (word : List ℕ) (count : ℕ) (text found : List ℕ)
    → text ≡ drop (length word - count) word → found ≡ endings_below table word count
    → found ++ places_of table text ≡ endings_below table word (count + 1)
endings-more table word count text found is before =
    ap₂ (λ ys zs. ys ++ zs) before (ap (places_of table) is)
    ∙ sym (flat_map_more (λ n. places_of table (drop (length word - n) word)) count)

pub fronts-more : (table : SideTable) (word : List ℕ) (count : ℕ) (text found : List ℕ)
    → text ≡ take count word → found ≡ fronts_below table word count
    → found ++ places_of table text ≡ fronts_below table word (count + 1)
fronts-more table word count text found is before =
    ap₂ (λ ys zs. ys ++ zs) before (ap (places_of table) is)
    ∙ sym (flat_map_more (λ n. places_of table (take n word)) count)

pub suffixes-found : (rules : List Rule) (table : SideTable) (word sorted : List ℕ)
    → IsTable rules Suffix table → IsPermutation (ending_places table word) sorted
    → IsSorted nat_cmp sorted → sorted ≡ suffix_places rules word
unfolding suffix_places
suffixes-found rules table word sorted holds moved in_order =
    sorted-same (ending_places table word) sorted
    (places_where (adds_on Suffix (ends_with nat_eq word)) rules)
    (all-gathered Suffix (length word) (λ count. drop (length word - count) word)
    (ends_with nat_eq word) (the_end word) rules table holds)
    moved in_order (places-rise (adds_on Suffix (ends_with nat_eq word)) rules)

pub prefixes-found : (rules : List Rule) (table : SideTable) (word sorted : List ℕ)
    → IsTable rules Prefix table → IsPermutation (front_places table word) sorted
    → IsSorted nat_cmp sorted → sorted ≡ prefix_places rules word
unfolding prefix_places
prefixes-found rules table word sorted holds moved in_order =
    sorted-same (front_places table word) sorted
    (places_where (adds_on Prefix (starts_with nat_eq word)) rules)
    (all-gathered Prefix (length word) (λ count. take count word) (starts_with nat_eq word)
    (the_front word) rules table holds)
    moved in_order (places-rise (adds_on Prefix (starts_with nat_eq word)) rules)
