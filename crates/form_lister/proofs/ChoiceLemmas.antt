-- The rows of rules, and those that flags allow.
use Rattle.std.proofs.Common.{◌≡◌, ◌∙◌, ◌⊎◌, inl, inr, refl, sym, ap, subst, ℕ, ◌+◌, ◌-◌, ◌<◌}
use Rattle.std.proofs.Common.{◌≤◌, ◌==◌, ◌||◌, Bool, true, false, true≢false, List, [], ◌∷◌, ◌++◌}
use Rattle.std.proofs.Common.{length, map, take, drop, get_or, slice_get, Contains, Option, None}
use Rattle.std.proofs.Common.{Some, ltb, leb, arith, get_or-drop, get_or-take, length-take}
use Rattle.std.proofs.Common.{length-drop, if◌then◌else◌, Result, Ok, Err, IfOk}
use Rattle.std.specs.List.Sorted.{IsNonDecreasingBy, IsPartitionPoint, IsPermutation}
use Rattle.std.specs.Option.{option_and_then}
use Rattle.std.proofs.lemmas.Bool.{or_cases}
use Rattle.std.proofs.lemmas.Bool.Decides.{nat_tests}
use Rattle.std.proofs.lemmas.List.{take_more}
use Rattle.std.proofs.lemmas.List.Elements.{Contains-append_left, Contains-append_right}
use Rattle.std.proofs.lemmas.List.Elements.{Contains-push}
use Rattle.std.proofs.lemmas.List.Folds.{list_any-append}
use Rattle.std.proofs.lemmas.List.Sorted.{Contains-permutation}
use Rattle.std.proofs.lemmas.Option.{same_Some, slice_get_within}
use Rattle.spell_types.specs.lists.Laws.{contains-map}
use Rattle.spell_types.specs.declared.flags.Flag.{Flag}
use Rattle.spell_types.specs.declared.rules.Rule.{Rule}
use Rattle.spell_types.specs.declared.rules.Side.{Side}
use Rattle.spell_types.specs.Derivations.{is_same_side, rule_on}
use Rattle.spell_types.specs.Flags.{has}
use Rattle.form_lister.specs.Choices.{has_number, HasRowsOf, HasPlaces, HasRules, AreRowsOfRules}
use Rattle.form_lister.specs.Choices.{HasAllowed, HasChoices}
use Rattle.form_lister.specs.declared.choices.RuleRow.{RuleRow}

-- ---- the rows of rules
abbrev row_of : Rule → ℕ → RuleRow
row_of rule place = record { flag = rule.flag.0; place = place }

-- each rule of the side before a place has its row
abbrev pub HasRulesBelow : List Rule → Side → ℕ → List RuleRow → Type 0
HasRulesBelow rules side count rows = (place : ℕ) (rule : Rule) → place < count
    → rule_on rules side place ≡ Some rule → Contains rows (row_of rule place)

-- a rule that is found at a place of a side is that of the place, and of the side
pub on-side : (side : Side) (found : Option Rule) (rule : Rule)
    → option_and_then (λ rule. if is_same_side side rule.side then Some rule else None) found
    ≡ Some rule
    → (found ≡ Some rule) × (is_same_side side rule.side ≡ true)
on-side side None rule is = absurd (cc)
on-side side (Some item) rule is = by (is_same_side side item.side) refl is
  where
    by : (b : Bool) → is_same_side side item.side ≡ b → (if b then Some item else None) ≡ Some rule
        → (Some item ≡ Some rule) × (is_same_side side rule.side ≡ true)
    by true same one = (
      one,
      sym (ap (λ r. is_same_side side r.side) (same_Some item rule one)) ∙ same,
    )
    by false same one = absurd (cc)

pub earlier : (place count : ℕ) → place < count + 1 → (place < count) ⊎ (place ≡ count)
earlier place count below = by (ltb place count) refl
  where
    by : (b : Bool) → ltb place count ≡ b → (place < count) ⊎ (place ≡ count)
    by true is = inl (grind (arith, nat_tests, is))
    by false is = inr (grind (arith, nat_tests, is, below))

-- one rule more has its row, or is of the other side
pub rules-more : (rules : List Rule) (side : Side) (count : ℕ) (item : Rule) (before now : List RuleRow)
    → slice_get rules count ≡ Some item → HasRulesBelow rules side count before
    → ((row : RuleRow) → Contains before row → Contains now row)
    → (is_same_side side item.side ≡ true → Contains now (row_of item count))
    → HasRulesBelow rules side (count + 1) now
rules-more rules side count item before now at has kept new place rule below on =
    by (earlier place count below)
  where
    by : (place < count) ⊎ (place ≡ count) → Contains now (row_of rule place)
    by (inl lower) = kept (row_of rule place) (has place rule lower on)
    by (inr is) =
        let found = on-side side (slice_get rules place) rule on in
        let same : item ≡ rule =
        same_Some item rule (sym at ∙ ap (slice_get rules) (sym is) ∙ found.0) in
        subst (λ p. Contains now (row_of rule p)) (sym is)
        (subst (λ r. Contains now (row_of r count)) same
        (new (ap (λ r. is_same_side side r.side) same ∙ found.1)))

-- once there are no more
pub all-rules : (rules : List Rule) (side : Side) (rows : List RuleRow)
    → HasRulesBelow rules side (length rules) rows → HasRules rules side rows
all-rules rules side rows has place rule on =
    has place rule
    (slice_get_within rules place rule (on-side side (slice_get rules place) rule on).0) on

-- ---- rows with a flag
-- what stands between the places found by halves
pub found-rows : (rows : List RuleRow) (flag start end : ℕ)
    → IsPartitionPoint (λ (row : RuleRow). ltb row.flag flag ≡ true) (λ row. ltb row.flag flag ≡ false)
    rows start
    → IsPartitionPoint (λ (row : RuleRow). leb row.flag flag ≡ true) (λ row. leb row.flag flag ≡ false)
    (drop start rows) end
    → HasRowsOf rows flag (take end (drop start rows))
found-rows rows flag start end first last row (k, within, at) is =
    let rest = drop start rows in
    let low : start ≤ k = above (leb start k) refl in
    let there : start + (k - start) ≡ k = omega (arith, low) in
    let inside : k - start < length rest = omega (arith, within, low, length-drop start rows) in
    let here : get_or rest (k - start) row ≡ row =
    get_or-drop start rows (k - start) row ∙ ap (λ i. get_or rows i row) there ∙ at in
    let high : k - start < end = below (ltb (k - start) end) refl inside here in (
      k - start,
      omega (arith, inside, high, length-take end rest),
      get_or-take end rest (k - start) row high ∙ here,
    )
  where
    above : (b : Bool) → leb start k ≡ b → start ≤ k
    above true is_low = grind (arith, nat_tests, is_low)
    above false is_low =
        let lower : k < start = grind (arith, nat_tests, is_low) in
        let less : ltb flag flag ≡ true =
        sym (ap (λ n. ltb n flag) (ap (λ (r : RuleRow). r.flag) at ∙ is))
        ∙ first.0 k row (omega arith) lower in absurd (grind (arith, nat_tests, less))

    below : (b : Bool) → ltb (k - start) end ≡ b → k - start < length (drop start rows)
        → get_or (drop start rows) (k - start) row ≡ row → k - start < end
    below true is_high inside here = grind (arith, nat_tests, is_high)
    below false is_high inside here =
        let higher : end ≤ k - start = grind (arith, nat_tests, is_high) in
        let more : leb flag flag ≡ false =
        sym (ap (λ n. leb n flag) (ap (λ (r : RuleRow). r.flag) here ∙ is))
        ∙ last.1 (k - start) row higher inside in absurd (grind (arith, nat_tests, more))

-- ---- places of rows with one of some flags
abbrev named : RuleRow → Option ℕ
named row = Some row.place

no-flag : (rows : List RuleRow) (places : List (Option ℕ)) → HasPlaces rows [] places
no-flag rows places row inside has = absurd (true≢false (sym has))

-- the places of the rows with one flag more
pub places-more : (rows found : List RuleRow) (flags : List Flag) (index : ℕ) (flag d : Flag)
    (before now : List (Option ℕ))
    → index < length flags → flag ≡ get_or flags index d → HasPlaces rows (take index flags) before
    → HasRowsOf rows flag.0 found → now ≡ before ++ map named found
    → HasPlaces rows (take (index + 1) flags) now
places-more rows found flags index flag d before now within is has of added row inside with =
    subst (λ xs. Contains xs (named row)) (sym added)
    (by (or_cases (has_number (take index flags) row.flag)
    ((flag.0 == row.flag) || false)
    (sym (list_any-append (λ (held : Flag). held.0 == row.flag) (take index flags) (flag ∷ []))
    ∙ ap (λ fs. has_number fs row.flag) (sym whole) ∙ with)))
  where
    whole : take (index + 1) flags ≡ take index flags ++ flag ∷ []
    whole = take_more flags index d within ∙ ap (λ f. take index flags ++ f ∷ []) (sym is)

    own : ((flag.0 == row.flag) || false) ≡ true → row.flag ≡ flag.0
    own same = grind (arith, nat_tests, same)

    by : (has_number (take index flags) row.flag ≡ true) ⊎ (((flag.0 == row.flag) || false) ≡ true)
        → Contains (before ++ map named found) (named row)
    by (inl earlier) = Contains-append_left before (map named found) (named row)
        (has row inside earlier)
    by (inr same) = Contains-append_right before (map named found) (named row)
        (contains-map named found row (of row inside (own same)))

-- the places of rows that were sorted
pub rows-moved : (rules : List Rule) (side : Side) (before now : List RuleRow)
    → IsPermutation before now → HasRules rules side before → HasRules rules side now
rows-moved rules side before now moved has place rule on =
    Contains-permutation before now (row_of rule place) moved (has place rule on)

-- ---- the rules that flags allow
pub rules-allowed : (rules : List Rule) (side : Side) (rows : List RuleRow) (flags : List Flag)
    (places : List (Option ℕ))
    → AreRowsOfRules rules side rows
    → (IsNonDecreasingBy (λ (row : RuleRow). row.flag) rows → HasPlaces rows flags places)
    → HasAllowed rules side flags places
rules-allowed rules side rows flags places are has place rule on allowed =
    has are.rising (row_of rule place) (are.has place rule on) allowed

pub choices-allowed : (rules : List Rule) (side : Side) (flags : List Flag)
    (places now : List (Option ℕ))
    → HasAllowed rules side flags places → now ≡ places ++ None ∷ []
    → HasChoices rules side flags now
choices-allowed rules side flags places now has added = record {
  none = subst (λ xs. Contains xs None) (sym added) (Contains-push places None);
  allowed = λ place rule on allowed.
      subst (λ xs. Contains xs (Some place)) (sym added)
      (Contains-append_left places (None ∷ []) (Some place) (has place rule on allowed));
}

-- an answer with the places of rows is one with the rules that are allowed
pub answer-allowed : {V E : Type 0} (items : V → List (Option ℕ)) (result : Result V E)
    (rules : List Rule) (side : Side) (rows : List RuleRow) (flags : List Flag)
    → AreRowsOfRules rules side rows
    → (IsNonDecreasingBy (λ (row : RuleRow). row.flag) rows
    → IfOk result (λ allowed. HasPlaces rows flags (items allowed)))
    → IfOk result (λ allowed. HasAllowed rules side flags (items allowed))
answer-allowed items (Ok allowed) rules side rows flags are has =
    rules-allowed rules side rows flags (items allowed) are has
answer-allowed items (Err why) rules side rows flags are has = tt

-- the same of equal flags and places
pub same-allowed : (rules : List Rule) (side : Side) (flags others : List Flag)
    (places now : List (Option ℕ))
    → flags ≡ others → now ≡ places → HasAllowed rules side flags places
    → HasAllowed rules side others now
same-allowed rules side flags others places now same are has =
    subst (λ xs. HasAllowed rules side others xs) (sym are)
    (subst (λ fs. HasAllowed rules side fs places) same has)

pub same-choices : (rules : List Rule) (side : Side) (flags others : List Flag)
    (places now : List (Option ℕ))
    → flags ≡ others → now ≡ places → HasChoices rules side flags places
    → HasChoices rules side others now
same-choices rules side flags others places now same are has =
    subst (λ xs. HasChoices rules side others xs) (sym are)
    (subst (λ fs. HasChoices rules side fs places) same has)
