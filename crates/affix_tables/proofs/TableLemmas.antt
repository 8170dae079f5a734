-- A table with one rule more.
use Rattle.std.proofs.Common.{◌≡◌, ◌∙◌, ◌⊎◌, inl, inr, sym, ap, subst, ℕ, ◌≤◌, max, true, false}
use Rattle.std.proofs.Common.{◌&&◌, List, [], ◌∷◌, ◌++◌, append-nil, length, nat_eq, slice_get}
use Rattle.std.proofs.Common.{Some, if◌then◌else◌, true≢false, IsPermutation, arith}
use Rattle.std.specs.Cmp.Lexicographic.{pointwise}
use Rattle.std.proofs.lemmas.List.Sorted.{IsPermutation-append_left, IsPermutation-refl}
use Rattle.std.proofs.lemmas.List.Sorted.{IsPermutation-trans}
use Rattle.spell_types.specs.declared.rules.Rule.{Rule}
use Rattle.spell_types.specs.declared.rules.Side.{Side}
use Rattle.spell_types.specs.Derivations.{is_same_side}
use Rattle.affix_tables.specs.declared.SideTable.{SideTable}
use Rattle.affix_tables.specs.Ends.{key_at, HasEnds, HasText, KeepsKeys}
use Rattle.affix_tables.specs.Places.{adds_on, exchanges, places_where}
use Rattle.affix_tables.specs.Tables.{places_at, groups_at, all_places, Puts, IsTable}
use Rattle.affix_tables.proofs.PlaceLemmas.{slice_get-more, places-more}

pub no_rules : (side : Side) (table : SideTable) → table.by_text.entries ≡ []
    → IsTable [] side table
no_rules side table empty = record {
  at_strip = λ text strip. ap (λ entries. places_at (groups_at entries text) strip) empty;
  at_text = λ text. subst (λ places. IsPermutation places [])
      (sym (ap (λ entries. all_places (groups_at entries text)) empty)) (IsPermutation-refl []);
  bounded = λ place rule at on. absurd (cc);
  ends = λ place rule at on. absurd (cc);
  texts = λ place rule at on. absurd (cc);
}

pub rule_of_side : (rules : List Rule) (side : Side) (rule : Rule) (old new : SideTable)
    → is_same_side side rule.side ≡ true
    → Puts old.by_text.entries new.by_text.entries rule.add rule.strip (length rules)
    → new.longest ≡ max old.longest (length rule.add) → HasEnds side rule.add new.ends
    → KeepsKeys old.ends new.ends → HasText side rule.add new.texts → KeepsKeys old.texts new.texts
    → IsTable rules side old → IsTable (rules ++ rule ∷ []) side new
rule_of_side rules side rule old new on put longest has keeps has-text keeps-texts was = record {
  at_strip = λ text strip.
      put.at_strip text strip
      ∙ ap (λ places. places
      ++ (if pointwise nat_eq text rule.add && pointwise nat_eq strip rule.strip
      then length rules ∷ [] else [])) (was.at_strip text strip)
      ∙ ap (λ b. places_where (exchanges side text strip) rules
      ++ (if b && (pointwise nat_eq text rule.add && pointwise nat_eq strip rule.strip)
      then length rules ∷ [] else [])) (sym on)
      ∙ sym (places-more (exchanges side text strip) rules rule);
  at_text = λ text.
      subst (λ places. IsPermutation (all_places (groups_at new.by_text.entries text)) places)
      (ap (λ b. places_where (adds_on side (pointwise nat_eq text)) rules
      ++ (if b && pointwise nat_eq text rule.add then length rules ∷ [] else [])) (sym on)
      ∙ sym (places-more (adds_on side (pointwise nat_eq text)) rules rule))
      (IsPermutation-trans (all_places (groups_at new.by_text.entries text))
      (all_places (groups_at old.by_text.entries text) ++ last text)
      (places_where (adds_on side (pointwise nat_eq text)) rules ++ last text)
      (put.at_text text)
      (IsPermutation-append_left (last text) (all_places (groups_at old.by_text.entries text))
      (places_where (adds_on side (pointwise nat_eq text)) rules) (was.at_text text)));
  bounded = λ place other at other_on.
      by place other other_on (slice_get-more rules rule place other at);
  ends = λ place other at other_on. ended place other other_on
      (slice_get-more rules rule place other at);
  texts = λ place other at other_on. there place other other_on
      (slice_get-more rules rule place other at);
}
  where
    last : List ℕ → List ℕ
    last text = if pointwise nat_eq text rule.add then length rules ∷ [] else []

    by : (place : ℕ) (other : Rule) → is_same_side side other.side ≡ true
        → (slice_get rules place ≡ Some other) ⊎ (rule ≡ other) → length other.add ≤ new.longest
    by place other other_on (inl at) = omega (arith, was.bounded place other at other_on, longest)
    by place other other_on (inr is) = omega (arith, longest, ap (λ (r : Rule). length r.add) is)

    ended : (place : ℕ) (other : Rule) → is_same_side side other.side ≡ true
        → (slice_get rules place ≡ Some other) ⊎ (rule ≡ other) → HasEnds side other.add new.ends
    ended place other other_on (inl at) =
        λ count some within. keeps (key_at side other.add count)
        (was.ends place other at other_on count some within)
    ended place other other_on (inr is) = subst (λ (r : Rule). HasEnds side r.add new.ends) is has

    there : (place : ℕ) (other : Rule) → is_same_side side other.side ≡ true
        → (slice_get rules place ≡ Some other) ⊎ (rule ≡ other) → HasText side other.add new.texts
    there place other other_on (inl at) =
        keeps-texts (key_at side other.add (length other.add)) (was.texts place other at other_on)
    there place other other_on (inr is) =
        subst (λ (r : Rule). HasText side r.add new.texts) is has-text

pub rule_of_other_side : (rules : List Rule) (side : Side) (rule : Rule) (table : SideTable)
    → is_same_side side rule.side ≡ false → IsTable rules side table
    → IsTable (rules ++ rule ∷ []) side table
rule_of_other_side rules side rule table off was = record {
  at_strip = λ text strip.
      was.at_strip text strip
      ∙ sym (append-nil (places_where (exchanges side text strip) rules))
      ∙ ap (λ b. places_where (exchanges side text strip) rules
      ++ (if b && (pointwise nat_eq text rule.add && pointwise nat_eq strip rule.strip)
      then length rules ∷ [] else [])) (sym off)
      ∙ sym (places-more (exchanges side text strip) rules rule);
  at_text = λ text.
      subst (λ places. IsPermutation (all_places (groups_at table.by_text.entries text)) places)
      (sym (append-nil (places_where (adds_on side (pointwise nat_eq text)) rules))
      ∙ ap (λ b. places_where (adds_on side (pointwise nat_eq text)) rules
      ++ (if b && pointwise nat_eq text rule.add then length rules ∷ [] else [])) (sym off)
      ∙ sym (places-more (adds_on side (pointwise nat_eq text)) rules rule))
      (was.at_text text);
  bounded = λ place other at on. by place other on (slice_get-more rules rule place other at);
  ends = λ place other at on. ended place other on (slice_get-more rules rule place other at);
  texts = λ place other at on. there place other on (slice_get-more rules rule place other at);
}
  where
    ended : (place : ℕ) (other : Rule) → is_same_side side other.side ≡ true
        → (slice_get rules place ≡ Some other) ⊎ (rule ≡ other) → HasEnds side other.add table.ends
    ended place other on (inl at) = was.ends place other at on
    ended place other on (inr is) =
        absurd (true≢false (sym on ∙ ap (λ (r : Rule). is_same_side side r.side) (sym is) ∙ off))

    there : (place : ℕ) (other : Rule) → is_same_side side other.side ≡ true
        → (slice_get rules place ≡ Some other) ⊎ (rule ≡ other) → HasText side other.add table.texts
    there place other on (inl at) = was.texts place other at on
    there place other on (inr is) =
        absurd (true≢false (sym on ∙ ap (λ (r : Rule). is_same_side side r.side) (sym is) ∙ off))

    by : (place : ℕ) (other : Rule) → is_same_side side other.side ≡ true
        → (slice_get rules place ≡ Some other) ⊎ (rule ≡ other) → length other.add ≤ table.longest
    by place other on (inl at) = was.bounded place other at on
    by place other on (inr is) =
        absurd (true≢false (sym on ∙ ap (λ (r : Rule). is_same_side side r.side) (sym is) ∙ off))
