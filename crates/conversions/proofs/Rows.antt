-- The row of the best pattern is the best fitting row of the table.
use Rattle.std.proofs.Common.{◌≡◌, ◌∙◌, ◌⊎◌, inl, inr, refl, sym, ap, subst, ℕ, zero, suc, ◌<◌, ◌≤◌}
use Rattle.std.proofs.Common.{true, List, [], ◌∷◌, ◌++◌, length, take, map, nat_lt, slice_get}
use Rattle.std.proofs.Common.{Contains, MatchOption, IsTrue, Bor, Option, None, Some, arith}
use Rattle.std.specs.List.{AllByRecursion, HoldsAt}
use Rattle.std.specs.Option.{option_copied, option_map}
use Rattle.std.proofs.lemmas.Bool.{and_parts, and_from, cases_order, lt-ltb, ltb-true}
use Rattle.std.proofs.lemmas.List.{length-take}
use Rattle.std.proofs.lemmas.List.Elements.{All-contains}
use Rattle.std.proofs.lemmas.Option.{slice_get-map, slice_get-get_or, slice_get_past}
use Rattle.std.proofs.lemmas.Option.{slice_get_read, slice_get_within, get_or_from_slice_get}
use Rattle.std.proofs.lemmas.Option.{same_Some}
use Rattle.std.proofs.lemmas.Slice.Eq.{bytes_eq-Decides}
use Rattle.spell_types.specs.declared.conversions.Conversion.{Conversion}
use Rattle.spell_types.specs.Conversions.{fits, best_fit, IsBestFit}
use Rattle.conversions.specs.Patterns.{ConversionPattern, IsPatternOf, ArePatternsOf, FitsUpTo}
use Rattle.conversions.specs.Patterns.{IsBestUpTo}
use Rattle.conversions.specs.Patterns.{BestUpTo}
use Rattle.conversions.proofs.Best.{best_fit-is, best_fit-none}

-- ---- the rows before a place, at it and behind it
at-before : (P : Conversion → Type 0) (before rest : List Conversion) (k : ℕ) (r : Conversion)
    → slice_get (before ++ rest) k ≡ Some r → k < length before → AllByRecursion P before → P r
at-before P [] rest k r at within each = absurd (omega (arith, within))
at-before P (x ∷ before) rest zero r at within each = let same : x ≡ r = cc in subst P same each.0
at-before P (x ∷ before) rest (suc k) r at within each =
    at-before P before rest k r at (omega (arith, within)) each.1

at-place : (before behind : List Conversion) (row : Conversion)
    → slice_get (before ++ row ∷ behind) (length before) ≡ Some row
at-place [] behind row = refl
at-place (x ∷ before) behind row = at-place before behind row

each-at : (P : Conversion → Type 0) (rows : List Conversion) (k : ℕ) (r : Conversion)
    → slice_get rows k ≡ Some r → AllByRecursion P rows → P r
each-at P [] k r at each = absurd (cc)
each-at P (x ∷ rows) zero r at each = let same : x ≡ r = cc in subst P same each.0
each-at P (x ∷ rows) (suc k) r at each = each-at P rows k r at each.1

at-behind : (P : Conversion → Type 0) (before behind : List Conversion) (row : Conversion) (k : ℕ)
    (r : Conversion) → slice_get (before ++ row ∷ behind) k ≡ Some r → length before < k
    → AllByRecursion P behind → P r
at-behind P (x ∷ before) behind row zero r at within each = absurd (omega (arith, within))
at-behind P (x ∷ before) behind row (suc k) r at within each =
    at-behind P before behind row k r at (omega (arith, within)) each
at-behind P [] behind row zero r at within each = absurd (omega (arith, within))
at-behind P [] behind row (suc k) r at within each = each-at P behind k r at each

-- what is read at a place
pub got : (table : List Conversion) (place : ℕ) (found : Option (Bor Conversion))
    → MatchOption found (length table ≤ place)
    (λ x. (place < length table) × HoldsAt (λ y. x.now ≡ y) table place)
    → option_copied found ≡ slice_get table place
got table place None past = sym (slice_get_past table place past)
got table place (Some x) (within, holds) =
    sym (slice_get_read table (length table) place x.now refl within (holds x.now))

-- ---- rows that fit, and their patterns
fits-front : (text : List ℕ) (row : Conversion) → fits text row ≡ true
    → FitsUpTo text (length text) row.from
fits-front text row fit =
    let tests = and_parts (nat_lt 0 (length row.from)) _ fit in
    let same : row.from ≡ take (length row.from) text =
    (bytes_eq-Decides row.from (take (length row.from) text)).0 tests.1 in
    record {
      some = ltb-true 0 (length row.from) tests.0;
      upto = omega (arith, ap length same, length-take (length row.from) text);
      front = sym same;
    }

front-fits : (text : List ℕ) (row : Conversion) → FitsUpTo text (length text) row.from
    → fits text row ≡ true
front-fits text row fit =
    and_from (nat_lt 0 (length row.from)) _ (lt-ltb 0 (length row.from) fit.some)
    ((bytes_eq-Decides row.from (take (length row.from) text)).1 (sym fit.front))

-- ---- the row of a pattern, and the pattern of a row
row-of : (table : List Conversion) (p : ConversionPattern) → IsPatternOf table p
    → (row : Conversion)
    × (slice_get table p.1 ≡ Some row) × (row.from ≡ p.0.items)
row-of table p right = by (slice_get table p.1) refl right
  where
    by : (found : Option Conversion) → slice_get table p.1 ≡ found
        → option_map (λ (row : Conversion). row.from) found ≡ Some p.0.items → (row : Conversion)
        × (slice_get table p.1 ≡ Some row) × (row.from ≡ p.0.items)
    by None at is = absurd (cc)
    by (Some row) at is = let same : row.from ≡ p.0.items = cc in (row, at, same)

pattern-of : (table : List Conversion) (patterns : List ConversionPattern) (place : ℕ) (row : Conversion)
    → ArePatternsOf table patterns → slice_get table place ≡ Some row
    → (p : ConversionPattern) × Contains patterns p × (p.1 ≡ place) × (p.0.items ≡ row.from)
pattern-of table patterns place row are at =
    by (are.whole place (slice_get_within table place row at))
  where
    here : (k : ℕ) (p : ConversionPattern) → slice_get patterns k ≡ Some p → p.1 ≡ place
        → (p : ConversionPattern)
        × Contains patterns p × (p.1 ≡ place) × (p.0.items ≡ row.from)
    here k p found is =
        let among : Contains patterns p =
        (k, slice_get_within patterns k p found, get_or_from_slice_get patterns k p p found)
        in
        let own : (r : Conversion) × (slice_get table p.1 ≡ Some r) × (r.from ≡ p.0.items) =
        row-of table p (All-contains (IsPatternOf table) patterns p are.right among) in
        let same : own.0 ≡ row = same_Some own.0 row (sym own.1 ∙ ap (slice_get table) is ∙ at) in
        (p, among, is, sym own.2 ∙ ap (λ (r : Conversion). r.from) same)

    at-k : (k : ℕ) (found : Option ConversionPattern) → slice_get patterns k ≡ found
        → option_map (λ (p : ConversionPattern). p.1) found ≡ Some place
        → (p : ConversionPattern) × Contains patterns p
        × (p.1 ≡ place) × (p.0.items ≡ row.from)
    at-k k None found is = absurd (cc)
    at-k k (Some p) found is = let same : p.1 ≡ place = cc in here k p found same

    by : Contains (map (λ (p : ConversionPattern). p.1) patterns) place
        → (p : ConversionPattern) × Contains patterns p
        × (p.1 ≡ place) × (p.0.items ≡ row.from)
    by (k, inside, is) =
        at-k k (slice_get patterns k) refl
        (sym (slice_get-map (λ (p : ConversionPattern). p.1) patterns k)
        ∙ slice_get-get_or (map (λ (p : ConversionPattern). p.1) patterns) k place inside
        ∙ ap (λ n. Some n) is)

-- the pattern of a best fitting row fits
pattern-fits : (table : List Conversion) (patterns : List ConversionPattern) (text : List ℕ)
    (row : Conversion) → ArePatternsOf table patterns → (best : IsBestFit table text row)
    → (p : ConversionPattern) × Contains patterns p × (p.1 ≡ length best.before) × (p.0.items ≡ row.from)
    × FitsUpTo text (length text) p.0.items
pattern-fits table patterns text row are best =
    let at : slice_get table (length best.before) ≡ Some row =
    ap (λ rows. slice_get rows (length best.before)) best.whole
    ∙ at-place best.before best.behind row in
    let own : (p : ConversionPattern) × Contains patterns p × (p.1 ≡ length best.before)
    × (p.0.items ≡ row.from) = pattern-of table patterns (length best.before) row are at in (
      own.0,
      own.1,
      own.2,
      own.3,
      subst (FitsUpTo text (length text)) (sym own.3)
          (fits-front text row best.fitting),
    )

-- ---- the best one
pub no_fit : (table : List Conversion) (patterns : List ConversionPattern) (text : List ℕ)
    → ArePatternsOf table patterns → BestUpTo patterns text (length text) None
    → None ≡ best_fit table text
no_fit table patterns text are none = by (best_fit table text) refl
  where
    not : (row : Conversion)
        → ((p : ConversionPattern) × Contains patterns p × FitsUpTo text (length text) p.0.items)
        → ⊥
    not row (p, among, fit) = none p among fit

    by : (found : Option Conversion) → best_fit table text ≡ found → None ≡ found
    by None is = refl
    by (Some row) is = let own =
        pattern-fits table patterns text row are
        (best_fit-is table text row is) in absurd (not row (own.0, own.1, own.4))

pub best_row : (table : List Conversion) (patterns : List ConversionPattern) (text : List ℕ) (p : ConversionPattern)
    → ArePatternsOf table patterns → IsBestUpTo patterns text (length text) p
    → slice_get table p.1 ≡ best_fit table text
best_row table patterns text p are best =
    by (row-of table p (All-contains (IsPatternOf table) patterns p are.right best.among))
    (best_fit table text) refl
  where
    row_fits : (row : Conversion) → row.from ≡ p.0.items → fits text row ≡ true
    row_fits row from =
        front-fits text row (subst (FitsUpTo text (length text)) (sym from) best.fit)

    -- where each of two rows is best, they are one
    same_row : (row other : Conversion) → slice_get table p.1 ≡ Some row → row.from ≡ p.0.items
        → (it : IsBestFit table text other)
        → ((q : ConversionPattern) × Contains patterns q × (q.1 ≡ length it.before) × (q.0.items ≡ other.from)
        × FitsUpTo text (length text) q.0.items) → row ≡ other
    same_row row other at from it (q, among, place, pattern, fit) =
        ordered (cases_order p.1 (length it.before))
      where
        in_table : slice_get (it.before ++ other ∷ it.behind) p.1 ≡ Some row
        in_table = ap (λ rows. slice_get rows p.1) (sym it.whole) ∙ at

        no_shorter : length other.from ≤ length row.from
        no_shorter = omega (arith, best.longest q among fit, ap length pattern, ap length from)

        fit_row : FitsUpTo text (length text) p.0.items
        fit_row = best.fit

        ordered : (p.1 ≡ length it.before) ⊎ ((p.1 < length it.before) ⊎ (length it.before < p.1))
            → row ≡ other
        ordered (inl same) =
            same_Some row other (sym in_table ∙ ap (slice_get (it.before ++ other ∷ it.behind)) same
            ∙ at-place it.before it.behind other)
        ordered (inr (inl less)) =
            let shorter : length row.from < length other.from =
            at-before (λ o. IsTrue (fits text o) → length o.from < length other.from) it.before
            (other ∷ it.behind) p.1 row in_table less it.shorter_before (row_fits row from) in
            absurd (omega (arith, shorter, no_shorter))
        ordered (inr (inr more)) =
            let no_longer : length row.from ≤ length other.from =
            at-behind (λ o. IsTrue (fits text o) → length o.from ≤ length other.from) it.before
            it.behind other p.1 row in_table more it.no_longer_behind (row_fits row from) in
            let long : length q.0.items ≡ length p.0.items =
            omega (arith, no_longer, no_shorter, ap length pattern, ap length from) in
            let equal : q.0.items ≡ p.0.items =
            sym fit.front ∙ ap (λ k. take k text) long ∙ best.fit.front in
            absurd (omega (arith, best.first q among equal, place, more))

    by : ((row : Conversion) × (slice_get table p.1 ≡ Some row) × (row.from ≡ p.0.items))
        → (found : Option Conversion) → best_fit table text ≡ found → slice_get table p.1 ≡ found
    by (row, at, from) None is =
        absurd (each-at (λ o. ¬ (IsTrue (fits text o))) table p.1 row at
        (best_fit-none table text is) (row_fits row from))
    by (row, at, from) (Some other) is =
        let it : IsBestFit table text other = best_fit-is table text other is in
        at ∙ ap (λ (r : Conversion). let some : Option Conversion = Some r in some)
        (same_row row other at from it (pattern-fits table patterns text other are it))
