-- What a best fitting row is.
use Rattle.std.proofs.Common.{◌≡◌, ℕ, ◌<◌, ◌≤◌, true, false, cond, IsTrue, List, [], ◌∷◌, length}
use Rattle.std.proofs.Common.{filter, nat_lt, Option, Some, None, refl, sym, ap, ◌∙◌, subst, arith}
use Rattle.std.proofs.lemmas.Bool.{false≢true, ltb-true, ltb-false}
use Rattle.std.specs.List.{AllByRecursion}
use Rattle.spell_types.specs.lists.Laws.{each-append, each-weaker}
use Rattle.spell_types.specs.declared.conversions.Conversion.{Conversion}
use Rattle.spell_types.specs.Conversions.{fits, longer_of, longest, best_fit, IsBestFit, NoneFits}
use Rattle.std.proofs.lemmas.Option.{same_Some}

nothing_found : (row : Conversion) → Some row ≡ None → ⊥
nothing_found row is = cc

none_fits : (text : List ℕ) (table : List Conversion) → longest (filter (fits text) table) ≡ None
    → NoneFits table text
none_fits text [] none = tt
none_fits text (first ∷ rows) none =
    (elim (fits text first) as
    (λ b. fits text first ≡ b
    → longest (cond b (first ∷ filter (fits text) rows) (filter (fits text) rows)) ≡ None
    → NoneFits (first ∷ rows) text) [
      | true ↦ λ _ is.
          absurd (nothing_found (longer_of first (longest (filter (fits text) rows))) is)
      | false ↦ λ unfit is. ((λ fit. false≢true (sym unfit ∙ fit)), none_fits text rows is)
    ]) refl none

-- the other rows are no longer than one that is at least as long as their best
no_longer : (text : List ℕ) (rows : List Conversion) (best : Conversion) (n : ℕ)
    → IsBestFit rows text best → length best.from ≤ n
    → AllByRecursion (λ other. IsTrue (fits text other) → length other.from ≤ n) rows
no_longer text rows best n is bound =
    let P = λ (other : Conversion). IsTrue (fits text other) → length other.from ≤ n in
    subst (λ all. AllByRecursion P all) (sym is.whole)
    (each-append P is.before (best ∷ is.behind)
    (each-weaker (λ other. IsTrue (fits text other) → length other.from < length best.from) P
    (λ other shorter fit. let s = shorter fit in omega arith) is.before is.shorter_before) (
      (λ _. bound),
      each-weaker (λ other. IsTrue (fits text other) → length other.from ≤ length best.from) P
          (λ other shorter fit. let s = shorter fit in omega arith) is.behind is.no_longer_behind,
    ))

-- the first row is the best one if it fits and no other is longer
first_is_best : (text : List ℕ) (first : Conversion) (rows : List Conversion)
    → fits text first ≡ true
    → AllByRecursion (λ other. IsTrue (fits text other) → length other.from ≤ length first.from)
    rows → IsBestFit (first ∷ rows) text first
first_is_best text first rows fit others =
    record {
      before = [];
      behind = rows;
      whole = refl;
      fitting = fit;
      shorter_before = tt;
      no_longer_behind = others;
    }

-- a later row is the best one if the first one doesn't fit or is shorter
later_is_best : (text : List ℕ) (first : Conversion) (rows : List Conversion) (best : Conversion)
    → IsBestFit rows text best → (IsTrue (fits text first) → length first.from < length best.from)
    → IsBestFit (first ∷ rows) text best
later_is_best text first rows best is shorter =
    record {
      before = first ∷ is.before;
      behind = is.behind;
      whole = ap (λ all. first ∷ all) is.whole;
      fitting = is.fitting;
      shorter_before =
          (shorter, is.shorter_before);
      no_longer_behind = is.no_longer_behind;
    }

of_fitting : (text : List ℕ) (first : Conversion) (rows : List Conversion)
    (found : Option Conversion) → fits text first ≡ true → (found ≡ None → NoneFits rows text)
    → ((best : Conversion) → found ≡ Some best → IsBestFit rows text best)
    → IsBestFit (first ∷ rows) text (longer_of first found)
of_fitting text first rows None fit none some =
    first_is_best text first rows fit
    (each-weaker (λ other. IsTrue (fits text other) → ⊥)
    (λ other. IsTrue (fits text other) → length other.from ≤ length first.from)
    (λ other unfit fit. absurd (unfit fit)) rows (none refl))
of_fitting text first rows (Some best) fit none some =
    (elim (nat_lt (length first.from) (length best.from)) as
    (λ b. nat_lt (length first.from) (length best.from) ≡ b
    → IsBestFit (first ∷ rows) text (cond b best first)) [
      | true ↦ λ shorter. later_is_best text first rows best (some best refl)
          (λ _. ltb-true (length first.from) (length best.from) shorter)
      | false ↦ λ longer. first_is_best text first rows fit
          (no_longer text rows best (length first.from) (some best refl)
          (ltb-false (length first.from) (length best.from) longer))
    ]) refl

best_is : (text : List ℕ) (table : List Conversion) (row : Conversion)
    → longest (filter (fits text) table) ≡ Some row → IsBestFit table text row
best_is text [] row found = cc
best_is text (first ∷ rows) row found =
    (elim (fits text first) as
    (λ b. fits text first ≡ b
    → longest (cond b (first ∷ filter (fits text) rows) (filter (fits text) rows)) ≡ Some row
    → IsBestFit (first ∷ rows) text row) [
      | true ↦ λ fit is. subst (λ r. IsBestFit (first ∷ rows) text r)
          (same_Some (longer_of first (longest (filter (fits text) rows))) row is)
          (of_fitting text first rows (longest (filter (fits text) rows)) fit (none_fits text rows)
          (best_is text rows))
      | false ↦ λ unfit is. later_is_best text first rows row (best_is text rows row is)
          (λ fit. absurd (false≢true (sym unfit ∙ fit)))
    ]) refl found

-- the best fitting row of the definition is a best fitting row
pub best_fit-is : (table : List Conversion) (text : List ℕ) (row : Conversion)
    → best_fit table text ≡ Some row → IsBestFit table text row
unfolding best_fit
best_fit-is table text row found = best_is text table row found

-- where it has none, no row fits
pub best_fit-none : (table : List Conversion) (text : List ℕ) → best_fit table text ≡ None
    → NoneFits table text
unfolding best_fit
best_fit-none table text none = none_fits text table none
