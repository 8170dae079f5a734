-- What a compound rule matches, by the sets that its first step stands for.
use Rattle.std.proofs.Common.{◌≡◌, ◌∙◌, refl, sym, ap, subst, ℕ, suc, if◌then◌else◌, ◌+◌, ◌<◌, Bool}
use Rattle.std.proofs.Common.{true, ◌&&◌, ◌||◌, List, [], ◌∷◌, ◌++◌, length, take, drop, arith, ◌⊎◌}
use Rattle.std.proofs.Common.{inl, inr, length-append, zero-add}
use Rattle.std.specs.Cmp.{both_ways}
use Rattle.std.specs.List.{AllByRecursion, list_all, range_with_len, Any}
use Rattle.std.proofs.lemmas.Bool.{and_parts, and_from, or_cases, or_left, or_right, eqb-true}
use Rattle.std.proofs.lemmas.Bool.{leb-true}
use Rattle.std.proofs.lemmas.List.{take-append-drop, take_at, drop_at, nil_from_length}
use Rattle.std.proofs.lemmas.List.Folds.{Any-from_list_any, list_any_at}
use Rattle.std.proofs.lemmas.List.FromFn.{length-range_with_len, get_or-range_with_len}
use Rattle.spell_types.specs.declared.flags.Flag.{Flag}
use Rattle.spell_types.specs.declared.patterns.PatternStep.{PatternStep}
use Rattle.spell_types.specs.declared.patterns.Times.{Times}
use Rattle.spell_types.specs.declared.patterns.Times.TheVariants.{Once, Maybe, Many}
use Rattle.spell_types.specs.Patterns.{may_be, fits_step, stands_for, matches, is_left_out, is_many}
use Rattle.spell_types.specs.Patterns.{steps_after, MatchesPattern, done, goes_on, MatchesOneByOne}

-- ---- tests
-- two tests that hold together are the same
all-each : {X : Type 0} (test : X → Bool) (xs : List X) → list_all test xs ≡ true
    → AllByRecursion (λ x. test x ≡ true) xs
all-each test [] all = tt
all-each test (x ∷ xs) all =
    let parts = and_parts (test x) (list_all test xs) all in (parts.0, all-each test xs parts.1)

each-all : {X : Type 0} (test : X → Bool) (xs : List X) → AllByRecursion (λ x. test x ≡ true) xs
    → list_all test xs ≡ true
each-all test [] each = refl
each-all test (x ∷ xs) each = and_from (test x) (list_all test xs) each.0 (each-all test xs each.1)

-- ---- the sets of the first step
-- sets at the front for which a step stands, and others that the steps behind it match
record Begins (step : PatternStep) (more : List PatternStep) (sets : List (List Flag)) : Type
    0 where
  own : List (List Flag)
  rest : List (List Flag)
  whole : sets ≡ own ++ rest
  count : may_be step.times (length own) ≡ true
  fit : AllByRecursion (λ set. fits_step step set ≡ true) own
  others : matches more rest ≡ true

module _ (step : PatternStep) (more : List PatternStep) where
  -- whether the first step stands for so many sets, and the others match the rest
  abbrev begins_at : List (List Flag) → ℕ → Bool
  begins_at sets count = stands_for step (take count sets) && matches more (drop count sets)

  begins-at : (sets : List (List Flag)) (count : ℕ) → begins_at sets count ≡ true
      → Begins step more sets
  begins-at sets count both =
      let halves =
      and_parts (stands_for step (take count sets)) (matches more (drop count sets)) both in
      let parts =
      and_parts (may_be step.times (length (take count sets)))
      (list_all (fits_step step) (take count sets)) halves.0 in
      record {
        own = take count sets;
        rest = drop count sets;
        whole = sym (take-append-drop count sets);
        count = parts.0;
        fit = all-each (fits_step step) (take count sets) parts.1;
        others = halves.1;
      }

  matches-begins : (sets : List (List Flag)) → matches (step ∷ more) sets ≡ true
      → Begins step more sets
  matches-begins sets holds =
      found (Any-from_list_any (begins_at sets) (range_with_len 0 (length sets + 1)) holds)
    where
      found : Any (λ count. begins_at sets count ≡ true) (range_with_len 0 (length sets + 1))
          → Begins step more sets
      found (k, count, within, at, both) = begins-at sets count both

  begins-matches : (sets : List (List Flag)) → Begins step more sets
      → matches (step ∷ more) sets ≡ true
  begins-matches sets begins =
      let count = length begins.own in
      let below : count < length sets + 1 =
      omega (arith, ap length begins.whole, length-append begins.own begins.rest) in
      let front : take count sets ≡ begins.own =
      ap (take count) begins.whole ∙ take_at begins.own begins.rest count refl in
      let behind : drop count sets ≡ begins.rest =
      ap (drop count) begins.whole ∙ drop_at begins.own begins.rest count refl in
      list_any_at (begins_at sets) (range_with_len 0 (length sets + 1)) count count
      (subst (λ long. count < long) (sym (length-range_with_len 0 (length sets + 1))) below)
      (ap (begins_at sets)
      (get_or-range_with_len 0 (length sets + 1) count count below ∙ zero-add count)
      ∙ and_from (stands_for step (take count sets)) (matches more (drop count sets))
      (ap (stands_for step) front
      ∙ and_from (may_be step.times (length begins.own))
      (list_all (fits_step step) begins.own) begins.count
      (each-all (fits_step step) begins.own begins.fit))
      (ap (matches more) behind ∙ begins.others))

  -- the first step stands for nothing
  left-out : (sets : List (List Flag)) → (is_left_out step && matches more sets) ≡ true
      → Begins step more sets
  left-out sets both =
      let parts = and_parts (is_left_out step) (matches more sets) both in
      record { own = []; rest = sets; whole = refl; count = parts.0; fit = tt; others = parts.1 }

  -- no set is left
  matches-none : matches (step ∷ more) [] ≡ (is_left_out step && matches more [])
  matches-none =
      both_ways (matches (step ∷ more) []) (is_left_out step && matches more [])
      (λ holds. there (matches-begins [] holds)) (λ both. begins-matches [] (left-out [] both))
    where
      by : (own rest : List (List Flag)) → [] ≡ own ++ rest → may_be step.times (length own) ≡ true
          → matches more rest ≡ true → (is_left_out step && matches more []) ≡ true
      by [] rest whole count others =
          and_from (is_left_out step) (matches more []) count (ap (matches more) whole ∙ others)
      by (set ∷ own) rest whole count others = absurd (cc)

      there : Begins step more [] → (is_left_out step && matches more []) ≡ true
      there begins = by begins.own begins.rest begins.whole begins.count begins.others

  -- the first step stands for the first set
  first-fits : (set : List Flag) (sets : List (List Flag)) → fits_step step set ≡ true
      → matches (steps_after step more) sets ≡ true → Begins step more (set ∷ sets)
  first-fits set sets fits holds = by step.times refl holds
    where
      by : (times : Times) → step.times ≡ times
          → matches (if is_many times then step ∷ more else more) sets ≡ true
          → Begins step more (set ∷ sets)
      by Once is others =
          record {
            own = set ∷ [];
            rest = sets;
            whole = refl;
            count = ap
                (λ times. may_be times 1) is;
            fit = (fits, tt);
            others = others;
          }
      by Maybe is others =
          record {
            own = set ∷ [];
            rest = sets;
            whole = refl;
            count = ap
                (λ times. may_be times 1) is;
            fit = (fits, tt);
            others = others;
          }
      by Many is others =
          let begins = matches-begins sets others in
          record {
            own = set ∷ begins.own;
            rest = begins.rest;
            whole = ap (λ after. set ∷ after) begins.whole;
            count = ap (λ times. may_be times (length (set ∷ begins.own))) is;
            fit = (fits, begins.fit);
            others = begins.others;
          }

  -- the sets behind the first one that the first step stands for
  after-first : (sets own rest : List (List Flag)) → sets ≡ own ++ rest
      → may_be step.times (suc (length own)) ≡ true
      → AllByRecursion (λ set. fits_step step set ≡ true) own → matches more rest ≡ true
      → matches (steps_after step more) sets ≡ true
  after-first sets own rest whole count fit others = by step.times refl
    where
      alone : length own ≡ 0 → matches more sets ≡ true
      alone none =
          ap (matches more) (whole ∙ ap (λ front. front ++ rest) (nil_from_length own none))
          ∙ others

      by : (times : Times) → step.times ≡ times
          → matches (if is_many times then step ∷ more else more) sets ≡ true
      by Once is =
          alone (omega (
            arith,
            eqb-true (suc (length own)) 1
                (subst (λ times. may_be times (suc (length own)) ≡ true) is count),
          ))
      by Maybe is =
          alone (omega (
            arith,
            leb-true (suc (length own)) 1
                (subst (λ times. may_be times (suc (length own)) ≡ true) is count),
          ))
      by Many is =
          begins-matches sets
          (record {
            own = own;
            rest = rest;
            whole = whole;
            count = ap
                (λ times. may_be times (length own)) is;
            fit = fit;
            others = others;
          })

  -- one set after another
  abbrev out : List (List Flag) → Bool
  out sets = is_left_out step && matches more sets

  abbrev fits : List Flag → List (List Flag) → Bool
  fits set sets = fits_step step set && matches (steps_after step more) sets

  matches-next : (set : List Flag) (sets : List (List Flag))
      → matches (step ∷ more) (set ∷ sets) ≡ (out (set ∷ sets) || fits set sets)
  matches-next set sets =
      both_ways (matches (step ∷ more) (set ∷ sets)) (out (set ∷ sets) || fits set sets)
      (λ holds. there (matches-begins (set ∷ sets) holds))
      (λ either. begins-matches (set ∷ sets)
      (back (or_cases (out (set ∷ sets)) (fits set sets) either)))
    where
      by : (own rest : List (List Flag)) → set ∷ sets ≡ own ++ rest
          → may_be step.times (length own) ≡ true
          → AllByRecursion (λ set. fits_step step set ≡ true) own → matches more rest ≡ true
          → (out (set ∷ sets) || fits set sets) ≡ true
      by [] rest whole count fit others =
          or_left (out (set ∷ sets)) (fits set sets)
          (and_from (is_left_out step) (matches more (set ∷ sets)) count
          (ap (matches more) whole ∙ others))
      by (first ∷ own) rest whole count fit others =
          let same : set ≡ first = cc in
          let behind : sets ≡ own ++ rest = cc in
          or_right (out (set ∷ sets)) (fits set sets)
          (and_from (fits_step step set) (matches (steps_after step more) sets)
          (ap (fits_step step) same ∙ fit.0) (after-first sets own rest behind count fit.1 others))

      there : Begins step more (set ∷ sets) → (out (set ∷ sets) || fits set sets) ≡ true
      there begins = by begins.own begins.rest begins.whole begins.count begins.fit begins.others

      back : (out (set ∷ sets) ≡ true) ⊎ (fits set sets ≡ true) → Begins step more (set ∷ sets)
      back (inl both) = left-out (set ∷ sets) both
      back (inr both) =
          let parts = and_parts (fits_step step set) (matches (steps_after step more) sets) both in
          first-fits set sets parts.0 parts.1

pub matches-one_by_one : MatchesOneByOne
matches-one_by_one = record { none = matches-none; next = matches-next }

-- ---- as a relation
pub matches-relation : (pattern : List PatternStep) (sets : List (List Flag))
    → matches pattern sets ≡ true → MatchesPattern pattern sets
matches-relation [] sets none =
    subst (MatchesPattern []) (sym (nil_from_length sets (eqb-true (length sets) 0 none))) done
matches-relation (step ∷ more) sets holds =
    let begins = matches-begins step more sets holds in
    subst (MatchesPattern (step ∷ more)) (sym begins.whole)
    (goes_on step more begins.own begins.rest begins.count begins.fit
    (matches-relation more begins.rest begins.others))

pub relation-matches : (pattern : List PatternStep) (sets : List (List Flag))
    → MatchesPattern pattern sets → matches pattern sets ≡ true
relation-matches pattern sets done = refl
relation-matches pattern sets (goes_on step more own rest count fit others) =
    begins-matches step more (own ++ rest)
    (record {
      own = own;
      rest = rest;
      whole = refl;
      count = count;
      fit = fit;
      others = relation-matches more rest others;
    })
