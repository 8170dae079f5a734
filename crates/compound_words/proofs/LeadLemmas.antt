-- How few parts there are of which one is the first.
use Rattle.std.proofs.Common.{◌≡◌, ◌∙◌, refl, sym, ap, subst, ℕ, zero, suc, ◌+◌, ◌-◌, ◌^◌, ◌≤◌}
use Rattle.std.proofs.Common.{Bool, true, false, true≢false, cond, ◌&&◌, ◌||◌, ◌⊎◌, inl, inr, List}
use Rattle.std.proofs.Common.{[], ◌∷◌, length, drop, slice_get, Option, None, Some, option_and_then}
use Rattle.std.proofs.Common.{arith}
use Rattle.std.specs.Option.{option_map_or}
use Rattle.std.proofs.lemmas.Bool.{and_parts}
use Rattle.std.proofs.lemmas.Bool.Decides.{nat_tests}
use Rattle.spell_types.specs.declared.flags.Flag.{Flag}
use Rattle.spell_types.specs.declared.parts.Part.{Part}
use Rattle.spell_types.specs.declared.parts.Place.{Place}
use Rattle.spell_types.specs.declared.parts.Place.TheVariants.{Middle}
use Rattle.spell_types.specs.declared.patterns.PatternStep.{PatternStep}
use Rattle.spell_types.specs.Compounds.{Asked, flags_of}
use Rattle.spell_types.specs.EntriesOf.{entry_flags}
use Rattle.spell_types.specs.Parts.{stands_at, stands_in_rule}
use Rattle.spell_types.specs.Patterns.{matches, fits_step, is_left_out, is_many, steps_after}
use Rattle.spell_types.specs.Patterns.{MatchesOneByOne}
use Rattle.compound_words.specs.declared.rests.Behind.{Behind}
use Rattle.compound_words.specs.Counting.{least_of_two, one_more, IsFewest}
use Rattle.compound_words.specs.Rests.{stand_from, Way, ByFlags, ByRule, matches_from, holds}
use Rattle.compound_words.specs.Rests.{AreRest, Leads, HasPartsBehind, number_behind}
use Rattle.compound_words.specs.Rests.{number_by_steps}
use Rattle.compound_words.specs.Rests.{number_with}
use Rattle.compound_words.proofs.CountLemmas.{fewest-same, fewest-either}
use Rattle.compound_words.proofs.RestLemmas.{IsBefore, one-more}

-- the parts behind one, if it stands itself
lead : (a : Asked) (text : List ℕ) (part : Part) (stand behind : List Part → Bool) (itself : Bool)
    (number : Option ℕ)
    → ((more : List Part) → AreRest a text (part ∷ more)
    → stand (part ∷ more) ≡ (itself && behind more))
    → ((more : List Part) → AreRest a text (part ∷ more) → length more + 1 ≤ 2 ^ 64 - 1)
    → IsFewest (HasPartsBehind a text behind part) number
    → IsFewest (Leads a text stand part) (cond itself (one_more number) None)
lead a text part stand behind true number same bound fewest =
    one-more (HasPartsBehind a text behind part) (Leads a text stand part) number
    (λ n f. omega (arith, f.long, bound f.more f.rest))
    (λ n f. record
    { more = f.more; rest = f.rest; so = same f.more f.rest ∙ f.so; long = omega (arith, f.long) })
    (λ n l. record {
      less = length l.more;
      holds = record {
        more = l.more;
        rest = l.rest;
        so = sym (same l.more l.rest)
            ∙ l.so;
        long = refl;
      };
      same = omega (arith, l.long);
    })
    fewest
lead a text part stand behind false number same bound fewest =
    λ n l. true≢false (sym l.so ∙ same l.more l.rest)

-- the same parts stand in another way
lead-map : (a : Asked) (text : List ℕ) (part : Part) (stand other : List Part → Bool) (n : ℕ)
    → ((more : List Part) → stand (part ∷ more) ≡ true → other (part ∷ more) ≡ true)
    → Leads a text stand part n → Leads a text other part n
lead-map a text part stand other n so l =
    record { more = l.more; rest = l.rest; so = so l.more l.so; long = l.long }

-- by flags
by-flags : (a : Asked) (rules : List (List PatternStep)) (here place : Place) (text : List ℕ)
    (part : Part) (behind : Behind) → IsBefore a rules here place text part behind
    → IsFewest (Leads a text (holds a rules here ByFlags) part)
    (number_with a rules place part behind ByFlags)
by-flags a rules here place text part behind before =
    lead a text part (holds a rules here ByFlags) (holds a rules Middle ByFlags)
    (stands_at a.lexicon part.d place) (number_behind rules behind ByFlags)
    (λ more rest. before.stands (stands_at a.lexicon) more rest) before.bound
    (before.fewest ByFlags)

-- ---- by rules
-- parts that stand in a rule, and whose flags some steps match
abbrev in_steps : Asked → Place → List PatternStep → List Part → Bool
in_steps a here steps parts =
    stand_from (stands_in_rule a.lexicon) here parts && matches steps (flags_of a parts)

abbrev tail_of : {X : Type 0} → List X → List X
tail_of [] = []
tail_of (x ∷ xs) = xs

-- parts that stand in a rule, the first of which one step stands for, and the others some steps
abbrev in_first : Asked → Place → Bool → List PatternStep → List Part → Bool
in_first a here fits steps parts =
    stand_from (stands_in_rule a.lexicon) here parts &&
    (fits && matches steps (flags_of a (tail_of parts)))

first-swap : (stands all fits match : Bool) → stands ≡ true
    → ((stands && all) && (fits && match)) ≡ (fits && (all && match))
first-swap true true true match is = refl
first-swap true true false match is = refl
first-swap true false true match is = refl
first-swap true false false match is = refl
first-swap false all fits match is = absurd (true≢false (sym is))

or-left : (x y z w : Bool) → (x && y) ≡ true → z ≡ true → (x && ((z && y) || w)) ≡ true
or-left true true true w one two = refl
or-left true true false w one two = absurd (true≢false (sym two))
or-left true false z w one two = absurd (true≢false (sym one))
or-left false y z w one two = absurd (true≢false (sym one))

or-right : (x y w : Bool) → (x && w) ≡ true → (x && (y || w)) ≡ true
or-right true true w is = refl
or-right true false w is = is
or-right false y w is = absurd (true≢false (sym is))

or-cases : (x z y w : Bool) → (x && ((z && y) || w)) ≡ true
    → ((z ≡ true) × ((x && y) ≡ true)) ⊎ ((x && w) ≡ true)
or-cases true true true w is = inl (refl, refl)
or-cases true true false w is = inr is
or-cases true false y w is = inr is
or-cases false z y w is = absurd (true≢false (sym is))

pub matches-nothing : (set : List Flag) (sets : List (List Flag)) → matches [] (set ∷ sets) ≡ false
matches-nothing set sets = grind (arith, nat_tests)

pub drop-one : {X : Type 0} (count : ℕ) (xs : List X) (x : X) (rest : List X)
    → drop count xs ≡ x ∷ rest → drop (count + 1) xs ≡ rest
drop-one zero [] x rest is = absurd (cc)
drop-one zero (y ∷ ys) x rest is = ap tail_of is
drop-one (suc count) [] x rest is = absurd (cc)
drop-one (suc count) (y ∷ ys) x rest is =
    subst (λ n. drop n (y ∷ ys) ≡ rest) (suc-more count) (drop-one count ys x rest is)
  where
    suc-more : (n : ℕ) → suc (n + 1) ≡ suc n + 1
    suc-more n = omega arith

-- the number of a list of steps, where the part itself stands in a rule
by-steps : MatchesOneByOne → (a : Asked) (rules : List (List PatternStep)) (here place : Place)
    (text : List ℕ) (part : Part) (behind : Behind) → IsBefore a rules here place text part behind
    → stands_in_rule a.lexicon part.d place ≡ true → (rule : ℕ) (pattern : List PatternStep)
    → slice_get rules rule ≡ Some pattern
    → (steps : List PatternStep) (step : ℕ) → drop step pattern ≡ steps
    → IsFewest (Leads a text (in_steps a here steps) part)
    (number_by_steps (entry_flags a.lexicon part.d)
    (λ j. number_behind rules behind (ByRule rule j)) steps step)
by-steps law a rules here place text part behind before stands rule pattern found [] step at =
    λ n l.
    true≢false (sym
    (and_parts (stand_from (stands_in_rule a.lexicon) here (part ∷ l.more))
    (matches [] (flags_of a (part ∷ l.more))) l.so).1
    ∙ matches-nothing (entry_flags a.lexicon part.d) (flags_of a l.more))
by-steps law a rules here place text part behind before stands rule pattern found (s ∷ more) step
    at =
    fewest-same (λ n.
    ((left ≡ true) × Leads a text
    (in_steps a here more) part n) ⊎ Leads a text second part n) (Leads a text (in_steps a here
    (s ∷ more)) part) there back
    (least_of_two (cond left without None)
    (cond fits (one_more (number_behind rules behind (ByRule rule next))) None))
    (fewest-either (λ n. (left ≡ true) × Leads a text (in_steps a here more) part n)
    (Leads a text second part) (cond left without None)
    (cond fits (one_more (number_behind rules behind (ByRule rule next))) None)
    (if-left left
    (by-steps law a rules here place text part behind before stands rule pattern found more
    (step + 1) later))
    (lead a text part second (holds a rules Middle (ByRule rule next)) fits
    (number_behind rules behind (ByRule rule next)) same before.bound
    (before.fewest (ByRule rule next))))
  where
    flags : List Flag
    flags = entry_flags a.lexicon part.d

    left : Bool
    left = is_left_out s

    fits : Bool
    fits = fits_step s flags

    next : ℕ
    next = cond (is_many s.times) step (step + 1)

    without : Option ℕ
    without =
        number_by_steps flags (λ j. number_behind rules behind (ByRule rule j)) more (step + 1)

    second : List Part → Bool
    second = in_first a here fits (steps_after s more)

    later : drop (step + 1) pattern ≡ more
    later = drop-one step pattern s more at

    same : (others : List Part) → AreRest a text (part ∷ others)
        → second (part ∷ others) ≡ (fits && holds a rules Middle (ByRule rule next) others)
    same others rest =
        ap (λ b. b && (fits && matches (steps_after s more) (flags_of a others)))
        (before.stands (stands_in_rule a.lexicon) others rest)
        ∙ first-swap (stands_in_rule a.lexicon part.d place)
        (stand_from (stands_in_rule a.lexicon) Middle others) fits
        (matches (steps_after s more) (flags_of a others)) stands
        ∙ ap (λ b. fits && (stand_from (stands_in_rule a.lexicon) Middle others && b))
        (sym (from others))
      where
        steps_next : (many : Bool) → drop (cond many step (step + 1)) pattern
            ≡ cond many (s ∷ more) more
        steps_next true = at
        steps_next false = later

        from : (others : List Part) → matches_from rules rule next (flags_of a others)
            ≡ matches (steps_after s more) (flags_of a others)
        from others =
            ap (λ o. option_map_or
            (λ pattern. matches (drop next pattern) (flags_of a others)) o false) found
            ∙ ap (λ steps. matches steps (flags_of a others)) (steps_next (is_many s.times))

    if-left : (b : Bool) → IsFewest (Leads a text (in_steps a here more) part) without
        → IsFewest (λ n. (b ≡ true) × Leads a text (in_steps a here more) part n)
        (cond b without None)
    if-left true fewest =
        fewest-same (Leads a text (in_steps a here more) part)
        (λ n. (true ≡ true) × Leads a text (in_steps a here more) part n) (λ n l. (refl, l))
        (λ n l. l.1) without fewest
    if-left false fewest = λ n l. true≢false (sym l.0)

    there : (n : ℕ) → ((left ≡ true) × Leads a text (in_steps a here more) part n)
        ⊎ Leads a text second part n → Leads a text (in_steps a here (s ∷ more)) part n
    there n (inl one) =
        lead-map a text part (in_steps a here more) (in_steps a here (s ∷ more)) n (λ others so.
        ap (λ b. stand_from (stands_in_rule a.lexicon) here (part ∷ others) && b)
        (law.next s more flags (flags_of a others))
        ∙ or-left (stand_from (stands_in_rule a.lexicon) here (part ∷ others))
        (matches more (flags ∷ flags_of a others)) left
        (fits && matches (steps_after s more) (flags_of a others)) so one.0) one.1
    there n (inr other) = lead-map a text part second (in_steps a here (s ∷ more)) n (λ others so.
        ap (λ b. stand_from (stands_in_rule a.lexicon) here (part ∷ others) && b)
        (law.next s more flags (flags_of a others))
        ∙ or-right (stand_from (stands_in_rule a.lexicon) here (part ∷ others))
        (left && matches more (flags ∷ flags_of a others))
        (fits && matches (steps_after s more) (flags_of a others)) so) other

    back : (n : ℕ) → Leads a text (in_steps a here (s ∷ more)) part n
        → ((left ≡ true) × Leads a text (in_steps a here more) part n) ⊎ Leads a text second part n
    back n l =
        by (or-cases (stand_from (stands_in_rule a.lexicon) here (part ∷ l.more)) left
        (matches more (flags ∷ flags_of a l.more))
        (fits && matches (steps_after s more) (flags_of a l.more))
        (sym (ap (λ b. stand_from (stands_in_rule a.lexicon) here (part ∷ l.more) && b)
        (law.next s more flags (flags_of a l.more))) ∙ l.so))
      where
        by : ((left ≡ true) × (in_steps a here more (part ∷ l.more) ≡ true))
            ⊎ (second (part ∷ l.more) ≡ true)
            → ((left ≡ true) × Leads a text (in_steps a here more) part n)
            ⊎ Leads a text second part n
        by (inl one) =
            inl (one.0, record { more = l.more; rest = l.rest; so = one.1; long = l.long })
        by (inr other) = inr (record { more = l.more; rest = l.rest; so = other; long = l.long })

-- in each way
pub number-right : MatchesOneByOne → (a : Asked) (rules : List (List PatternStep))
    (here place : Place) (text : List ℕ) (part : Part) (behind : Behind)
    → IsBefore a rules here place text part behind
    → (way : Way) → IsFewest (Leads a text (holds a rules here way) part)
    (number_with a rules place part behind way)
number-right law a rules here place text part behind before ByFlags =
    by-flags a rules here place text part behind before
number-right law a rules here place text part behind before (ByRule rule step) =
    by (stands_in_rule a.lexicon part.d place) refl (slice_get rules rule) refl
  where
    from : List PatternStep → Option ℕ
    from pattern =
        number_by_steps (entry_flags a.lexicon part.d)
        (λ j. number_behind rules behind (ByRule rule j)) (drop step pattern) step

    by : (b : Bool) → stands_in_rule a.lexicon part.d place ≡ b
        → (found : Option (List PatternStep)) → slice_get rules rule ≡ found
        → IsFewest (Leads a text (holds a rules here (ByRule rule step)) part)
        (cond b (option_and_then from found) None)
    by false stands found at = λ n l.
        true≢false (sym
        (and_parts (stand_from (stands_in_rule a.lexicon) here (part ∷ l.more))
        (matches_from rules rule step (flags_of a (part ∷ l.more))) l.so).0
        ∙ before.stands (stands_in_rule a.lexicon) l.more l.rest
        ∙ ap (λ b. b && stand_from (stands_in_rule a.lexicon) Middle l.more) stands)
    by true stands None at = λ n l.
        true≢false (sym
        (and_parts (stand_from (stands_in_rule a.lexicon) here (part ∷ l.more))
        (matches_from rules rule step (flags_of a (part ∷ l.more))) l.so).1
        ∙ ap (λ o. option_map_or
        (λ pattern. matches (drop step pattern) (flags_of a (part ∷ l.more))) o false) at)
    by true stands (Some pattern) at =
        fewest-same (Leads a text (in_steps a here (drop step pattern)) part)
        (Leads a text (holds a rules here (ByRule rule step)) part)
        (λ n l. lead-map a text part (in_steps a here (drop step pattern))
        (holds a rules here (ByRule rule step)) n
        (λ more so. ap (λ b. stand_from (stands_in_rule a.lexicon) here (part ∷ more) && b)
        (same more) ∙ so) l)
        (λ n l. lead-map a text part (holds a rules here (ByRule rule step))
        (in_steps a here (drop step pattern)) n
        (λ more so. sym
        (ap (λ b. stand_from (stands_in_rule a.lexicon) here (part ∷ more) && b) (same more))
        ∙ so) l)
        (from pattern)
        (by-steps law a rules here place text part behind before stands rule pattern at
        (drop step pattern) step refl)
      where
        same : (more : List Part) → matches_from rules rule step (flags_of a (part ∷ more))
            ≡ matches (drop step pattern) (flags_of a (part ∷ more))
        same more =
            ap (λ o. option_map_or
            (λ pattern. matches (drop step pattern) (flags_of a (part ∷ more))) o false) at
