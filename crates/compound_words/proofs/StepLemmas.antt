-- How few parts the steps of a rule match.
use Rattle.std.proofs.Common.{◌≡◌, ◌∙◌, refl, sym, ap, subst, ℕ, zero, suc, ◌+◌, ◌<◌, ◌≤◌, Bool}
use Rattle.std.proofs.Common.{true, false, cond, ◌&&◌, ◌||◌, List, [], ◌∷◌, length, drop, get_or}
use Rattle.std.proofs.Common.{slice_get, Option, None, Some, arith, option_and_then, set}
use Rattle.std.proofs.Common.{true≢false, ◌⊎◌, inl, inr, ⊎_elim}
use Rattle.std.specs.List.{list_any}
use Rattle.std.specs.Option.{option_map_or}
use Rattle.std.proofs.lemmas.Bool.{cases_lt}
use Rattle.std.proofs.lemmas.List.{drop_more, get_or-set_same, get_or-set_other, length-set}
use Rattle.std.proofs.lemmas.Option.{slice_get_past, slice_get-get_or}
use Rattle.spell_types.specs.declared.flags.Flag.{Flag}
use Rattle.spell_types.specs.declared.patterns.PatternStep.{PatternStep}
use Rattle.spell_types.specs.declared.patterns.Times.{Times}
use Rattle.spell_types.specs.declared.patterns.Times.TheVariants.{Once, Maybe, Many}
use Rattle.spell_types.specs.Patterns.{fits_step, is_left_out, is_many, may_be, matches}
use Rattle.spell_types.specs.Patterns.{MatchesOneByOne}
use Rattle.compound_words.specs.Counting.{least_of_two, number_at, one_more}
use Rattle.compound_words.specs.Rests.{number_by_steps, matches_from}

-- ---- where no step fits there is no number
pub if-none : (b : Bool) → cond {A = Option ℕ} b None None ≡ None
if-none true = refl
if-none false = refl

pub or-false : (a b : Bool) → (a || b) ≡ false → (a ≡ false) × (b ≡ false)
or-false true b is = (is, absurd (true≢false is))
or-false false b is = (refl, is)

no-step : (flags : List Flag) (behind : ℕ → Option ℕ) (steps : List PatternStep) (place : ℕ)
    → list_any (λ step. fits_step step flags) steps ≡ false
    → number_by_steps flags behind steps place ≡ None
no-step flags behind [] place none = refl
no-step flags behind (step ∷ more) place none =
    let parts = or-false (fits_step step flags) (list_any (λ s. fits_step s flags) more) none in
    ap (λ n. least_of_two (cond (is_left_out step) n None)
    (cond (fits_step step flags)
    (one_more (behind (cond (is_many step.times) place (place + 1))))
    None)) (no-step flags behind more (place + 1) parts.1)
    ∙ ap (λ b. least_of_two (cond (is_left_out step) None None)
    (cond b (one_more (behind (cond (is_many step.times) place (place + 1)))) None)) parts.0
    ∙ ap (λ n. least_of_two n None) (if-none (is_left_out step))

drop-none : {X : Type 0} (test : X → Bool) (xs : List X) (count : ℕ) → list_any test xs ≡ false
    → list_any test (drop count xs) ≡ false
drop-none test xs zero none = none
drop-none test [] (suc count) none = refl
drop-none test (x ∷ xs) (suc count) none =
    drop-none test xs count (or-false (test x) (list_any test xs) none).1

pub no-step-from : (flags : List Flag) (behind : ℕ → Option ℕ) (steps : List PatternStep)
    (place : ℕ) → list_any (λ step. fits_step step flags) steps ≡ false
    → number_by_steps flags behind (drop place steps) place ≡ None
no-step-from flags behind steps place none =
    no-step flags behind (drop place steps) place
    (drop-none (λ step. fits_step step flags) steps place none)

-- ---- the numbers from the last step to the first
number-past : (numbers : List (Option ℕ)) (place : ℕ) → length numbers ≤ place
    → number_at numbers place ≡ None
number-past numbers place past =
    ap (option_and_then (λ number. number)) (slice_get_past numbers place past)

number-within : (numbers : List (Option ℕ)) (place : ℕ) (d : Option ℕ) → place < length numbers
    → number_at numbers place ≡ get_or numbers place d
number-within numbers place d within =
    ap (option_and_then (λ number. number)) (slice_get-get_or numbers place d within)

steps-past : (flags : List Flag) (behind : ℕ → Option ℕ) (steps : List PatternStep) (place : ℕ)
    → length steps ≤ place → number_by_steps flags behind (drop place steps) place ≡ None
steps-past flags behind steps place past =
    ap (λ rest. number_by_steps flags behind rest place) (nothing steps place past)
  where
    nothing : {X : Type 0} (xs : List X) (count : ℕ) → length xs ≤ count → drop count xs ≡ []
    nothing [] zero past = refl
    nothing [] (suc count) past = refl
    nothing (x ∷ xs) zero past = absurd (omega (arith, past))
    nothing (x ∷ xs) (suc count) past = nothing xs count (omega (arith, past))

-- past the last step there is no number
pub numbers-past : (numbers : List (Option ℕ)) (flags : List Flag) (behind : ℕ → Option ℕ)
    (steps : List PatternStep) (place : ℕ) → length numbers ≡ length steps → length steps ≤ place
    → number_at numbers place ≡ number_by_steps flags behind (drop place steps) place
numbers-past numbers flags behind steps place long past =
    number-past numbers place (omega (arith, long, past))
    ∙ sym (steps-past flags behind steps place past)

abbrev pub Are : List (Option ℕ) → List Flag → (ℕ → Option ℕ) → List PatternStep → ℕ → Type 0
Are numbers flags behind steps from =
    (place : ℕ) → from ≤ place
    → number_at numbers place ≡ number_by_steps flags behind (drop place steps) place

-- one step more
pub numbers-turn : (numbers : List (Option ℕ)) (flags : List Flag) (behind : ℕ → Option ℕ)
    (steps : List PatternStep) (place : ℕ) (step d : PatternStep) (number : Option ℕ)
    → length numbers ≡ length steps → place < length steps → step ≡ get_or steps place d
    → ((later : ℕ) → place + 1 ≤ later
    → number_at numbers later ≡ number_by_steps flags behind (drop later steps) later)
    → number ≡ least_of_two (cond (is_left_out step) (number_at numbers (place + 1)) None)
    (cond (fits_step step flags)
    (one_more (behind (cond (is_many step.times) place (place + 1)))) None)
    → (at : ℕ) → place ≤ at → number_at (set numbers place number) at
    ≡ number_by_steps flags behind (drop at steps) at
numbers-turn numbers flags behind steps place step d number long within is later made at from =
    ⊎_elim (λ above. other above) (λ here. same (omega (arith, here, from))) (cases_lt place at)
  where
    other : place < at → number_at (set numbers place number) at
        ≡ number_by_steps flags behind (drop at steps) at
    other above = kept (cases_lt at (length numbers)) ∙ later at (omega (arith, above))
      where
        kept : (at < length numbers) ⊎ (length numbers ≤ at)
            → number_at (set numbers place number) at ≡ number_at numbers at
        kept (inl inside) =
            number-within (set numbers place number) at None
            (subst (λ n. at < n) (sym (length-set numbers place number)) inside)
            ∙ get_or-set_other numbers place at number None (λ e. omega (arith, e, above))
            ∙ sym (number-within numbers at None inside)
        kept (inr past) =
            number-past (set numbers place number) at
            (subst (λ n. n ≤ at) (sym (length-set numbers place number)) past)
            ∙ sym (number-past numbers at past)

    same : at ≡ place → number_at (set numbers place number) at
        ≡ number_by_steps flags behind (drop at steps) at
    same here =
        subst (λ p. number_at (set numbers place number) p ≡ number_by_steps flags behind
        (drop p steps) p) (sym here)
        (number-within (set numbers place number) place None
        (subst (λ n. place < n) (sym (length-set numbers place number))
        (omega (arith, within, long)))
        ∙ get_or-set_same numbers place number None (omega (arith, within, long))
        ∙ made
        ∙ ap (λ n. least_of_two (cond (is_left_out step) n None)
        (cond (fits_step step flags)
        (one_more (behind (cond (is_many step.times) place (place + 1))))
        None)) (later (place + 1) (omega arith))
        ∙ ap (λ rest. number_by_steps flags behind rest place)
        (sym (drop_more steps place d within ∙ ap (λ s. s ∷ drop (place + 1) steps) (sym is))))

-- ---- whether the steps from a place on match nothing
and-swap : (a b : Bool) → (a && b) ≡ (b && a)
and-swap true true = refl
and-swap true false = refl
and-swap false true = refl
and-swap false false = refl

pub nothing-past : (steps : List PatternStep) → true ≡ matches (drop (length steps) steps) []
nothing-past [] = refl
nothing-past (step ∷ more) = nothing-past more

pub nothing-turn : MatchesOneByOne → (steps : List PatternStep) (place : ℕ) (step d : PatternStep)
    (before : Bool) → place < length steps → step ≡ get_or steps place d
    → before ≡ matches (drop (place + 1) steps) []
    → (before && is_left_out step) ≡ matches (drop place steps) []
nothing-turn law steps place step d before within is so_far =
    and-swap before (is_left_out step) ∙ ap (λ b. is_left_out step && b) so_far
    ∙ sym (law.none step (drop (place + 1) steps))
    ∙ ap (λ rest. matches rest [])
    (sym (drop_more steps place d within ∙ ap (λ s. s ∷ drop (place + 1) steps) (sym is)))

-- and so whether those match nothing that may stand behind this one
pub nothing-behind : MatchesOneByOne → (rules : List (List PatternStep)) (rule : ℕ)
    (steps : List PatternStep) (place : ℕ) (step d : PatternStep) (before : Bool)
    → place < length steps → step ≡ get_or steps place d
    → slice_get rules rule ≡ Some steps → before ≡ matches (drop (place + 1) steps) []
    → before ≡ matches_from rules rule (cond (is_many step.times) place (place + 1)) []
nothing-behind law rules rule steps place step d before within is found so_far =
    by (is_many step.times) refl
  where
    from : (k : ℕ) → matches_from rules rule k [] ≡ matches (drop k steps) []
    from k = ap (λ o. option_map_or (λ pattern. matches (drop k pattern) []) o false) found

    left_out : is_many step.times ≡ true → is_left_out step ≡ true
    left_out = is-left-out step.times
      where
        is-left-out : (times : Times) → is_many times ≡ true → may_be times 0 ≡ true
        is-left-out Once many = absurd (true≢false (sym many))
        is-left-out Maybe many = refl
        is-left-out Many many = refl

    by : (b : Bool) → is_many step.times ≡ b → before
        ≡ matches_from rules rule (cond b place (place + 1)) []
    by true many =
        sym (and-swap before (is_left_out step) ∙ ap (λ b. b && before) (left_out many))
        ∙ nothing-turn law steps place step d before within is so_far ∙ sym (from place)
    by false many = so_far ∙ sym (from (place + 1))
