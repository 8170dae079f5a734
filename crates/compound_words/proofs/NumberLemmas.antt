-- Numbers of rests.
use Rattle.std.proofs.Common.{◌≡◌, refl, sym, ℕ, zero, suc, true, false, List, [], ◌∷◌, drop}
use Rattle.std.proofs.Common.{slice_get, Option, None, Some, is_none, is_some, option_and_then}
use Rattle.std.proofs.Common.{true≢false, Bool, ◌∙◌}
use Rattle.std.specs.List.{list_any}
use Rattle.std.proofs.lemmas.Bool.{false_from_ne_true}
use Rattle.spell_types.specs.lists.Laws.{any-at}
use Rattle.spell_types.specs.declared.flags.Flag.{Flag}
use Rattle.spell_types.specs.declared.patterns.PatternStep.{PatternStep}
use Rattle.spell_types.specs.Patterns.{fits_step}
use Rattle.compound_words.specs.Counting.{number_at}
use Rattle.compound_words.specs.Rests.{numbers_at, number_by_rule, number_by_steps, number_behind}
use Rattle.compound_words.specs.Rests.{ByRule}
use Rattle.compound_words.specs.declared.rests.Behind.{Behind}
use Rattle.compound_words.proofs.StepLemmas.{no-step-from, or-false}

-- no flags, no number
pub by-no-flags : (rules : List (List PatternStep)) (behind : Behind) (rule step : ℕ)
    → number_by_rule [] rules behind rule step ≡ None
by-no-flags rules behind rule step = by (slice_get rules rule)
  where
    none : (pattern : List PatternStep) → list_any (λ s. fits_step s []) pattern ≡ false
    none [] = refl
    none (s ∷ more) = none more

    by : (found : Option (List PatternStep))
        → option_and_then
        (λ pattern. number_by_steps [] (λ j. number_behind rules behind (ByRule rule j))
        (drop step pattern) step) found ≡ None
    by None = refl
    by (Some pattern) =
        no-step-from [] (λ j. number_behind rules behind (ByRule rule j)) pattern step
        (none pattern)

-- no step for the flags, no number
pub by-no-step : (flags : List Flag) (rules : List (List PatternStep)) (behind : Behind)
    (rule step : ℕ)
    → list_any (λ steps. list_any (λ s. fits_step s flags) steps) rules ≡ false
    → number_by_rule flags rules behind rule step ≡ None
by-no-step flags rules behind rule step none = by (slice_get rules rule) refl
  where
    fits : List PatternStep → Bool
    fits steps = list_any (λ s. fits_step s flags) steps

    not-there : (all : List (List PatternStep)) (place : ℕ) (steps : List PatternStep)
        → slice_get all place ≡ Some steps → list_any fits all ≡ false → fits steps ≡ false
    not-there all place steps at out =
        false_from_ne_true (fits steps) (λ holds.
        true≢false (sym (any-at fits all place steps at holds) ∙ out))

    by : (found : Option (List PatternStep)) → slice_get rules rule ≡ found
        → option_and_then
        (λ pattern. number_by_steps flags (λ j. number_behind rules behind (ByRule rule j))
        (drop step pattern) step) found ≡ None
    by None at = refl
    by (Some pattern) at =
        no-step-from flags (λ j. number_behind rules behind (ByRule rule j)) pattern step
        (not-there rules rule pattern at none)

-- where no number is there, there is none at each place
not-some : (number : Option ℕ) → is_some number ≡ false → number ≡ None
not-some None none = refl
not-some (Some n) none = absurd (true≢false none)

none-at : (own : List (Option ℕ)) (step : ℕ) → list_any is_some own ≡ false
    → number_at own step ≡ None
none-at [] step none = refl
none-at (number ∷ own) zero none =
    not-some number (or-false (is_some number) (list_any is_some own) none).0
none-at (number ∷ own) (suc step) none =
    none-at own step (or-false (is_some number) (list_any is_some own) none).1

pub no-numbers : (numbers : List (List (Option ℕ))) (rule step : ℕ)
    → list_any (list_any is_some) numbers ≡ false → numbers_at numbers rule step ≡ None
no-numbers [] rule step none = refl
no-numbers (own ∷ numbers) zero step none =
    none-at own step (or-false (list_any is_some own) (list_any (list_any is_some) numbers) none).0
no-numbers (own ∷ numbers) (suc rule) step none =
    no-numbers numbers rule step
    (or-false (list_any is_some own) (list_any (list_any is_some) numbers) none).1

pub none-is : (number : Option ℕ) → is_none number ≡ true → number ≡ None
none-is None is = refl
none-is (Some n) is = absurd (true≢false (sym is))
