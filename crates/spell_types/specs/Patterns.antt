-- Which lists of flag sets a compound rule matches.
use Rattle.std.specs.Prelude.{◌≡◌, ℕ, ◌+◌, ◌==◌, Bool, true, false, ◌&&◌, ◌||◌, List, [], ◌∷◌, ◌++◌}
use Rattle.std.specs.Prelude.{length, take, drop, nat_le, Some, if◌then◌else◌}
use Rattle.std.specs.List.{AllByRecursion, list_all, list_any, range_with_len}
use Rattle.spell_types.specs.declared.flags.Flag.{Flag}
use Rattle.spell_types.specs.declared.patterns.PatternStep.{PatternStep}
use Rattle.spell_types.specs.declared.patterns.Times.{Times}
use Rattle.spell_types.specs.declared.patterns.Times.TheVariants.{Once, Maybe, Many}
use Rattle.spell_types.specs.Flags.{has}

-- whether a step may stand for so many parts
abbrev pub may_be : Times → ℕ → Bool
may_be Once count = count == 1
may_be Maybe count = nat_le count 1
may_be Many count = true

-- whether a set has the flag of the step
abbrev pub fits_step : PatternStep → List Flag → Bool
fits_step step set = has set (Some step.flag)

-- whether the step stands for these sets: for so many it may, and each has its flag
abbrev pub stands_for : PatternStep → List (List Flag) → Bool
stands_for step sets = may_be step.times (length sets) && list_all (fits_step step) sets

-- whether the rule matches the sets: its first step stands for some of them at the front, and the
-- other steps match the rest
abbrev pub matches : List PatternStep → List (List Flag) → Bool
matches [] sets = length sets == 0
matches (step ∷ more) sets =
    list_any (λ count. stands_for step (take count sets) && matches more (drop count sets))
    (range_with_len 0 (length sets + 1))

-- The same as a relation.
pub data MatchesPattern : List PatternStep → List (List Flag) → Type 0 where
  done : MatchesPattern [] []
  goes_on : (step : PatternStep) (more : List PatternStep) (own rest : List (List Flag))
      → may_be step.times (length own) ≡ true
      → AllByRecursion (λ set. fits_step step set ≡ true) own → MatchesPattern more rest
      → MatchesPattern (step ∷ more) (own ++ rest)

-- whether a step may stand for nothing
abbrev pub is_left_out : PatternStep → Bool
is_left_out step = may_be step.times 0

abbrev pub is_many : Times → Bool
is_many Once = false
is_many Maybe = false
is_many Many = true

-- the steps that are left when the first of them stands for one set
abbrev pub steps_after : PatternStep → List PatternStep → List PatternStep
steps_after step more = if is_many step.times then step ∷ more else more

-- How a rule matches one set after another: where no set is left all steps are left out; and the
-- first set is that of the first step, or that step is left out.
pub record MatchesOneByOne : Type 0 where
  pub none : (step : PatternStep) (more : List PatternStep)
      → matches (step ∷ more) [] ≡ (is_left_out step && matches more [])
  pub next : (step : PatternStep) (more : List PatternStep) (set : List Flag)
      (sets : List (List Flag))
      → matches (step ∷ more) (set ∷ sets)
      ≡ ((is_left_out step && matches more (set ∷ sets))
      || (fits_step step set && matches (steps_after step more) sets))
