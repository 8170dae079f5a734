-- So far the flags of the steps before the loop's place are in the set.
use Rattle.std.proofs.Common.{◌≡◌, ℕ, ◌<◌, true, slice_get, Some}
use Rattle.spell_types.specs.declared.patterns.PatternStep.{PatternStep}
use Rattle.spell_types.specs.Flags.{has}
use Rattle.affix_strip.specs.Inside.{KeepsFlags}
use Rattle.affix_strip.proofs.inner_flags.put_steps.Given as goal

abbrev pub invariant-loop-step : goal.invariant-loop-step
invariant-loop-step l = record {
  there : (place : ℕ) (step : PatternStep) → place < l.step-index
      → slice_get l.steps place ≡ Some step → has l.set (Some step.flag) ≡ true;
  kept : KeepsFlags l.initial.set l.set;
}
