-- So far the flags of the rules before the loop's place are in the set.
use Rattle.std.proofs.Common.{◌≡◌, ℕ, ◌<◌, List, slice_get, Some}
use Rattle.spell_types.specs.declared.patterns.PatternStep.{PatternStep}
use Rattle.affix_strip.specs.Inside.{HasSteps, KeepsFlags}
use Rattle.affix_strip.proofs.inner_flags.put_patterns.Given as goal

abbrev pub invariant-loop-pattern : goal.invariant-loop-pattern
invariant-loop-pattern l = record {
  there : (place : ℕ) (steps : List PatternStep) → place < l.pattern-index
      → slice_get l.patterns place ≡ Some steps → HasSteps l.set steps;
  kept : KeepsFlags l.initial.set l.set;
}
