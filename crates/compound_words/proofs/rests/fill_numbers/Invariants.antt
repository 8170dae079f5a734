-- The numbers from the loop's place on are those of the steps from there on.
use Rattle.std.proofs.Common.{◌≡◌, ◌≤◌, List, [], Some, drop, length, slice_get}
use Rattle.spell_types.specs.declared.patterns.PatternStep.{PatternStep}
use Rattle.spell_types.specs.Patterns.{matches}
use Rattle.compound_words.specs.Rests.{number_behind, ByRule}
use Rattle.compound_words.proofs.StepLemmas.{Are}
use Rattle.compound_words.proofs.rests.fill_numbers.Given as goal

abbrev pub invariant-loop-place : goal.invariant-loop-place
invariant-loop-place l = record {
  within : l.place ≤ length l.steps;
  long : length l.numbers ≡ length l.steps;
  nothing : l.matches_nothing ≡ matches (drop l.place l.steps) [];
  numbers : (rules : List (List PatternStep)) → slice_get rules l.fn.rule ≡ Some l.steps
      → Are l.numbers l.fn.flags
      (λ j. number_behind rules l.fn.behind (ByRule l.fn.rule j)) l.steps l.place;
}

abbrev pub decreases-loop-place : goal.decreases-loop-place
decreases-loop-place l = l.place
