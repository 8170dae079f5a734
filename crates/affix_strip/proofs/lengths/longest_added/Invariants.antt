-- None before the loop's place is longer.
use Rattle.std.proofs.Common.{◌≡◌, ℕ, ◌<◌, ◌≤◌, length, slice_get, Some}
use Rattle.spell_types.specs.declared.rules.Rule.{Rule}
use Rattle.affix_strip.proofs.lengths.longest_added.Given as goal

abbrev pub invariant-loop-rule : goal.invariant-loop-rule
invariant-loop-rule l = (place : ℕ) (rule : Rule) → place < l.rule-index
    → slice_get l.rules place ≡ Some rule → length rule.add ≤ l.found
