-- No rule before the loop's place strips off more.
use Rattle.std.proofs.Common.{◌≡◌, ℕ, ◌<◌, ◌≤◌, length, slice_get, Some}
use Rattle.spell_types.specs.declared.rules.Rule.{Rule}
use Rattle.affix_strip.proofs.heads.longest_strip.Given as goal

abbrev pub invariant-loop-rule : goal.invariant-loop-rule
invariant-loop-rule l = (place : ℕ) (rule : Rule) → place < l.rule-index
    → slice_get l.rules place ≡ Some rule → length rule.strip ≤ l.found
