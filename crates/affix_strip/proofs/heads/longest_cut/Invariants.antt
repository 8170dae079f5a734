-- No rule before the loop's place takes off more.
use Rattle.std.proofs.Common.{◌≡◌, ℕ, ◌<◌, ◌≤◌, slice_get, Some}
use Rattle.spell_types.specs.declared.rules.Rule.{Rule}
use Rattle.affix_strip.specs.Heads.{cut_of}
use Rattle.affix_strip.proofs.heads.longest_cut.Given as goal

abbrev pub invariant-loop-rule : goal.invariant-loop-rule
invariant-loop-rule l = (place : ℕ) (rule : Rule) → place < l.rule-index
    → slice_get l.rules place ≡ Some rule → cut_of l.classes l.longest rule ≤ l.found
