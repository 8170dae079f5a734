-- So far what the wanted rules before the loop's place add is noted.
use Rattle.std.proofs.Common.{◌≡◌, ℕ, ◌<◌, true, slice_get, Some}
use Rattle.spell_types.specs.declared.rules.Rule.{Rule}
use Rattle.affix_strip.specs.Edges.{is_wanted, IsNoted}
use Rattle.affix_strip.proofs.edges.Edge.new.Given as goal

abbrev pub invariant-loop-rule : goal.invariant-loop-rule
invariant-loop-rule l = (place : ℕ) (rule : Rule) → place < l.rule-index
    → slice_get l.rules place ≡ Some rule → is_wanted l.side l.those rule ≡ true
    → IsNoted l.edge rule
