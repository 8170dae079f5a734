-- Affixes undone from a word.
use Rattle.std.specs.Prelude.{ℕ, Bool, List, Option, option_and_then}
use Rattle.spell_types.specs.declared.Affixes.{Affixes}
use Rattle.spell_types.specs.declared.rules.Rule.{Rule}
use Rattle.spell_types.specs.declared.rules.Side.{Side}
use Rattle.spell_types.specs.Attaching.{attached, IsUndone}
use Rattle.spell_types.specs.Derivations.{rule_on}
use Rattle.affix_classes.specs.Undoing.{undone_on}

-- undoing a rule leads back from each word that attaching it gives, and from no other
abbrev pub LeadsBack : Type 0
LeadsBack = (full_strip : Bool) (rule : Rule) (word : List ℕ)
    → IsUndone (attached full_strip rule) word (undone_on rule.side full_strip rule word)

-- the word that the rule with a place was attached to, if it is one of the side
abbrev pub undone_at : Affixes → Side → ℕ → List ℕ → Option (List ℕ)
undone_at affixes side place word =
    option_and_then (λ rule. undone_on side affixes.options.full_strip rule word)
    (rule_on affixes.rules side place)
