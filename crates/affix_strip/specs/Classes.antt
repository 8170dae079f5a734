-- The flags of affix classes.
use Rattle.std.specs.Prelude.{◌≡◌, ℕ, true, List, slice_get, Some}
use Rattle.spell_types.specs.declared.flags.Flag.{Flag}
use Rattle.spell_types.specs.declared.rules.Rule.{Rule}
use Rattle.spell_types.specs.Flags.{has}

-- the set has the flag of each rule's class
pub record HasClasses (rules : List Rule) (set : List Flag) : Type 0 where
  pub flags : (place : ℕ) (rule : Rule) → slice_get rules place ≡ Some rule
      → has set (Some rule.flag) ≡ true
