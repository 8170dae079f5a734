-- The affix rules that flags allow.
use Rattle.std.specs.Prelude.{◌≡◌, ℕ, Bool, true, List, Contains, Option, None, Some}
use Rattle.std.specs.List.Sorted.{IsNonDecreasingBy}
use Rattle.spell_types.specs.declared.flags.Flag.{Flag}
use Rattle.spell_types.specs.declared.rules.Rule.{Rule}
use Rattle.spell_types.specs.declared.rules.Side.{Side}
use Rattle.spell_types.specs.declared.rules.Side.TheVariants.{Prefix, Suffix}
use Rattle.spell_types.specs.Derivations.{rule_on}
use Rattle.spell_types.specs.Flags.{has}
use Rattle.form_lister.specs.declared.choices.RuleRow.{RuleRow}
use Rattle.form_lister.specs.declared.choices.RulesByFlag.{RulesByFlag}

-- whether a flag has this number
abbrev pub has_number : List Flag → ℕ → Bool
has_number flags number = has flags (Some (record { 0 = number }))

-- the rows with this flag are among these
abbrev pub HasRowsOf : List RuleRow → ℕ → List RuleRow → Type 0
HasRowsOf rows flag found = (row : RuleRow) → Contains rows row → row.flag ≡ flag → Contains found row

-- the places of the rows that have one of the flags are among these
abbrev pub HasPlaces : List RuleRow → List Flag → List (Option ℕ) → Type 0
HasPlaces rows flags named = (row : RuleRow) → Contains rows row → has_number flags row.flag ≡ true
    → Contains named (Some row.place)

-- each rule of the side has its row
abbrev pub HasRules : List Rule → Side → List RuleRow → Type 0
HasRules rules side rows = (place : ℕ) (rule : Rule) → rule_on rules side place ≡ Some rule
    → Contains rows (record { flag = rule.flag.0; place = place })

-- and the rows rise by their flags
pub record AreRowsOfRules (rules : List Rule) (side : Side) (rows : List RuleRow) : Type 0 where
  pub has : HasRules rules side rows
  pub rising : IsNonDecreasingBy (λ row. row.flag) rows

-- these are the rules by their flags
pub record AreByFlag (rules : List Rule) (table : RulesByFlag) : Type 0 where
  pub prefixes : AreRowsOfRules rules Prefix table.prefixes.items
  pub suffixes : AreRowsOfRules rules Suffix table.suffixes.items

-- each rule of the side that one of the flags allows is among these
abbrev pub HasAllowed : List Rule → Side → List Flag → List (Option ℕ) → Type 0
HasAllowed rules side flags named = (place : ℕ) (rule : Rule) → rule_on rules side place ≡ Some rule
    → has flags (Some rule.flag) ≡ true → Contains named (Some place)

-- and so is no rule
pub record HasChoices (rules : List Rule) (side : Side) (flags : List Flag)
    (named : List (Option ℕ)) : Type 0 where
  pub none : Contains named None
  pub allowed : HasAllowed rules side flags named
