-- The rule that a line says.
use Rattle.std.specs.Prelude.{ℕ, Bool, List, [], ◌∷◌, nat_eq, unwrap_or, Option, None, Some, Result}
use Rattle.std.specs.Prelude.{Ok, Err, if◌then◌else◌}
use Rattle.std.specs.Cmp.Lexicographic.{pointwise}
use Rattle.std.specs.Str.{chars}
use Rattle.spell_types.specs.declared.flags.FlagKind.{FlagKind}
use Rattle.spell_types.specs.declared.flags.Flag.{Flag}
use Rattle.spell_types.specs.declared.rules.Piece.{Piece}
use Rattle.spell_types.specs.declared.rules.Rule.{Rule}
use Rattle.spell_types.specs.Conversions.{without_ignored}
use Rattle.flag_sets.specs.declared.FlagFault.{FlagFault}
use Rattle.flag_sets.specs.declared.FlagFault.TheVariants.{BadAlias as NoAlias}
use Rattle.flag_sets.specs.FlagTexts.{flag_field}
use Rattle.flag_sets.specs.Slashes.{before_slash, behind_slash}
use Rattle.affix_classes.specs.ConditionTexts.{condition_of}
use Rattle.aff_lines.specs.declared.faults.AffWhy.{AffWhy}
use Rattle.aff_lines.specs.declared.faults.AffWhy.TheVariants.{BadFlag, BadAlias, BadCondition}
use Rattle.aff_lines.specs.declared.rows.DirectiveLine.{DirectiveLine}
use Rattle.aff_reader.specs.declared.class_lines.Class.{Class}
use Rattle.aff_reader.specs.declared.class_lines.Crossing.{Crossing}
use Rattle.aff_reader.specs.ClassLines.{field_of, allows_crossing}

-- whether a text is `0`
abbrev pub is_zero : List ℕ → Bool
is_zero characters = pointwise nat_eq characters (48 ∷ [])

-- the characters that a text stands for: `0` is nothing
abbrev pub unless_zero : List ℕ → List ℕ
unless_zero characters = if is_zero characters then [] else characters

-- what a rule strips off
abbrev pub strip_of : List ℕ → List ℕ
strip_of text = unless_zero (chars text)

-- what a rule adds: the text before the slash
abbrev pub add_of : List ℕ → List ℕ
add_of affix = unless_zero (chars (before_slash affix))

-- the set, or the cause where a text is no flag field
abbrev pub set_or_cause : Result (List Flag) FlagFault → Result (List Flag) AffWhy
set_or_cause (Ok set) = Ok set
set_or_cause (Err NoAlias) = Err BadAlias
set_or_cause (Err _) = Err BadFlag

-- the set of the flags behind the slash; without a slash there are none
abbrev pub carried_of : FlagKind → Option (List (List Flag)) → Option (List ℕ)
    → Result (List Flag) AffWhy
carried_of kind aliases None = Ok []
carried_of kind aliases (Some text) = set_or_cause (flag_field kind aliases text)

-- the condition of a rule; a rule without one asks nothing
abbrev pub condition_asked : Option (List ℕ) → Option (List Piece)
condition_asked None = Some []
condition_asked (Some text) = condition_of text

-- a rule, where its flags and its condition are right, or the first cause
abbrev pub rule_with : Class → Crossing → List ℕ → List ℕ → Result (List Flag) AffWhy
    → Option (List Piece) → Result Rule AffWhy
rule_with class crossing strip add (Err why) condition = Err why
rule_with class crossing strip add (Ok carried) None = Err BadCondition
rule_with class crossing strip add (Ok carried) (Some condition) =
    Ok (record {
      side = class.side;
      flag = class.flag;
      cross = allows_crossing crossing;
      strip = strip;
      add = add;
      carried = carried;
      condition = condition;
    })

-- the rule of a class whose fields 2, 3 and 4 are these texts
unfoldable pub rule_from : FlagKind → Option (List (List Flag)) → Class → Crossing → List ℕ → List ℕ
    → Option (List ℕ) → Result Rule AffWhy
rule_from kind aliases class crossing strip affix condition =
    rule_with class crossing (strip_of strip) (add_of affix)
    (carried_of kind aliases (behind_slash affix)) (condition_asked condition)

-- the rule that a line of a class says, or what is wrong with it
abbrev pub rule_of : FlagKind → Option (List (List Flag)) → Class → Crossing → DirectiveLine
    → Result Rule AffWhy
rule_of kind aliases class crossing line =
    rule_from kind aliases class crossing (unwrap_or (field_of line 2) [])
    (unwrap_or (field_of line 3) []) (field_of line 4)

-- the rule without the characters to ignore: they are left out of what it strips off and adds, and
-- kept in its condition
abbrev pub rule_without : List ℕ → Rule → Rule
rule_without ignore rule = record {
  side = rule.side;
  flag = rule.flag;
  cross = rule.cross;
  strip = without_ignored ignore rule.strip;
  add = without_ignored ignore rule.add;
  carried = rule.carried;
  condition = rule.condition;
}
