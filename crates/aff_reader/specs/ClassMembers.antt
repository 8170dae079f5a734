-- The rules of a class, as its own lines say them.
use Rattle.std.specs.Prelude.{Bool, List, [], ◌∷◌, Option, take, unwrap_or}
use Rattle.std.specs.List.{filter_map}
use Rattle.std.specs.Result.{result_ok}
use Rattle.spell_types.specs.declared.flags.Flag.{Flag}
use Rattle.spell_types.specs.declared.flags.FlagKind.{FlagKind}
use Rattle.spell_types.specs.declared.rules.Rule.{Rule}
use Rattle.aff_lines.specs.declared.rows.DirectiveLine.{DirectiveLine}
use Rattle.aff_reader.specs.declared.class_lines.Class.{Class}
use Rattle.aff_reader.specs.ClassLines.{class_with, is_same_class, crossing_of, announced_count}
use Rattle.aff_reader.specs.ClassRules.{rule_of}

-- whether a rule is of a class
abbrev pub is_rule_of : Class → Rule → Bool
is_rule_of class rule = is_same_class class (class_with rule.side rule.flag)

-- The rules that the lines of a class say: the first line is the header, and so many lines behind
-- it as that announces are its rules. The header says for all of them whether they may be crossed.
abbrev pub rules_in : FlagKind → Option (List (List Flag)) → Class → List DirectiveLine → List Rule
rules_in kind aliases class [] = []
rules_in kind aliases class (header ∷ behind) =
    filter_map (λ line. result_ok (rule_of kind aliases class (crossing_of header) line))
    (take (unwrap_or (announced_count header) 0) behind)
