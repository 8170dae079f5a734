-- So far the rules are those of the lines before the loop's place, and their flags are ordinary.
use Rattle.std.proofs.Common.{◌≡◌, All, IfSome, map, take}
use Rattle.std.specs.Option.{option_copied}
use Rattle.spell_types.specs.Flags.{AreOrdinary}
use Rattle.spell_types.specs.Sanity.{IsOrdinaryRule}
use Rattle.aff_reader.specs.ClassLines.{Knows}
use Rattle.aff_reader.specs.ClassRules.{rule_without}
use Rattle.aff_reader.specs.Classes.{rules_said}
use Rattle.aff_reader.proofs.classes.read_rules.Given as goal

abbrev pub invariant-loop-line : goal.invariant-loop-line
invariant-loop-line l = record {
  known : Knows l.kind (take l.line-index l.rows) l.classes;
  ordinary : IfSome (option_copied l.aliases) (All AreOrdinary) → All IsOrdinaryRule l.rules;
  said : l.rules ≡ map (rule_without l.ignore)
      (rules_said l.kind (option_copied l.aliases) (take l.line-index l.rows));
}
