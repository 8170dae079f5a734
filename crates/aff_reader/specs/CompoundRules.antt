-- The compound rules of an .aff file: their faults, and what they say.
use Rattle.std.specs.Prelude.{ℕ, List, [], unwrap_or, Option, option_and_then, Result, Ok, Err}
use Rattle.std.specs.List.{flat_map}
use Rattle.std.specs.Result.{result_ok, result_err}
use Rattle.spell_types.specs.declared.flags.FlagKind.{FlagKind}
use Rattle.spell_types.specs.declared.patterns.PatternStep.{PatternStep}
use Rattle.compound_pattern.specs.declared.reading.PatternFault.{PatternFault}
use Rattle.compound_pattern.specs.declared.reading.PatternFault.TheVariants.{BadFlag as NoFlag}
use Rattle.compound_pattern.specs.PatternTexts.{pattern_of}
use Rattle.aff_lines.specs.declared.faults.AffWhy.{AffWhy}
use Rattle.aff_lines.specs.declared.faults.AffWhy.TheVariants.{BadFlag, BadPattern}
use Rattle.aff_lines.specs.declared.rows.DirectiveLine.{DirectiveLine}
use Rattle.aff_lines.specs.Faults.{Fault}
use Rattle.aff_lines.specs.Grammar.{faults_at}
use Rattle.aff_lines.specs.Passes.{table_rows}
use Rattle.aff_reader.specs.ClassLines.{field_of}

-- the rule, or the cause where a text is none
abbrev pub rule_or_cause : Result (List PatternStep) PatternFault → Result (List PatternStep) AffWhy
rule_or_cause (Ok rule) = Ok rule
rule_or_cause (Err NoFlag) = Err BadFlag
rule_or_cause (Err _) = Err BadPattern

-- the compound rule that a text is, or what is wrong with it
abbrev pub pattern_from : FlagKind → List ℕ → Result (List PatternStep) AffWhy
pattern_from kind text = rule_or_cause (pattern_of kind text)

-- what is wrong with the text of a row of COMPOUNDRULE, if it has one
abbrev pub pattern_why : FlagKind → DirectiveLine → Option AffWhy
pattern_why kind row =
    option_and_then (λ text. result_err (pattern_from kind text)) (field_of row 1)

-- the fault of the text of a row
abbrev pub text_faults : FlagKind → DirectiveLine → List Fault
text_faults kind row = faults_at (pattern_why kind row) row

-- the faults of the texts in the rows of COMPOUNDRULE, whose lines these are
abbrev pub pattern_faults : FlagKind → List DirectiveLine → List Fault
pattern_faults kind own = flat_map (text_faults kind) (unwrap_or (table_rows own) [])

-- the compound rule that a row says
abbrev pub pattern_in : FlagKind → DirectiveLine → Option (List PatternStep)
pattern_in kind row = option_and_then (λ text. result_ok (pattern_from kind text)) (field_of row 1)
