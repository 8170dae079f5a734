-- The grammar of the .aff file: the faults of its four passes, and what it says.
use Rattle.std.specs.Prelude.{◌≡◌, ℕ, List, [], ◌∷◌, ◌++◌, map, max, Option, None, Some, Result, Ok}
use Rattle.std.specs.Prelude.{Err, unwrap_or}
use Rattle.std.specs.Str.{chars}
use Rattle.spell_types.specs.declared.Affixes.{Affixes}
use Rattle.spell_types.specs.declared.flags.Flag.{Flag}
use Rattle.spell_types.specs.declared.flags.FlagKind.{FlagKind}
use Rattle.spell_types.specs.declared.signs.Options.{Options}
use Rattle.spell_types.specs.declared.signs.Signs.{Signs}
use Rattle.aff_lines.specs.declared.faults.AffFault.{AffFault}
use Rattle.aff_lines.specs.declared.faults.AffFault.TheVariants.{At, NoMemory}
use Rattle.aff_lines.specs.declared.names.Directive.TheVariants as Directive
use Rattle.aff_lines.specs.declared.names.Pass.TheVariants as Pass
use Rattle.aff_lines.specs.declared.rows.DirectiveLine.{DirectiveLine}
use Rattle.line_faults.specs.Faults.{IsFault}
use Rattle.aff_lines.specs.Faults.{Fault, first_fault, Refuses}
use Rattle.aff_lines.specs.Passes.{early_passes, pass_faults, kind_said, aliases_said, flag_said}
use Rattle.aff_lines.specs.Passes.{number_said, is_said, value_said}
use Rattle.aff_lines.specs.Rows.{rows_of, lines_of}
use Rattle.aff_reader.specs.ClassRules.{rule_without}
use Rattle.aff_reader.specs.Classes.{class_faults, rules_said}
use Rattle.aff_reader.specs.CompoundRules.{pattern_faults, pattern_in}
use Rattle.aff_reader.specs.CompoundTables.{rep_in, joint_in}
use Rattle.aff_reader.specs.Tables.{table_said, conversion_in, breaks_said}

-- the type of flags of a file
abbrev pub flag_kind_of_file : List ℕ → FlagKind
flag_kind_of_file bytes = kind_said (lines_of Directive.FlagType (rows_of bytes))

-- the flag aliases of a file, if it has any
abbrev pub aliases_of : List ℕ → Option (List (List Flag))
aliases_of bytes = aliases_said (flag_kind_of_file bytes) (lines_of Directive.FlagAliases (rows_of bytes))

-- the faults of the fourth pass: those of each option, those of compound rules, and those of affix
-- classes
abbrev pub late_faults : FlagKind → Option (List (List Flag)) → List DirectiveLine → List Fault
late_faults kind aliases rows =
    pass_faults kind rows Pass.Fourth
    ++ (pattern_faults kind (lines_of Directive.CompoundRule rows)
    ++ class_faults kind aliases rows)

-- the faults of a file, pass by pass
abbrev pub aff_passes : List ℕ → List (List Fault)
aff_passes bytes =
    early_passes bytes ++ late_faults (flag_kind_of_file bytes) (aliases_of bytes) (rows_of bytes) ∷ []

-- the flags with a meaning
abbrev pub signs_said : FlagKind → List DirectiveLine → Signs
signs_said kind rows = record {
  need_affix = flag_said kind (lines_of Directive.NeedAffix rows);
  circumfix = flag_said kind (lines_of Directive.Circumfix rows);
  forbidden = flag_said kind (lines_of Directive.ForbiddenWord rows);
  keep_case = flag_said kind (lines_of Directive.KeepCase rows);
  warn = flag_said kind (lines_of Directive.Warn rows);
  compound = flag_said kind (lines_of Directive.CompoundFlag rows);
  begin = flag_said kind (lines_of Directive.CompoundBegin rows);
  middle = flag_said kind (lines_of Directive.CompoundMiddle rows);
  last = flag_said kind (lines_of Directive.CompoundLast rows);
  permit = flag_said kind (lines_of Directive.CompoundPermitFlag rows);
  forbid = flag_said kind (lines_of Directive.CompoundForbidFlag rows);
  only_inside = flag_said kind (lines_of Directive.OnlyInCompound rows);
  force_upper = flag_said kind (lines_of Directive.ForceUpperCase rows);
}

-- how many characters a part of a compound has at least: three if the file doesn't say, and never
-- none
abbrev pub compound_min_said : Option ℕ → ℕ
compound_min_said number = max 1 (unwrap_or number 3)

-- the switches and the numbers
abbrev pub options_said : List DirectiveLine → Options
options_said rows = record {
  full_strip = is_said (lines_of Directive.FullStrip rows);
  forbid_warn = is_said (lines_of Directive.ForbidWarn rows);
  more_suffixes = is_said (lines_of Directive.CompoundMoreSuffixes rows);
  check_dup = is_said (lines_of Directive.CheckCompoundDuplicates rows);
  check_case = is_said (lines_of Directive.CheckCompoundCase rows);
  check_triple = is_said (lines_of Directive.CheckCompoundTriple rows);
  simplified = is_said (lines_of Directive.SimplifiedTriple rows);
  sharps = is_said (lines_of Directive.CheckSharps rows);
  check_rep = is_said (lines_of Directive.CheckCompoundReplacements rows);
  compound_min = compound_min_said (number_said (lines_of Directive.CompoundMinimum rows));
  word_max = number_said (lines_of Directive.CompoundWordMaximum rows);
}

-- the characters of a text that may be there
abbrev pub characters_said : Option (List ℕ) → List ℕ
characters_said value = chars (unwrap_or value [])

-- the characters to ignore
abbrev pub ignored_said : List DirectiveLine → List ℕ
ignored_said rows = characters_said (value_said (lines_of Directive.Ignore rows))

-- what the rows say, beside the type of flags and the aliases
abbrev pub affixes_said : FlagKind → Option (List (List Flag)) → List DirectiveLine → Affixes
affixes_said kind aliases rows = record {
  kind = kind;
  aliases = aliases;
  rules = map (rule_without (ignored_said rows)) (rules_said kind aliases rows);
  signs = signs_said kind rows;
  options = options_said rows;
  ignore = ignored_said rows;
  wordchars = characters_said (value_said (lines_of Directive.WordCharacters rows));
  iconv = table_said conversion_in (lines_of Directive.InputConversion rows);
  reps = table_said rep_in (lines_of Directive.Replacement rows);
  breaks = breaks_said (lines_of Directive.Break rows);
  joints = table_said (joint_in kind) (lines_of Directive.CheckCompoundPattern rows);
  patterns = table_said (pattern_in kind) (lines_of Directive.CompoundRule rows);
}

-- what a file without faults says
abbrev pub aff_said : List ℕ → Affixes
aff_said bytes = affixes_said (flag_kind_of_file bytes) (aliases_of bytes) (rows_of bytes)

abbrev pub unless_fault : Option Fault → Affixes → Result Affixes Fault
unless_fault None affixes = Ok affixes
unless_fault (Some fault) affixes = Err fault

-- what is read of a file, or its first fault
unfoldable pub aff_read : List ℕ → Result Affixes Fault
aff_read bytes = unless_fault (first_fault (aff_passes bytes)) (aff_said bytes)

-- the file has no fault, and this is what it says
pub record AffReads (bytes : List ℕ) (affixes : Affixes) : Type 0 where
  pub no_fault : (pass : ℕ) (fault : Fault) → ¬ IsFault (aff_passes bytes) pass fault
  pub says : affixes ≡ aff_said bytes

-- the fault is the first of the file: of the first pass that has one, at the lowest line, and there
-- of the lowest cause
abbrev pub AffRefuses : List ℕ → AffFault → Type 0
AffRefuses bytes fault = Refuses (aff_passes bytes) fault

-- the reader gives this, or has no memory
abbrev pub IsRead : Result Affixes Fault → Result Affixes AffFault → Type 0
IsRead read (Ok affixes) = read ≡ Ok affixes
IsRead read (Err (At line why)) = read ≡ Err (record { line = line; why = why })
IsRead read (Err NoMemory) = Unit {0}
