-- The faults of the passes, and what the first three of them say.
use Rattle.std.specs.Prelude.{◌≡◌, ℕ, ◌==◌, Bool, not, length, List, [], ◌∷◌, ◌++◌, map, take}
use Rattle.std.specs.Prelude.{unwrap_or, Option, None, Some, option_and_then, Result, Ok, Err}
use Rattle.std.specs.Prelude.{if◌then◌else◌}
use Rattle.std.specs.Borrow.{Bor}
use Rattle.std.specs.List.{flat_map}
use Rattle.text_lines.specs.Lines.{bad_line}
use Rattle.spell_types.specs.declared.flags.FlagKind.{FlagKind}
use Rattle.spell_types.specs.declared.flags.FlagKind.TheVariants.{Single}
use Rattle.spell_types.specs.declared.flags.Flag.{Flag}
use Rattle.line_faults.specs.Faults.{IsFault, fault_at}
use Rattle.flag_sets.specs.declared.FlagFault.{FlagFault}
use Rattle.flag_sets.specs.FlagTexts.{flag_field, one_flag}
use Rattle.aff_lines.specs.declared.Directives.{Directives}
use Rattle.aff_lines.specs.declared.faults.AffFault.{AffFault}
use Rattle.aff_lines.specs.declared.faults.AffFault.TheVariants.{At, NoMemory}
use Rattle.aff_lines.specs.declared.faults.AffWhy.TheVariants.{NotUtf8}
use Rattle.aff_lines.specs.declared.names.Directive.{Directive}
use Rattle.aff_lines.specs.declared.names.Form.{Form}
use Rattle.aff_lines.specs.declared.names.Pass.{Pass}
use Rattle.aff_lines.specs.declared.rows.DirectiveLine.{DirectiveLine}
use Rattle.aff_lines.specs.Causes.{number_behind_name, number_in, kind_named}
use Rattle.aff_lines.specs.Faults.{Fault, first_fault}
use Rattle.aff_lines.specs.Grammar.{once_faults, table_faults, all_left_out}
use Rattle.aff_lines.specs.Rows.{rows_of, lines_of, value_of}
use Rattle.aff_lines.specs.Names.{Description, is_of_pass, directives_in}

-- The faults of a directive of this form that has these lines. A switch has none, and those of
-- affix classes are asked of the lines of both sides together, not here.
abbrev pub form_faults : FlagKind → Form → List DirectiveLine → List Fault
form_faults kind Form.Encoding own = once_faults kind Form.Encoding own
form_faults kind Form.Kind own = once_faults kind Form.Kind own
form_faults kind Form.Text own = once_faults kind Form.Text own
form_faults kind Form.Flag own = once_faults kind Form.Flag own
form_faults kind Form.Number own = once_faults kind Form.Number own
form_faults kind Form.Switch own = []
form_faults kind Form.Class own = []
form_faults kind (Form.Table row) own = table_faults kind row own
form_faults kind Form.LeftOut own = all_left_out own

-- the faults of a directive
abbrev pub directive_faults : FlagKind → List DirectiveLine → Description → List Fault
directive_faults kind rows row = form_faults kind row.form (lines_of row.directive rows)

-- the faults of a pass
abbrev pub pass_faults : FlagKind → List DirectiveLine → Pass → List Fault
pass_faults kind rows pass = flat_map (directive_faults kind rows) (directives_in pass)

-- the faults of a directive, if it is one of the pass
abbrev pub faults_in : FlagKind → List DirectiveLine → Pass → Description → List Fault
faults_in kind rows pass row = if is_of_pass pass row then directive_faults kind rows row else []

-- the value of the first line, if it is there
abbrev pub value_said : List DirectiveLine → Option (List ℕ)
value_said [] = None
value_said (line ∷ later) = value_of line

-- the type of flags that the lines of FLAG say
abbrev pub kind_said : List DirectiveLine → FlagKind
kind_said own = unwrap_or (option_and_then kind_named (value_said own)) Single

-- the flag of a directive
abbrev pub flag_said : FlagKind → List DirectiveLine → Option Flag
flag_said kind own = option_and_then (one_flag kind) (value_said own)

-- the number of a directive
abbrev pub number_said : List DirectiveLine → Option ℕ
number_said own = option_and_then number_in (value_said own)

-- whether a switch is there
abbrev pub is_said : List DirectiveLine → Bool
is_said own = not (length own == 0)

-- the rows of a table, if it is there
abbrev pub table_rows : List DirectiveLine → Option (List DirectiveLine)
table_rows [] = None
table_rows (header ∷ later) = Some (take (unwrap_or (number_behind_name header) 0) later)

-- the lines that references lead to
abbrev pub lines_at : List (Bor DirectiveLine) → List DirectiveLine
lines_at lines = map (λ line. line.now) lines

abbrev pub or_empty : Result (List Flag) FlagFault → List Flag
or_empty (Ok set) = set
or_empty (Err fault) = []

-- the set in the field behind a line's name
abbrev pub set_in : FlagKind → DirectiveLine → List Flag
set_in kind line = or_empty (flag_field kind None (unwrap_or (value_of line) []))

abbrev pub sets_in : FlagKind → Option (List DirectiveLine) → Option (List (List Flag))
sets_in kind None = None
sets_in kind (Some rows) = Some (map (set_in kind) rows)

-- the sets that the lines of AF list
abbrev pub aliases_said : FlagKind → List DirectiveLine → Option (List (List Flag))
aliases_said kind own = sets_in kind (table_rows own)

-- the fault of the first line that is not UTF-8
abbrev pub bad_faults : Option ℕ → List Fault
bad_faults None = []
bad_faults (Some line) = fault_at line NotUtf8 ∷ []

-- the faults of the first three passes over these rows, where this is the first line that is not
-- UTF-8
abbrev pub passes_of : Option ℕ → List DirectiveLine → List (List Fault)
passes_of bad rows =
    let kind = kind_said (lines_of Directive.FlagType rows) in
    (pass_faults kind rows Pass.First ++ bad_faults bad) ∷ pass_faults kind rows Pass.Second
    ∷ pass_faults kind rows Pass.Third ∷ []

-- the faults of the first three passes over a file
abbrev pub early_passes : List ℕ → List (List Fault)
early_passes bytes = passes_of (bad_line bytes) (rows_of bytes)

-- what the first three passes over a file without faults say
pub record SaysDirectives (bytes : List ℕ) (found : Directives) : Type 0 where
  pub kind : found.kind ≡ kind_said (lines_of Directive.FlagType (rows_of bytes))
  pub aliases : found.aliases ≡ aliases_said found.kind
      (lines_of Directive.FlagAliases (rows_of bytes))
  pub kept : found.kept ≡ rows_of bytes

-- the file has no fault in the first three passes, and this is what they say
pub record Reads (bytes : List ℕ) (found : Directives) : Type 0 where
  pub no_fault : (pass : ℕ) (fault : Fault) → ¬ IsFault (early_passes bytes) pass fault
  pub says : SaysDirectives bytes found

-- the fault is the first of the passes
abbrev pub IsFirst : List (List Fault) → AffFault → Type 0
IsFirst passes (At line why) = first_fault passes ≡ Some (fault_at line why)
IsFirst passes NoMemory = Unit {0}
