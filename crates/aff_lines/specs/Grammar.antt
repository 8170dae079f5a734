-- The faults of the lines of one directive.
use Rattle.std.specs.Prelude.{ℕ, ◌==◌, nat_le, List, [], ◌∷◌, ◌++◌, take, drop, length, Option}
use Rattle.std.specs.Prelude.{None, Some, if◌then◌else◌}
use Rattle.std.specs.List.{flat_map}
use Rattle.spell_types.specs.declared.flags.FlagKind.{FlagKind}
use Rattle.line_faults.specs.Faults.{fault_at}
use Rattle.aff_lines.specs.declared.faults.AffWhy.{AffWhy}
use Rattle.aff_lines.specs.declared.faults.AffWhy.TheVariants.{LeftOut, Twice, TooMany, TableShort}
use Rattle.aff_lines.specs.declared.names.Form.{Form}
use Rattle.aff_lines.specs.declared.names.RowForm.{RowForm}
use Rattle.aff_lines.specs.declared.rows.DirectiveLine.{DirectiveLine}
use Rattle.aff_lines.specs.Faults.{Fault}
use Rattle.aff_lines.specs.Causes.{unless, line_why, row_why, number_behind_name}

abbrev pub at : AffWhy → DirectiveLine → Fault
at why line = fault_at line.number why

abbrev pub faults_at : Option AffWhy → DirectiveLine → List Fault
faults_at None line = []
faults_at (Some why) line = at why line ∷ []

-- A directive with one value: its first line has to be right, and every later one is one too many.

abbrev pub later_faults : FlagKind → Form → DirectiveLine → List Fault
later_faults kind form line = at Twice line ∷ faults_at (line_why kind form line) line

abbrev pub once_faults : FlagKind → Form → List DirectiveLine → List Fault
once_faults kind form [] = []
once_faults kind form (first ∷ later) =
    faults_at (line_why kind form first) first ++ flat_map (later_faults kind form) later

-- A table: its first line is the header, so many lines as that says are its rows, and every line
-- past them is one too many.

abbrev pub row_faults : FlagKind → RowForm → DirectiveLine → List Fault
row_faults kind row line = faults_at (row_why kind row line) line

abbrev pub past_faults : DirectiveLine → List Fault
past_faults line = at Twice line ∷ []

abbrev pub rows_faults : FlagKind → RowForm → ℕ → List DirectiveLine → List Fault
rows_faults kind row count lines =
    flat_map (row_faults kind row) (take count lines) ++ flat_map past_faults (drop count lines)

-- the faults of a line behind a header where so many rows are still wanted
abbrev pub place_faults : FlagKind → RowForm → ℕ → DirectiveLine → List Fault
place_faults kind row left line = if left == 0 then past_faults line else row_faults kind row line

abbrev pub counted_faults : FlagKind → RowForm → DirectiveLine → List DirectiveLine → Option ℕ
    → List Fault
counted_faults kind row header later None = []
counted_faults kind row header later (Some count) =
    faults_at (unless (nat_le count 65000) TooMany) header
    ++ (faults_at (unless (nat_le count (length later)) TableShort) header
    ++ rows_faults kind row count later)

abbrev pub table_faults : FlagKind → RowForm → List DirectiveLine → List Fault
table_faults kind row [] = []
table_faults kind row (header ∷ later) =
    faults_at (line_why kind Form.Number header) header ++ counted_faults kind row header later
    (number_behind_name header)

-- A directive that is not built: each line of it is a fault.

abbrev pub left_out_faults : DirectiveLine → List Fault
left_out_faults line = at LeftOut line ∷ []

abbrev pub all_left_out : List DirectiveLine → List Fault
all_left_out own = flat_map left_out_faults own
