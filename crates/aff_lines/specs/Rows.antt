-- The lines of directives in an .aff file, and the lines of one directive.
use Rattle.std.specs.Prelude.{◌≡◌, ℕ, ◌<◌, List, [], ◌∷◌, length, slice_get, Option, None, Some}
use Rattle.std.specs.Prelude.{option_and_then, Contains}
use Rattle.std.specs.Borrow.{Bor}
use Rattle.std.specs.List.{filter, filter_map}
use Rattle.std.specs.Option.{option_map}
use Rattle.text_lines.specs.declared.found.Line.{Line}
use Rattle.text_lines.specs.Fields.{fields}
use Rattle.text_lines.specs.Lines.{text_of, good_lines}
use Rattle.aff_lines.specs.declared.names.Directive.{Directive}
use Rattle.aff_lines.specs.declared.rows.DirectiveLine.{DirectiveLine}
use Rattle.aff_lines.specs.Names.{Description, all_directives, directive_named, is_same_directive}
use Rattle.aff_lines.specs.Names.{names_of_directive}

-- the directive that the first field of a line names; a blank line has no field, and the first of a
-- comment is no name
abbrev pub directive_of : List ℕ → Option Directive
directive_of text = option_and_then directive_named (slice_get (fields text) 0)

abbrev pub row_with : ℕ → List ℕ → Directive → DirectiveLine
row_with number text directive = record { number = number; directive = directive; text = text }

-- the row of a line; one that begins with no name of a directive is no row
abbrev pub row_of : ℕ → List ℕ → Option DirectiveLine
row_of number text = option_map (row_with number text) (directive_of text)

abbrev pub row_in : List ℕ → Line → Option DirectiveLine
row_in bytes line = row_of line.number (text_of bytes line)

-- the rows of a file, up to the first line that is not UTF-8
abbrev pub rows_of : List ℕ → List DirectiveLine
rows_of bytes = filter_map (row_in bytes) (good_lines bytes)

-- the lines of a directive
abbrev pub lines_of : Directive → List DirectiveLine → List DirectiveLine
lines_of directive rows = filter (λ row. is_same_directive row.directive directive) rows

-- the name is one of the directive's in the table
abbrev pub IsNameOf : Directive → List ℕ → Type 0
IsNameOf directive name = (row : Description) × Contains all_directives row
    × (row.directive ≡ directive) × Contains (names_of_directive row) name

-- the first field of the line is a name of the directive
abbrev pub BeginsWithDirective : Directive → List ℕ → Type 0
BeginsWithDirective directive text =
    (name : List ℕ) × (slice_get (fields text) 0 ≡ Some name) × IsNameOf directive name

-- the field behind a line's name
abbrev pub value_of : DirectiveLine → Option (List ℕ)
value_of line = slice_get (fields line.text) 1

-- the next line of a directive, and rows in which its other lines are; or it has none
abbrev pub IsNext : Directive → List DirectiveLine
    → Option (Bor DirectiveLine × Bor (List DirectiveLine)) → Type 0
IsNext directive rows None = lines_of directive rows ≡ []
IsNext directive rows (Some (line, more)) =
    (lines_of directive rows ≡ line.now ∷ lines_of directive more.now)
    × (length more.now < length rows)
