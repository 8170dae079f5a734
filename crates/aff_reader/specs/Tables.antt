-- What the tables of an .aff file say.
use Rattle.std.specs.Prelude.{ℕ, List, [], ◌∷◌, codes, unwrap_or, Option, None, Some}
use Rattle.std.specs.List.{filter_map}
use Rattle.std.specs.Option.{option_map}
use Rattle.std.specs.Str.{chars}
use Rattle.spell_types.specs.declared.breaks.Anchored.{Anchored}
use Rattle.spell_types.specs.declared.conversions.Conversion.{Conversion}
use Rattle.aff_lines.specs.declared.rows.DirectiveLine.{DirectiveLine}
use Rattle.aff_lines.specs.Passes.{table_rows}
use Rattle.aff_reader.specs.AnchoredTexts.{anchored_text_of}
use Rattle.aff_reader.specs.ClassLines.{field_of}

-- what the rows of a table say, in their order, where these are its lines
abbrev pub table_said : {A : Type 0} → (DirectiveLine → Option A) → List DirectiveLine → List A
table_said says own = filter_map says (unwrap_or (table_rows own) [])

-- the characters of a field of a row; where the file has no fault each row has those that it needs
abbrev pub text_at : DirectiveLine → ℕ → Option (List ℕ)
text_at row k = option_map chars (field_of row k)

abbrev pub conversion_of : Option (List ℕ) → Option (List ℕ) → Option Conversion
conversion_of (Some from) (Some to) = Some (record { from = from; to = to })
conversion_of _ _ = None

-- the conversion that a row of ICONV says
abbrev pub conversion_in : DirectiveLine → Option Conversion
conversion_in row = conversion_of (text_at row 1) (text_at row 2)

-- the break pattern that a row of BREAK says
abbrev pub break_of_row : DirectiveLine → Option Anchored
break_of_row row = option_map anchored_text_of (text_at row 1)

-- where words are broken if the file doesn't say: at a dash, and a dash at either end is left out
abbrev pub default_breaks : List Anchored
default_breaks = anchored_text_of (codes "-") ∷ anchored_text_of (codes "^-") ∷ anchored_text_of (codes "-$") ∷ []

abbrev pub breaks_of : Option (List DirectiveLine) → List Anchored
breaks_of None = default_breaks
breaks_of (Some rows) = filter_map break_of_row rows

-- the break patterns that the lines of BREAK list, in their order; a table without rows leaves none
abbrev pub breaks_said : List DirectiveLine → List Anchored
breaks_said own = breaks_of (table_rows own)
