-- What is wrong with one line.
use Rattle.std.specs.Prelude.{ℕ, ◌^◌, Bool, true, ◌&&◌, nat_lt, List, map, is_some, slice_get}
use Rattle.std.specs.Prelude.{Option, None, Some, option_and_then, codes, if◌then◌else◌}
use Rattle.std.specs.Char.{to_ascii_lowercase}
use Rattle.std.specs.Str.{bytes_eq}
use Rattle.text_lines.specs.Fields.{decimal_of}
use Rattle.text_lines.specs.Fields.{fields}
use Rattle.spell_types.specs.declared.flags.FlagKind.{FlagKind}
use Rattle.spell_types.specs.declared.flags.FlagKind.TheVariants.{Utf8, Long, Num}
use Rattle.flag_sets.specs.FlagTexts.{listed_flags, one_flag}
use Rattle.aff_lines.specs.declared.faults.AffWhy.{AffWhy}
use Rattle.aff_lines.specs.declared.faults.AffWhy.TheVariants.{OtherEncoding, MissingField}
use Rattle.aff_lines.specs.declared.faults.AffWhy.TheVariants.{BadNumber, OtherFlag, BadFlag}
use Rattle.aff_lines.specs.declared.names.Form.{Form}
use Rattle.aff_lines.specs.declared.names.RowForm.{RowForm}
use Rattle.aff_lines.specs.declared.rows.DirectiveLine.{DirectiveLine}
use Rattle.aff_lines.specs.FlaggedTexts.{is_flagged}
use Rattle.aff_lines.specs.Rows.{value_of}

-- whether a text is this word, which is in lower case, in any ASCII case
abbrev pub is_spelled : List ℕ → List ℕ → Bool
is_spelled word text = bytes_eq (map to_ascii_lowercase text) word

-- whether a text names the encoding
abbrev pub is_utf8_name : List ℕ → Bool
is_utf8_name text = is_spelled (codes "utf-8") text

-- the type of flags that a text names
abbrev pub kind_named : List ℕ → Option FlagKind
kind_named text =
    if is_spelled (codes "utf-8") text then Some Utf8
    else (if is_spelled (codes "long") text then Some Long
    else (if is_spelled (codes "num") text then Some Num else None))

-- the number that a text writes, if it is below 2^32
abbrev pub number_in : List ℕ → Option ℕ
number_in text =
    option_and_then (λ number. if nat_lt number (2 ^ 32) then Some number else None)
    (decimal_of text)

-- whether a value is right for a directive that has one
abbrev pub is_fit_value : FlagKind → Form → List ℕ → Bool
is_fit_value kind Form.Encoding value = is_utf8_name value
is_fit_value kind Form.Kind value = is_some (kind_named value)
is_fit_value kind Form.Flag value = is_some (one_flag kind value)
is_fit_value kind Form.Number value = is_some (number_in value)
is_fit_value kind _ value = true

-- the cause where it is not; any text is right as a text
abbrev pub misfit : Form → AffWhy
misfit Form.Encoding = OtherEncoding
misfit Form.Kind = OtherFlag
misfit Form.Flag = BadFlag
misfit Form.Number = BadNumber
misfit _ = MissingField

abbrev pub unless : Bool → AffWhy → Option AffWhy
unless holds why = if holds then None else Some why

-- what is wrong with a needed value
abbrev pub value_why : FlagKind → Form → Option (List ℕ) → Option AffWhy
value_why kind form None = Some MissingField
value_why kind form (Some value) = unless (is_fit_value kind form value) (misfit form)

-- what is wrong with a line of a directive that has a value
abbrev pub line_why : FlagKind → Form → DirectiveLine → Option AffWhy
line_why kind form line = value_why kind form (value_of line)

abbrev pub flags_why : FlagKind → Option (List ℕ) → Option AffWhy
flags_why kind None = Some MissingField
flags_why kind (Some value) = unless (is_some (listed_flags kind value)) BadFlag

-- whether two fields stand behind a line's name
abbrev pub has_two_texts : DirectiveLine → Bool
has_two_texts line = is_some (slice_get (fields line.text) 2)

-- what is wrong with two texts that may have flags
abbrev pub flagged_why : FlagKind → Option (List ℕ) → Option (List ℕ) → Option AffWhy
flagged_why kind (Some first) (Some second) =
    unless (is_flagged kind first && is_flagged kind second) BadFlag
flagged_why kind _ _ = Some MissingField

-- what is wrong with a row of two texts that may have flags, with any text behind them
abbrev pub joint_why : FlagKind → DirectiveLine → Option AffWhy
joint_why kind line =
    flagged_why kind (slice_get (fields line.text) 1) (slice_get (fields line.text) 2)

-- what is wrong with a row of a table
abbrev pub row_why : FlagKind → RowForm → DirectiveLine → Option AffWhy
row_why kind RowForm.FlagField line = flags_why kind (value_of line)
row_why kind RowForm.OneText line = unless (is_some (value_of line)) MissingField
row_why kind RowForm.TwoTexts line = unless (has_two_texts line) MissingField
row_why kind RowForm.Joint line = joint_why kind line

-- the number in the field behind a line's name
abbrev pub number_behind_name : DirectiveLine → Option ℕ
number_behind_name line = option_and_then number_in (value_of line)
