-- What the tables of an .aff file say of compounds.
use Rattle.std.specs.Prelude.{ℕ, ◌==◌, Bool, List, map, codes, nat_eq, Option, None, Some}
use Rattle.std.specs.Prelude.{option_and_then, if◌then◌else◌}
use Rattle.std.specs.List.{starts_with}
use Rattle.std.specs.Str.{chars}
use Rattle.spell_types.specs.declared.conversions.Rep.{Rep}
use Rattle.spell_types.specs.declared.flags.FlagKind.{FlagKind}
use Rattle.spell_types.specs.declared.joints.JointPattern.{JointPattern}
use Rattle.aff_lines.specs.declared.rows.DirectiveLine.{DirectiveLine}
use Rattle.aff_lines.specs.FlaggedTexts.{bare_text, flag_behind}
use Rattle.aff_reader.specs.AnchoredTexts.{anchored_text_of}
use Rattle.aff_reader.specs.ClassLines.{field_of}
use Rattle.aff_reader.specs.ClassRules.{is_zero, unless_zero}
use Rattle.aff_reader.specs.Tables.{text_at}

-- what a character of a text of REP stands for: an underscore is a space there
abbrev pub meant_by : ℕ → ℕ
meant_by c = if c == 95 then 32 else c

abbrev pub spaced : List ℕ → List ℕ
spaced text = map meant_by text

abbrev pub rep_of : Option (List ℕ) → Option (List ℕ) → Option Rep
rep_of (Some from) (Some to) = Some (record { from = anchored_text_of (spaced from); to = spaced to })
rep_of _ _ = None

-- the misspelling that a row of REP says
abbrev pub rep_in : DirectiveLine → Option Rep
rep_in row = rep_of (text_at row 1) (text_at row 2)

-- whether a text is a remark: it begins with `#`
abbrev pub is_remark : List ℕ → Bool
is_remark text = starts_with nat_eq text (codes "#")

abbrev pub unless_remark : List ℕ → Option (List ℕ)
unless_remark text = if is_remark text then None else Some text

-- what a row puts in place of what it names on both sides: its third text as it stands, unless that
-- is a remark
abbrev pub replacement_in : DirectiveLine → Option (List ℕ)
replacement_in row = option_and_then unless_remark (text_at row 3)

-- Two parts that may not meet as they are, by what is written for the left and for the right one,
-- and how they may meet. Only of the left one `0` is the word as it is.
abbrev pub joint_pattern_of : FlagKind → List ℕ → List ℕ → Option (List ℕ) → JointPattern
joint_pattern_of kind left right replacement = record {
  end = unless_zero (chars (bare_text left));
  unmodified = is_zero (chars (bare_text left));
  end_flag = flag_behind kind left;
  begin = chars (bare_text right);
  begin_flag = flag_behind kind right;
  replacement = replacement;
}

abbrev pub joint_of : FlagKind → Option (List ℕ) → Option (List ℕ) → Option (List ℕ)
    → Option JointPattern
joint_of kind (Some left) (Some right) replacement = Some (joint_pattern_of kind left right replacement)
joint_of kind _ _ replacement = None

-- the two parts that a row of CHECKCOMPOUNDPATTERN says
abbrev pub joint_in : FlagKind → DirectiveLine → Option JointPattern
joint_in kind row = joint_of kind (field_of row 1) (field_of row 2) (replacement_in row)
