-- The faults of affix classes, and the rules that the classes say.
use Rattle.std.specs.Prelude.{ℕ, Bool, true, false, ◌==◌, ◌||◌, nat_le, List, [], ◌∷◌, ◌++◌, codes}
use Rattle.std.specs.Prelude.{is_some, unwrap_or, Option, None, Some, if◌then◌else◌}
use Rattle.std.specs.List.{sum}
use Rattle.std.specs.Option.{option_to_list}
use Rattle.std.specs.Result.{result_ok, result_err}
use Rattle.spell_types.specs.declared.flags.FlagKind.{FlagKind}
use Rattle.spell_types.specs.declared.flags.Flag.{Flag}
use Rattle.spell_types.specs.declared.rules.Rule.{Rule}
use Rattle.spell_types.specs.declared.rules.Side.{Side}
use Rattle.aff_lines.specs.declared.faults.AffWhy.TheVariants.{MissingField, BadNumber, TooMany}
use Rattle.aff_lines.specs.declared.faults.AffWhy.TheVariants.{TableShort, BadCross, BadFlag}
use Rattle.aff_lines.specs.declared.rows.DirectiveLine.{DirectiveLine}
use Rattle.aff_lines.specs.Faults.{Fault}
use Rattle.aff_lines.specs.Causes.{unless}
use Rattle.aff_lines.specs.Grammar.{at, faults_at, past_faults}
use Rattle.aff_reader.specs.declared.class_lines.Class.{Class}
use Rattle.aff_reader.specs.declared.class_lines.Crossing.{Crossing}
use Rattle.aff_reader.specs.declared.class_lines.ClassSoFar.{ClassSoFar}
use Rattle.aff_reader.specs.declared.class_lines.Role.{Role}
use Rattle.aff_reader.specs.declared.class_lines.Role.TheVariants.{Header, Member, Past, Unplaced}
use Rattle.aff_reader.specs.declared.class_lines.Placed.{Placed}
use Rattle.aff_reader.specs.ClassLines.{field_of, side_of, is_field_word, announced_count}
use Rattle.aff_reader.specs.ClassLines.{class_so_far, lines_in}
use Rattle.aff_reader.specs.ClassLines.{placed_after, each_after}
use Rattle.aff_reader.specs.ClassRules.{rule_of}

-- whether a header says that its class may be crossed, or that it may not
abbrev pub says_cross : DirectiveLine → Bool
says_cross header =
    is_field_word (codes "Y") (field_of header 2) || is_field_word (codes "N") (field_of header 2)

abbrev pub wants_none : Option ℕ → Bool
wants_none wanted = unwrap_or wanted 0 == 0

-- whether the lines of a class that come to this have all rules that their header announces
abbrev pub has_rules : Option ClassSoFar → Bool
has_rules None = true
has_rules (Some standing) = wants_none standing.wanted

-- the faults of a header where all lines of its class come to this
abbrev pub header_faults : Option ClassSoFar → DirectiveLine → List Fault
header_faults standing header =
    faults_at (unless (is_some (announced_count header)) BadNumber) header
    ++ (faults_at (unless (has_rules standing) TableShort) header
    ++ faults_at (unless (says_cross header) BadCross) header)

abbrev pub member_faults : FlagKind → Option (List (List Flag)) → Class → Crossing → DirectiveLine
    → List Fault
member_faults kind aliases class crossing line =
    faults_at (result_err (rule_of kind aliases class crossing line)) line

-- The faults of a line of a class all lines of which come to this. Behind a header without a number
-- nothing is looked at.
abbrev pub role_faults : FlagKind → Option (List (List Flag)) → Option ClassSoFar → DirectiveLine
    → Class → Role → List Fault
role_faults kind aliases standing line class Header = header_faults standing line
role_faults kind aliases standing line class (Member crossing) =
    member_faults kind aliases class crossing line
role_faults kind aliases standing line class Past = past_faults line
role_faults kind aliases standing line class Unplaced = []

-- a line whose field 1 is no flag is of no class
abbrev pub placed_faults : FlagKind → Option (List (List Flag)) → List DirectiveLine → DirectiveLine
    → Option Placed → List Fault
placed_faults kind aliases rows line None = at BadFlag line ∷ []
placed_faults kind aliases rows line (Some placed) =
    role_faults kind aliases (class_so_far (lines_in kind placed.class rows)) line placed.class
    placed.role

-- a line that begins with PFX or SFX needs three fields more
abbrev pub side_faults : FlagKind → Option (List (List Flag)) → List DirectiveLine → DirectiveLine
    → Option Placed → Option Side → List Fault
side_faults kind aliases rows line placed None = []
side_faults kind aliases rows line placed (Some side) =
    if is_some (field_of line 3) then placed_faults kind aliases rows line placed
    else at MissingField line ∷ []

-- the faults of a line among these rows that stands behind some of them
unfoldable pub line_faults : FlagKind → Option (List (List Flag)) → List DirectiveLine
    → List DirectiveLine → DirectiveLine → List Fault
line_faults kind aliases rows before line =
    side_faults kind aliases rows line (placed_after kind before line) (side_of line.directive)

abbrev pub is_header : Role → Bool
is_header Header = true
is_header _ = false

-- whether a line is the header of its class
abbrev pub heads : Option Placed → Bool
heads None = false
heads (Some placed) = is_header placed.role

-- how many rules a line announces: none, if it is no header or its number is none
abbrev pub announced_by : DirectiveLine → Option Placed → ℕ
announced_by line placed = if heads placed then unwrap_or (announced_count line) 0 else 0

-- how many rules the headers among these lines announce, those of prefix and of suffix classes
-- together
unfoldable pub announced : FlagKind → List DirectiveLine → ℕ
announced kind rows =
    sum (each_after (λ before line. announced_by line (placed_after kind before line) ∷ []) [] rows)

abbrev pub total_faults : ℕ → ℕ → DirectiveLine → Option Placed → List Fault
total_faults limit total line placed =
    if heads placed then faults_at (unless (nat_le total limit) TooMany) line else []

-- the fault of a header where those up to it announce more rules than the limit
unfoldable pub limit_faults : FlagKind → ℕ → List DirectiveLine → DirectiveLine → List Fault
limit_faults kind limit before line =
    total_faults limit (announced kind (before ++ line ∷ [])) line (placed_after kind before line)

-- the faults of headers where so many rules may be announced
unfoldable pub too_many_rules_faults : FlagKind → ℕ → List DirectiveLine → List Fault
too_many_rules_faults kind limit rows = each_after (limit_faults kind limit) [] rows

-- how many rules the headers of a file may announce
abbrev pub rule_limit : ℕ
rule_limit = 200000

-- the faults of the lines of affix classes
abbrev pub class_faults : FlagKind → Option (List (List Flag)) → List DirectiveLine → List Fault
class_faults kind aliases rows =
    each_after (line_faults kind aliases rows) [] rows ++ too_many_rules_faults kind rule_limit rows

abbrev pub role_rules : FlagKind → Option (List (List Flag)) → DirectiveLine → Class → Role
    → List Rule
role_rules kind aliases line class (Member crossing) =
    option_to_list (result_ok (rule_of kind aliases class crossing line))
role_rules kind aliases line class _ = []

abbrev pub placed_rules : FlagKind → Option (List (List Flag)) → DirectiveLine → Option Placed
    → List Rule
placed_rules kind aliases line None = []
placed_rules kind aliases line (Some placed) = role_rules kind aliases line placed.class placed.role

-- the rules that lines without faults say, in the order of the file, those of all classes together
unfoldable pub rules_said : FlagKind → Option (List (List Flag)) → List DirectiveLine → List Rule
rules_said kind aliases rows =
    each_after (λ before line. placed_rules kind aliases line (placed_after kind before line)) []
    rows
