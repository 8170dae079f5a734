-- The lines of affix classes, and what each of them is in its class.
use Rattle.std.specs.Prelude.{◌≡◌, ℕ, Bool, true, false, ◌==◌, ◌&&◌, ◌-◌, List, [], ◌∷◌, ◌++◌}
use Rattle.std.specs.Prelude.{length, filter, codes, slice_get, Option, None, Some, option_and_then}
use Rattle.std.specs.Prelude.{if◌then◌else◌}
use Rattle.std.specs.BTreeMap.{BTreeMap, get}
use Rattle.std.specs.Option.{option_map}
use Rattle.std.specs.Ordering.{nat_cmp}
use Rattle.std.specs.Str.{bytes_eq}
use Rattle.text_lines.specs.Fields.{fields}
use Rattle.spell_types.specs.declared.flags.FlagKind.{FlagKind}
use Rattle.spell_types.specs.declared.flags.Flag.{Flag}
use Rattle.spell_types.specs.declared.rules.Side.{Side}
use Rattle.spell_types.specs.Derivations.{is_same_side}
use Rattle.flag_sets.specs.FlagTexts.{one_flag}
use Rattle.aff_lines.specs.declared.names.Directive.{Directive}
use Rattle.aff_lines.specs.declared.rows.DirectiveLine.{DirectiveLine}
use Rattle.aff_lines.specs.Causes.{number_in}
use Rattle.aff_reader.specs.declared.class_lines.Class.{Class}
use Rattle.aff_reader.specs.declared.class_lines.Crossing.{Crossing}
use Rattle.aff_reader.specs.declared.class_lines.Classes.{Classes}
use Rattle.aff_reader.specs.declared.class_lines.ClassSoFar.{ClassSoFar}
use Rattle.aff_reader.specs.declared.class_lines.Role.{Role}
use Rattle.aff_reader.specs.declared.class_lines.Role.TheVariants.{Header, Member, Past, Unplaced}
use Rattle.aff_reader.specs.declared.class_lines.Placed.{Placed}

-- a field of a line; its name is field 0
abbrev pub field_of : DirectiveLine → ℕ → Option (List ℕ)
field_of line k = slice_get (fields line.text) k

-- the side of the classes that a directive is for
abbrev pub side_of : Directive → Option Side
side_of Directive.Prefix = Some Side.Prefix
side_of Directive.Suffix = Some Side.Suffix
side_of _ = None

-- the flag of a class line, if its field 1 is one flag
abbrev pub flag_at : FlagKind → DirectiveLine → Option Flag
flag_at kind line = option_and_then (one_flag kind) (field_of line 1)

abbrev pub class_with : Side → Flag → Class
class_with side flag = record { side = side; flag = flag }

abbrev pub class_from : Option Flag → Side → Option Class
class_from flag side = option_map (class_with side) flag

-- the class that a line belongs to: it is one of PFX or SFX, and its field 1 is one flag
unfoldable pub class_of : FlagKind → DirectiveLine → Option Class
class_of kind line = option_and_then (class_from (flag_at kind line)) (side_of line.directive)

-- whether the classes are the same: a prefix class and a suffix class may have one flag
abbrev pub is_same_class : Class → Class → Bool
is_same_class class other = is_same_side class.side other.side && class.flag.0 == other.flag.0

abbrev pub is_that_class : Class → Option Class → Bool
is_that_class class None = false
is_that_class class (Some other) = is_same_class class other

-- the lines of a class
unfoldable pub lines_in : FlagKind → Class → List DirectiveLine → List DirectiveLine
lines_in kind class rows = filter (λ row. is_that_class class (class_of kind row)) rows

-- whether a field is there and is this word
abbrev pub is_field_word : List ℕ → Option (List ℕ) → Bool
is_field_word word None = false
is_field_word word (Some text) = bytes_eq word text

-- whether a header lets the rules of its class be crossed
abbrev pub crossing_of : DirectiveLine → Crossing
crossing_of header =
    if is_field_word (codes "Y") (field_of header 2) then Crossing.Allowed else Crossing.Barred

abbrev pub allows_crossing : Crossing → Bool
allows_crossing Crossing.Allowed = true
allows_crossing Crossing.Barred = false

-- how many rules a header announces
unfoldable pub announced_count : DirectiveLine → Option ℕ
announced_count header = option_and_then number_in (field_of header 3)

-- how many of the rules that a header announces are wanted still, where so many lines stand behind
-- it
abbrev pub wanted_behind : ℕ → Option ℕ → Option ℕ
wanted_behind behind count = option_map (λ n. n - behind) count

-- what the first lines of a class come to: there is none, or the first is its header
abbrev pub class_so_far : List DirectiveLine → Option ClassSoFar
class_so_far [] = None
class_so_far (header ∷ behind) =
    Some (record
    { crossing = crossing_of header; wanted = wanted_behind (length behind) (announced_count header) })

-- what a line behind the header is, where so many rules are wanted still
abbrev pub role_wanted : Crossing → Option ℕ → Role
role_wanted crossing None = Unplaced
role_wanted crossing (Some wanted) = if wanted == 0 then Past else Member crossing

-- what the next line of a class is in it
abbrev pub role_after : Option ClassSoFar → Role
role_after None = Header
role_after (Some standing) = role_wanted standing.crossing standing.wanted

abbrev pub placed_in : FlagKind → List DirectiveLine → Class → Placed
placed_in kind before class =
    record { class = class; role = role_after (class_so_far (lines_in kind class before)) }

-- the class of a line, and what the line is in it; these are the lines before it
unfoldable pub placed_after : FlagKind → List DirectiveLine → DirectiveLine → Option Placed
placed_after kind before line = option_map (placed_in kind before) (class_of kind line)

-- what is made of some lines, each seen with all lines before it; before the first of them stand
-- these
abbrev pub each_after : {A : Type 0} → (List DirectiveLine → DirectiveLine → List A)
    → List DirectiveLine → List DirectiveLine → List A
each_after f before [] = []
each_after f before (line ∷ more) = f before line ++ each_after f (before ++ line ∷ []) more

-- what is kept of a class, by its flag, for each side
abbrev pub standing_on : Side → BTreeMap ℕ ClassSoFar → BTreeMap ℕ ClassSoFar → ℕ
    → Option ClassSoFar
standing_on Side.Prefix prefixes suffixes flag = get nat_cmp prefixes flag
standing_on Side.Suffix prefixes suffixes flag = get nat_cmp suffixes flag

abbrev pub standing_in : Classes → Class → Option ClassSoFar
standing_in classes class = standing_on class.side classes.prefixes classes.suffixes class.flag.0

-- what is kept of each class is what its lines among these come to
pub record Knows (kind : FlagKind) (rows : List DirectiveLine) (classes : Classes) : Type 0 where
  pub each : (class : Class) → standing_in classes class ≡ class_so_far (lines_in kind class rows)
