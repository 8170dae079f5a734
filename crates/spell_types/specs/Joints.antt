-- Which parts of compounds may stand beside each other, and how they are written together.
use Rattle.std.specs.Prelude.{◌≡◌, ℕ, ◌-◌, ◌==◌, Bool, true, false, not, ◌&&◌, ◌||◌, List, [], ◌∷◌}
use Rattle.std.specs.Prelude.{length, nat_eq, slice_get, Contains, Option, None, Some, IsTrue}
use Rattle.std.specs.Prelude.{if◌then◌else◌}
use Rattle.std.specs.List.{filter, filter_map, list_any, starts_with, ends_with}
use Rattle.std.specs.Option.{option_map, option_map_or}
use Rattle.spell_types.specs.declared.Lexicon.{Lexicon}
use Rattle.spell_types.specs.declared.derivations.Derivation.{Derivation}
use Rattle.spell_types.specs.declared.flags.Flag.{Flag}
use Rattle.spell_types.specs.declared.joints.JointPattern.{JointPattern}
use Rattle.spell_types.specs.declared.joints.WrittenJoint.{WrittenJoint}
use Rattle.spell_types.specs.declared.signs.Options.{Options}
use Rattle.spell_types.specs.Cases.{is_upper, is_same_word}
use Rattle.spell_types.specs.EntriesOf.{is_entry_word}
use Rattle.spell_types.specs.Licences.{has_entry_with}

-- the first character of a word, if it has one, and the last
abbrev pub first_character_of : List ℕ → Option ℕ
first_character_of word = slice_get word 0

abbrev pub last_character_of : List ℕ → Option ℕ
last_character_of word = slice_get word (length word - 1)

-- The left part is the right one.
abbrev pub is_doubled : List ℕ → List ℕ → Bool
is_doubled x y = is_same_word x y

abbrev pub is_capital : Option ℕ → Bool
is_capital c = option_map_or is_upper c false

abbrev pub is_dash : Option ℕ → Bool
is_dash c = option_map_or (λ c. c == 45) c false

-- The last character of the left part or the first of the right one is upper case, and neither is a
-- dash.
abbrev pub is_capital_inside : List ℕ → List ℕ → Bool
is_capital_inside x y =
    (is_capital (last_character_of x) || is_capital (first_character_of y))
    && (not (is_dash (last_character_of x)) && not (is_dash (first_character_of y)))

-- A character stands three times in a row: twice at the end of the left part and at the front of
-- the right one, or at the end of the left part and twice at the front of the right one.
abbrev pub is_tripled : List ℕ → List ℕ → Bool
is_tripled x [] = false
is_tripled x (c ∷ more) =
    ends_with nat_eq x (c ∷ c ∷ [])
    || (ends_with nat_eq x (c ∷ []) && starts_with nat_eq more (c ∷ []))

-- whether no flag is given, or the derivation's entry has it
abbrev pub has_entry_as_given : Option Flag → Lexicon → Derivation → Bool
has_entry_as_given None lexicon d = true
has_entry_as_given (Some flag) lexicon d = has_entry_with (Some flag) lexicon d

-- whether the left part ends as the row says: with its text, or it is the entry's word as it is
abbrev pub ends_as : JointPattern → Lexicon → List ℕ → Derivation → Bool
ends_as row lexicon x d =
    if row.unmodified then is_entry_word lexicon x d else ends_with nat_eq x row.end

-- whether a row of the table fits two parts
unfoldable pub fits_joint : Lexicon → List ℕ → Derivation → List ℕ → Derivation → JointPattern
    → Bool
fits_joint lexicon x d y e row =
    ends_as row lexicon x d
    && (starts_with nat_eq y row.begin
    && (has_entry_as_given row.end_flag lexicon d
    && has_entry_as_given row.begin_flag lexicon e))

-- the points of the options that are set, whatever the two words are derived from
abbrev pub is_dup : Options → List ℕ → List ℕ → Bool
is_dup options x y = options.check_dup && is_doubled x y

abbrev pub is_case : Options → List ℕ → List ℕ → Bool
is_case options x y = options.check_case && is_capital_inside x y

abbrev pub is_triple : Options → List ℕ → List ℕ → Bool
is_triple options x y = options.check_triple && is_tripled x y

-- whether no option that is set forbids that two such words meet, whatever they are derived from
unfoldable pub is_joint_of : Options → List ℕ → List ℕ → Bool
is_joint_of options x y =
    not (is_dup options x y) && (not (is_case options x y) && not (is_triple options x y))

-- whether a row of the table fits two parts
abbrev pub has_fitting : Lexicon → List ℕ → Derivation → List ℕ → Derivation → Bool
has_fitting lexicon x d y e = list_any (fits_joint lexicon x d y e) lexicon.affixes.joints

-- whether two parts, the forms of these derivations, may stand beside each other as they are
unfoldable pub is_joint : Lexicon → List ℕ → Derivation → List ℕ → Derivation → Bool
is_joint lexicon x d y e =
    is_joint_of lexicon.affixes.options x y && not (has_fitting lexicon x d y e)

abbrev pub IsJoint : Lexicon → List ℕ → Derivation → List ℕ → Derivation → Type 0
IsJoint lexicon x d y e = IsTrue (is_joint lexicon x d y e)

-- whether they may stand beside each other with one character left out of three: SIMPLIFIEDTRIPLE
-- is set, and nothing but the three characters forbids that they meet
unfoldable pub is_simplified : Lexicon → List ℕ → Derivation → List ℕ → Derivation → Bool
is_simplified lexicon x d y e =
    lexicon.affixes.options.simplified
    && (is_triple lexicon.affixes.options x y
    && (not (is_dup lexicon.affixes.options x y)
    && (not (is_case lexicon.affixes.options x y) && not (has_fitting lexicon x d y e))))

-- ---- written joints
-- two parts as they are
abbrev pub plain_joint : WrittenJoint
plain_joint = record { off_end = 0; put = []; off_begin = 0 }

-- one character is left out of three
abbrev pub simplified_joint : WrittenJoint
simplified_joint = record { off_end = 1; put = []; off_begin = 0 }

-- this text in place of what the row names on both sides; a row that names a whole word there takes
-- nothing off it
abbrev pub replaced_joint : JointPattern → List ℕ → WrittenJoint
replaced_joint row put = record {
  off_end = if row.unmodified then 0 else length row.end;
  put = put;
  off_begin = length row.begin;
}

-- the joint of a row, if it has a replacement
abbrev pub joint_of_row : JointPattern → Option WrittenJoint
joint_of_row row = option_map (replaced_joint row) row.replacement

-- all joints that the parts of a dictionary can have, in their order
abbrev pub all_joints : Lexicon → List WrittenJoint
all_joints lexicon = plain_joint ∷ simplified_joint ∷ filter_map joint_of_row lexicon.affixes.joints

unfoldable pub is_same_joint : WrittenJoint → WrittenJoint → Bool
is_same_joint joint other =
    (joint.off_end == other.off_end)
    && (is_same_word joint.put other.put && (joint.off_begin == other.off_begin))

-- whether the row fits two parts, and the joint is the row's
abbrev pub is_replaced_by : Lexicon → List ℕ → Derivation → List ℕ → Derivation → WrittenJoint
    → JointPattern → Bool
is_replaced_by lexicon x d y e joint row =
    fits_joint lexicon x d y e row && option_map_or (is_same_joint joint) (joint_of_row row) false

-- whether two parts, the forms of these derivations, are written together so
unfoldable pub is_written_joint : Lexicon → List ℕ → Derivation → List ℕ → Derivation → WrittenJoint
    → Bool
is_written_joint lexicon x d y e joint =
    (is_same_joint joint plain_joint && is_joint lexicon x d y e)
    || ((is_same_joint joint simplified_joint && is_simplified lexicon x d y e)
    || (is_joint_of lexicon.affixes.options x y && list_any (is_replaced_by lexicon x d y e joint)
    lexicon.affixes.joints))

-- each of these once, where it comes first
abbrev pub each_once : List WrittenJoint → List WrittenJoint
each_once [] = []
each_once (joint ∷ more) =
    joint ∷ filter (λ other. not (is_same_joint other joint)) (each_once more)

-- all written joints of two parts: the plain one, the simplified one, and those of the rows, each
-- once
unfoldable pub joints_of : Lexicon → List ℕ → Derivation → List ℕ → Derivation → List WrittenJoint
joints_of lexicon x d y e =
    filter (is_written_joint lexicon x d y e) (each_once (all_joints lexicon))

-- The same as a relation.
pub data IsWrittenJoint (lexicon : Lexicon) (x : List ℕ) (d : Derivation) (y : List ℕ)
    (e : Derivation) (joint : WrittenJoint) : Type 0 where
  Plain : joint ≡ plain_joint → is_joint lexicon x d y e ≡ true
      → IsWrittenJoint lexicon x d y e joint
  Simplified : joint ≡ simplified_joint → is_simplified lexicon x d y e ≡ true
      → IsWrittenJoint lexicon x d y e joint
  Replaced : (row : JointPattern) (put : List ℕ) → Contains lexicon.affixes.joints row
      → row.replacement ≡ Some put
      → joint ≡ replaced_joint row put → fits_joint lexicon x d y e row ≡ true
      → is_joint_of lexicon.affixes.options x y ≡ true → IsWrittenJoint lexicon x d y e joint
