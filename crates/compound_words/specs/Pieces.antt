-- Which parts write a piece of a word, by what stands before it and what follows.
use Rattle.std.specs.Prelude.{◌≡◌, ℕ, ◌-◌, ◌==◌, Bool, true, false, not, ◌&&◌, ◌||◌, List, [], ◌∷◌}
use Rattle.std.specs.Prelude.{◌++◌, length, map, take, nat_eq, nat_lt, Contains, Some}
use Rattle.std.specs.Prelude.{if◌then◌else◌}
use Rattle.std.specs.List.{AllByRecursion, filter, flat_map, list_any, starts_with, ends_with}
use Rattle.std.specs.Option.{option_map_or}
use Rattle.affix_strip.specs.Found.{derivations_of}
use Rattle.spell_types.specs.declared.Lexicon.{Lexicon}
use Rattle.spell_types.specs.declared.joints.JointPattern.{JointPattern}
use Rattle.spell_types.specs.declared.joints.WrittenJoint.{WrittenJoint}
use Rattle.spell_types.specs.declared.parts.Part.{Part}
use Rattle.spell_types.specs.Cases.{is_among}
use Rattle.spell_types.specs.Compounds.{Asked, IsGiven, may_be_part, part_with, stretch}
use Rattle.spell_types.specs.Joints.{plain_joint, replaced_joint, simplified_joint}
use Rattle.compound_words.specs.declared.rests.FirstPart.{FirstPart}
use Rattle.compound_words.specs.Counting.{OneOf}

-- ---- what stands before a part
-- whether the row may have put its replacement there: behind a character that the part before keeps
abbrev pub has_put : List ℕ → JointPattern → Bool
has_put before row =
    option_map_or
    (λ put. nat_lt (length put) (length before) && ends_with nat_eq before put)
    row.replacement false

-- whether the row may have taken off the front of the part what is taken off there
abbrev pub is_cut_by : List ℕ → Part → JointPattern → Bool
is_cut_by before part row =
    has_put before row &&
    ((length row.begin == part.off_begin) && starts_with nat_eq part.text row.begin)

-- whether the part may begin behind this text
abbrev pub may_begin : Lexicon → List ℕ → Part → Bool
may_begin lexicon before part =
    (part.off_begin == 0) || list_any (is_cut_by before part) lexicon.affixes.joints

-- These are the texts that joints may have taken off the front of a part behind this text: a part
-- whose front is one of them may begin there, and the front of each that may is one of them.
pub record AreFronts (lexicon : Lexicon) (before : List ℕ) (fronts : List (List ℕ)) : Type 0 where
  pub right : (front : List ℕ) → Contains fronts front → (part : Part)
      → part.off_begin ≡ length front
      → starts_with nat_eq part.text front ≡ true → may_begin lexicon before part ≡ true
  pub all : (part : Part) → may_begin lexicon before part ≡ true
      → (front : List ℕ) × (Contains fronts front × ((part.off_begin ≡ length front)
      × (take part.off_begin part.text ≡ front)))

-- the fronts with what the row takes off the front of a part, if it may and that is none of them
abbrev pub with_front : List ℕ → JointPattern → List (List ℕ) → List (List ℕ)
with_front before row fronts =
    if has_put before row && not (is_among fronts row.begin) then fronts ++ row.begin ∷ []
    else fronts

-- ---- what follows a part
-- what the row takes off the end of a part
abbrev pub end_taken_off : JointPattern → List ℕ
end_taken_off row = if row.unmodified then [] else row.end

-- whether the row takes off the front of the first part of a rest what it names there
abbrev pub cuts : JointPattern → FirstPart → Bool
cuts row rest =
    (length row.begin == rest.part.off_begin) && starts_with nat_eq rest.part.text row.begin

-- the part may end before this text and one of these rests of the word, as the joint behind it asks
pub data EndsBefore (lexicon : Lexicon) (following : List ℕ) (rests : List FirstPart)
    (part : Part) : Type 0 where
  Whole : part.joint ≡ plain_joint → EndsBefore lexicon following rests part
  Short : (c : ℕ) (more : List ℕ) → lexicon.affixes.options.simplified ≡ true
      → part.joint ≡ simplified_joint
      → following ≡ c ∷ more → ends_with nat_eq part.text (c ∷ []) ≡ true
      → EndsBefore lexicon following rests part
  Cut : (row : JointPattern) (put : List ℕ) → Contains lexicon.affixes.joints row
      → row.replacement ≡ Some put
      → part.joint ≡ replaced_joint row put → ends_with nat_eq part.text (end_taken_off row) ≡ true
      → list_any (cuts row) rests ≡ true → EndsBefore lexicon following rests part

-- ---- the parts that write a piece
-- those with this text
unfoldable pub parts_with : Asked → ℕ → WrittenJoint → List ℕ → List Part
parts_with a off joint text =
    filter (may_be_part a) (map (λ d. part_with off joint d text) (derivations_of a.lexicon text))

-- those that keep this of their text, between one of these fronts and what the joint takes off the
-- end
unfoldable pub parts_kept : Asked → List (List ℕ) → List ℕ → List ℕ → WrittenJoint → List Part
parts_kept a fronts kept end joint =
    if length kept == 0 then []
    else flat_map (λ front. parts_with a (length front) joint (front ++ (kept ++ end))) fronts

-- those that end with the character that follows, which is written once
unfoldable pub parts_short : Asked → List (List ℕ) → List ℕ → List ℕ → List Part
parts_short a fronts text [] = []
parts_short a fronts text (c ∷ more) =
    if a.lexicon.affixes.options.simplified
    then parts_kept a fronts text (c ∷ []) simplified_joint
    else []

-- those behind which the row puts its replacement
unfoldable pub parts_put : Asked → List (List ℕ) → List ℕ → JointPattern → List Part
parts_put a fronts text row =
    option_map_or (λ put. if ends_with nat_eq text put
    then parts_kept a fronts (take (length text - length put) text) (end_taken_off row)
    (replaced_joint row put)
    else []) row.replacement []

-- the same, if one of the rests may follow
abbrev pub parts_replaced : Asked → List (List ℕ) → List ℕ → List FirstPart → JointPattern
    → List Part
parts_replaced a fronts text rests row =
    if list_any (cuts row) rests then parts_put a fronts text row else []

-- all of them
unfoldable pub parts_of : Asked → List (List ℕ) → List ℕ → List ℕ → List FirstPart → List Part
parts_of a fronts text following rests =
    parts_kept a fronts text [] plain_joint
    ++ (parts_short a fronts text following
    ++ flat_map (parts_replaced a fronts text rests) a.lexicon.affixes.joints)

-- a part of the dictionary that writes this text, and may stand behind what is before it
pub record IsGivenAs (a : Asked) (before text : List ℕ) (part : Part) : Type 0 where
  pub given : IsGiven a part
  pub writes : stretch part ≡ text
  pub begins : may_begin a.lexicon before part ≡ true

-- all parts that write it, and may stand there
pub record AreParts (a : Asked) (before text following : List ℕ) (rests : List FirstPart)
    (parts : List Part) : Type 0 where
  pub given : AllByRecursion (IsGivenAs a before text) parts
  pub all : (part : Part) → IsGivenAs a before text part → EndsBefore a.lexicon following rests part
      → OneOf (λ other. other ≡ part) parts
