-- Which words are compounds.
use Rattle.std.specs.Prelude.{◌≡◌, ℕ, zero, suc, ◌+◌, ◌-◌, ◌==◌, ◌≤◌, Bool, true, false, not, ◌&&◌}
use Rattle.std.specs.Prelude.{◌||◌, ◌⊎◌, List, [], ◌∷◌, ◌++◌, length, map, take, drop, nat_le}
use Rattle.std.specs.Prelude.{nat_lt, Contains, Option, Some, IsTrue, IfSome}
use Rattle.std.specs.List.{AllByRecursion, filter, filter_map, flat_map, list_any}
use Rattle.std.specs.Option.{option_map, option_map_or}
use Rattle.spell_types.specs.declared.Lexicon.{Lexicon}
use Rattle.spell_types.specs.declared.derivations.Derivation.{Derivation}
use Rattle.spell_types.specs.declared.flags.Flag.{Flag}
use Rattle.spell_types.specs.declared.joints.WrittenJoint.{WrittenJoint}
use Rattle.spell_types.specs.declared.parts.Part.{Part}
use Rattle.spell_types.specs.declared.parts.Place.{Place}
use Rattle.spell_types.specs.declared.parts.Place.TheVariants.{First, Middle, Last}
use Rattle.spell_types.specs.declared.patterns.PatternStep.{PatternStep}
use Rattle.spell_types.specs.Cases.{is_same_word}
use Rattle.spell_types.specs.Derivations.{form_of, all_derivations}
use Rattle.spell_types.specs.Joints.{all_joints, plain_joint, is_same_joint, is_written_joint}
use Rattle.spell_types.specs.Joints.{IsWrittenJoint}
use Rattle.spell_types.specs.EntriesOf.{entry_flags}
use Rattle.spell_types.specs.Licences.{has_entry_with, is_sound}
use Rattle.spell_types.specs.Parts.{is_long_enough, stands_at, stands_in_rule}
use Rattle.spell_types.specs.Patterns.{matches, MatchesPattern}
use Rattle.spell_types.specs.Replacements.{has_rep_fault}

-- Of what a compound is asked: of a dictionary; whether the word differs in case from the one that
-- is written, and whether that one begins in upper case.
pub record Asked : Type 0 where
  pub lexicon : Lexicon
  pub by_case : Bool
  pub capital : Bool

-- whether the entry may stand in a word that is written in another case, if this one is
abbrev pub is_right_in_case : Asked → Derivation → Bool
is_right_in_case a d =
    not (a.by_case && has_entry_with a.lexicon.affixes.signs.keep_case a.lexicon d)

-- what a part keeps of its text: what the joints at its sides do not take off
abbrev pub kept : Part → List ℕ
kept part = drop part.off_begin (take (length part.text - part.joint.off_end) part.text)

-- whether it keeps a character
abbrev pub keeps_some : Part → Bool
keeps_some part = nat_lt (part.off_begin + part.joint.off_end) (length part.text)

-- what it writes: what it keeps, and behind that what the joint behind it puts
abbrev pub stretch : Part → List ℕ
stretch part = kept part ++ part.joint.put

-- whether a compound may have the part at all: it is long enough, its derivation is sound, its
-- entry is right in this case, and it keeps a character of its own
abbrev pub may_be_part : Asked → Part → Bool
may_be_part a part =
    is_long_enough a.lexicon part.text
    && (is_sound a.lexicon part.d && (is_right_in_case a part.d && keeps_some part))

abbrev pub part_with : ℕ → WrittenJoint → Derivation → List ℕ → Part
part_with off joint d text = record { text = text; d = d; off_begin = off; joint = joint }

-- a derivation as a part, with its form, if it has one
abbrev pub part_from : Lexicon → ℕ → WrittenJoint → Derivation → Option Part
part_from lexicon off joint d = option_map (part_with off joint d) (form_of lexicon d)

-- all parts with these joints, if they keep enough
abbrev pub parts_between : Lexicon → ℕ → WrittenJoint → List Part
parts_between lexicon off joint = filter_map (part_from lexicon off joint) (all_derivations lexicon)

-- all that joints take off the front of parts
abbrev pub all_offs : Lexicon → List ℕ
all_offs lexicon = map (λ joint. joint.off_begin) (all_joints lexicon)

-- all parts that a compound may have
abbrev pub all_parts : Asked → List Part
all_parts a =
    filter (may_be_part a)
    (flat_map (λ off. flat_map (parts_between a.lexicon off) (all_joints a.lexicon))
    (all_offs a.lexicon))

-- what parts write: the stretch of each, one behind the other
abbrev pub written : List Part → List ℕ
written parts = flat_map stretch parts

-- whether each part stands at its place: the first here, the last at the last place, and those
-- between in the middle
abbrev pub all_stand : (Derivation → Place → Bool) → Place → List Part → Bool
all_stand stands here [] = true
all_stand stands here (part ∷ []) = stands part.d Last
all_stand stands here (part ∷ next ∷ more) =
    stands part.d here && all_stand stands Middle (next ∷ more)

-- whether each part is allowed at its place by its flags
abbrev pub stand_by_flags : Asked → Place → List Part → Bool
stand_by_flags a here parts = all_stand (stands_at a.lexicon) here parts

-- the flags of the parts' entries
abbrev pub flags_of : Asked → List Part → List (List Flag)
flags_of a parts = map (λ part. entry_flags a.lexicon part.d) parts

-- whether the parts follow a compound rule: each may stand in a rule, and the rule matches
-- the flags of their entries
abbrev pub follows_rule : Asked → Place → List Part → List PatternStep → Bool
follows_rule a here parts pattern =
    all_stand (stands_in_rule a.lexicon) here parts && matches pattern (flags_of a parts)

-- whether two neighbours are written together by the joint between them
abbrev pub are_joined : Asked → Part → Part → Bool
are_joined a part next =
    is_written_joint a.lexicon part.text part.d next.text next.d part.joint
    && (next.off_begin == part.joint.off_begin)

-- whether all neighbours are
abbrev pub do_meet : Asked → List Part → Bool
do_meet a [] = true
do_meet a (part ∷ []) = true
do_meet a (part ∷ next ∷ more) = are_joined a part next && do_meet a (next ∷ more)

-- whether nothing is taken off the front of the first part
abbrev pub begin_well : List Part → Bool
begin_well [] = true
begin_well (part ∷ more) = part.off_begin == 0

-- whether a word may end with the part: no joint is behind it, and one that asks for a capital
-- stands in a word that is written with one
abbrev pub may_end : Asked → Part → Bool
may_end a part =
    is_same_joint part.joint plain_joint
    && (a.capital || not (has_entry_with a.lexicon.affixes.signs.force_upper a.lexicon part.d))

-- whether the last of the parts may stand there
abbrev pub end_well : Asked → List Part → Bool
end_well a [] = true
end_well a (part ∷ []) = may_end a part
end_well a (part ∷ next ∷ more) = end_well a (next ∷ more)

-- whether there may be so many parts
abbrev pub are_few : Asked → ℕ → Bool
are_few a count = option_map_or (nat_le count) a.lexicon.affixes.options.word_max true

-- whether the parts make up the word
unfoldable pub make_up : Asked → List ℕ → List Part → Bool
make_up a word parts =
    is_same_word (written parts) word
    && (nat_le 2 (length parts)
    && (are_few a (length parts)
    && (begin_well parts
    && (do_meet a parts
    && ((stand_by_flags a First parts
    || list_any (follows_rule a First parts) a.lexicon.affixes.patterns)
    && end_well a parts)))))

-- all lists of at most so many of these
abbrev pub lists_within : {X : Type 0} → ℕ → List X → List (List X)
lists_within zero xs = [] ∷ []
lists_within (suc bound) xs = [] ∷ flat_map (λ x. map (λ more. x ∷ more) (lists_within bound xs)) xs

-- whether some parts make up the word; each keeps a character, so that the word's length bounds how
-- many there are
unfoldable pub is_made_up : Asked → List ℕ → Bool
is_made_up a word = list_any (make_up a word) (lists_within (length word) (all_parts a))

-- whether the word is a compound: some parts make it up, and it is no common misspelling, if that
-- is asked
unfoldable pub is_compound : Asked → List ℕ → Bool
is_compound a word =
    is_made_up a word && not (a.lexicon.affixes.options.check_rep && has_rep_fault a.lexicon word)

-- a part of the dictionary that a compound may have
pub record IsGiven (a : Asked) (part : Part) : Type 0 where
  pub form : form_of a.lexicon part.d ≡ Some part.text
  pub may : may_be_part a part ≡ true

-- parts of the dictionary make up the word
pub record IsMadeUp (a : Asked) (word : List ℕ) : Type 0 where
  pub parts : List Part
  pub given : AllByRecursion (IsGiven a) parts
  pub make : make_up a word parts ≡ true

-- two neighbours are written together by the joint between them
pub record AreJoined (a : Asked) (x y : Part) : Type 0 where
  pub joint : IsWrittenJoint a.lexicon x.text x.d y.text y.d x.joint
  pub off : y.off_begin ≡ x.joint.off_begin

-- each part stands at its place
pub record Stand (stands : Derivation → Place → Bool) (parts : List Part) : Type 0 where
  pub first : (part next : Part) (more : List Part) → parts ≡ part ∷ next ∷ more
      → IsTrue (stands part.d First)
  pub middle : (front : List Part) (before part next : Part) (more : List Part)
      → parts ≡ front ++ before ∷ part ∷ next ∷ more → IsTrue (stands part.d Middle)
  pub last : (front : List Part) (part : Part) → parts ≡ front ++ part ∷ []
      → IsTrue (stands part.d Last)

-- the parts follow a compound rule
pub record FollowsRule (a : Asked) (parts : List Part) : Type 0 where
  pub pattern : List PatternStep
  pub among : Contains a.lexicon.affixes.patterns pattern
  pub stand : Stand (stands_in_rule a.lexicon) parts
  pub matched : MatchesPattern pattern (flags_of a parts)

-- What a compound is, as a relation.
pub record IsCompound (a : Asked) (word : List ℕ) : Type 0 where
  pub parts : List Part
  pub given : AllByRecursion (IsGiven a) parts
  pub joined : written parts ≡ word
  pub two : 2 ≤ length parts
  pub few : IfSome a.lexicon.affixes.options.word_max (λ most. length parts ≤ most)
  pub begin : (part : Part) (more : List Part) → parts ≡ part ∷ more → part.off_begin ≡ 0
  pub meet : (front : List Part) (x y : Part) (more : List Part) → parts ≡ front ++ x ∷ y ∷ more
      → AreJoined a x y
  pub stand : Stand (stands_at a.lexicon) parts ⊎ FollowsRule a parts
  pub end : (front : List Part) (part : Part) → parts ≡ front ++ part ∷ [] → IsTrue (may_end a part)
  pub spelled : a.lexicon.affixes.options.check_rep ≡ true → has_rep_fault a.lexicon word ≡ false
