-- Which words parts make up: all parts and all lists of them are among those that are tried, and
-- what is asked of a list of parts is what a compound is.
use Rattle.std.proofs.Common.{◌≡◌, ◌∙◌, ◌↔◌, refl, sym, ap, subst, ℕ, zero, suc, ◌<◌, ◌≤◌, Bool}
use Rattle.std.proofs.Common.{true, false, cond, not, ◌&&◌, ◌||◌, ◌⊎◌, inl, inr, IfSome, nat_le}
use Rattle.std.proofs.Common.{List, [], ◌∷◌, ◌++◌, length, map, slice_get, Contains, Any, Option}
use Rattle.std.proofs.Common.{None, Some, is_none, is_some, option_and_then, if◌then◌else◌}
use Rattle.std.proofs.Common.{◌==◌, arith, length-append}
use Rattle.std.specs.List.{AllByRecursion, filter, filter_map, flat_map, list_any, range_with_len}
use Rattle.std.specs.List.{cons_option}
use Rattle.std.specs.Option.{option_map, option_map_or}
use Rattle.std.proofs.lemmas.Bool.{and_parts, and_from, or_cases, or_left, or_right, leb-true}
use Rattle.std.proofs.lemmas.Bool.{le-leb, not-true, not_from_false, false≢true}
use Rattle.std.proofs.lemmas.List.Elements.{All-from_recursion}
use Rattle.std.proofs.lemmas.List.Folds.{Any-from_list_any, list_any_at}
use Rattle.std.proofs.lemmas.Option.{slice_get_within}
use Rattle.std.proofs.lemmas.Slice.Eq.{bytes_eq-Decides}
use Rattle.lists.specs.Laws.{each-map, each-flat_map, each-weaker, contains-head, contains-tail}
use Rattle.lists.specs.Laws.{contains-map, contains-flat_map, contains-filter, contains-range}
use Rattle.spell_types.specs.declared.Entry.{Entry}
use Rattle.spell_types.specs.declared.Lexicon.{Lexicon}
use Rattle.spell_types.specs.declared.derivations.Derivation.{Derivation}
use Rattle.spell_types.specs.declared.joints.WrittenJoint.{WrittenJoint}
use Rattle.spell_types.specs.declared.parts.Part.{Part}
use Rattle.spell_types.specs.declared.parts.Place.{Place}
use Rattle.spell_types.specs.declared.parts.Place.TheVariants.{First, Middle, Last}
use Rattle.spell_types.specs.declared.rules.Side.TheVariants.{Prefix, Suffix}
use Rattle.spell_types.specs.Cases.{is_same_word}
use Rattle.spell_types.specs.Compounds.{Asked, may_be_part, part_with, part_from, all_parts}
use Rattle.spell_types.specs.Compounds.{written, stretch}
use Rattle.spell_types.specs.Compounds.{parts_between, all_offs, are_joined, begin_well, AreJoined}
use Rattle.spell_types.specs.Compounds.{all_stand, stand_by_flags, flags_of, follows_rule, do_meet}
use Rattle.spell_types.specs.Compounds.{may_end, end_well, are_few, make_up, lists_within}
use Rattle.spell_types.specs.Compounds.{is_made_up, is_compound, IsGiven, IsMadeUp, Stand}
use Rattle.spell_types.specs.Compounds.{FollowsRule, IsCompound}
use Rattle.spell_types.specs.Derivations.{is_right, is_in_order, formed, named_with, form_of}
use Rattle.spell_types.specs.Derivations.{choices, derivation_of, all_from, all_derivations}
use Rattle.spell_types.specs.Joints.{all_joints, is_same_joint, plain_joint}
use Rattle.spell_types.specs.Laws.{contains-choice, right-within}
use Rattle.spell_types.specs.Parts.{stands_at, stands_in_rule}
use Rattle.spell_types.specs.Patterns.{matches}
use Rattle.spell_types.specs.Replacements.{has_rep_fault}
use Rattle.spell_types.specs.CompoundLaws.{given-keeps, joined-written, stretch-some}
use Rattle.spell_types.specs.CompoundLaws.{written-joined}
use Rattle.spell_types.specs.JointLaws.{contains-filter_map, plain-among, nat-own, nat-same}
use Rattle.spell_types.specs.JointLaws.{same-joint, written-among}
use Rattle.spell_types.proofs.PatternLemmas.{matches-relation, relation-matches}

-- ---- what holds of each
-- ---- lists of at most so many items
-- the lists that begin with an item
abbrev begun : {X : Type 0} → List (List X) → X → List (List X)
begun lists x = map (λ more. x ∷ more) lists

each-begun : {X : Type 0} (P : X → Type 0) (lists : List (List X))
    → AllByRecursion (AllByRecursion P) lists → (x : X) → P x
    → AllByRecursion (AllByRecursion P) (begun lists x)
each-begun P lists each x holds =
    each-map (AllByRecursion P) (λ more. x ∷ more) lists
    (each-weaker (AllByRecursion P) (λ more. AllByRecursion P (x ∷ more))
    (λ more others. (holds, others)) lists each)

-- what holds of each item holds of those of each list
each-within : {X : Type 0} (P : X → Type 0) (xs : List X) → AllByRecursion P xs → (bound : ℕ)
    → AllByRecursion (AllByRecursion P) (lists_within bound xs)
each-within P xs each zero = (tt, tt)
each-within P xs each (suc bound) = (
  tt,
  each-flat_map (AllByRecursion P) (begun (lists_within bound xs)) xs
      (each-weaker P (λ x. AllByRecursion (AllByRecursion P) (begun (lists_within bound xs) x))
      (each-begun P (lists_within bound xs) (each-within P xs each bound)) xs each),
)

-- a list of items is among them, if it is no longer
contains-within : {X : Type 0} (xs : List X) (bound : ℕ) (items : List X)
    → AllByRecursion (Contains xs) items → length items ≤ bound
    → Contains (lists_within bound xs) items
contains-within xs zero [] inside few = contains-head [] []
contains-within xs zero (x ∷ items) inside few = absurd (omega arith)
contains-within xs (suc bound) [] inside few =
    contains-head [] (flat_map (begun (lists_within bound xs)) xs)
contains-within xs (suc bound) (x ∷ items) inside few =
    contains-tail [] (x ∷ items) (flat_map (begun (lists_within bound xs)) xs)
    (contains-flat_map (begun (lists_within bound xs)) xs x (x ∷ items) inside.0
    (contains-map (λ more. x ∷ more) (lists_within bound xs) items
    (contains-within xs bound items inside.1 (omega arith))))

-- ---- all derivations
-- a derivation that has a form names an entry, and rules of its sides
record NamesAll (lexicon : Lexicon) (d : Derivation) : Type 0 where
  entry : d.entry < length lexicon.entries
  ordered : is_in_order lexicon.affixes.rules d ≡ true

form-names : (lexicon : Lexicon) (d : Derivation) (text : List ℕ) → form_of lexicon d ≡ Some text
    → NamesAll lexicon d
unfolding form_of
form-names lexicon d text is =
    at (is_in_order lexicon.affixes.rules d) (slice_get lexicon.entries d.entry) refl refl is
  where
    at : (ordered : Bool) (found : Option Entry) → is_in_order lexicon.affixes.rules d ≡ ordered
        → slice_get lexicon.entries d.entry ≡ found
        → option_and_then (formed lexicon.affixes.options.full_strip)
        (if ordered then option_map (named_with lexicon.affixes.rules d) found else None)
        ≡ Some text → NamesAll lexicon d
    at true (Some entry) order there is =
        record { entry = slice_get_within lexicon.entries d.entry entry there; ordered = order }
    at true None order there is = absurd (cc)
    at false found order there is = absurd (cc)

names-among : (lexicon : Lexicon) (d : Derivation) → NamesAll lexicon d
    → Contains (all_derivations lexicon) d
names-among lexicon d names =
    let rules = lexicon.affixes.rules in
    let count = length rules in
    let places = choices count in
    let one =
    and_parts (is_right rules Prefix d.prefix)
    (is_right rules Suffix d.first &&
    (is_right rules Suffix d.second && (is_none d.second || is_some d.first))) names.ordered in
    let two =
    and_parts (is_right rules Suffix d.first)
    (is_right rules Suffix d.second && (is_none d.second || is_some d.first)) one.1 in
    let three =
    and_parts (is_right rules Suffix d.second) (is_none d.second || is_some d.first) two.1 in
    contains-flat_map (all_from count) (range_with_len 0 (length lexicon.entries)) d.entry d
    (contains-range (length lexicon.entries) d.entry names.entry)
    (contains-flat_map
    (λ prefix. flat_map (λ first. map (derivation_of d.entry prefix first) places) places)
    places d.prefix d
    (contains-choice count d.prefix (right-within rules Prefix d.prefix one.0))
    (contains-flat_map (λ first. map (derivation_of d.entry d.prefix first) places) places d.first d
    (contains-choice count d.first (right-within rules Suffix d.first two.0))
    (contains-map (derivation_of d.entry d.prefix d.first) places d.second
    (contains-choice count d.second (right-within rules Suffix d.second three.0)))))

-- ---- all parts
abbrev HasForm : Lexicon → Part → Type 0
HasForm lexicon part = form_of lexicon part.d ≡ Some part.text

each-any : {X : Type 0} (P : X → Type 0) → ((x : X) → P x) → (xs : List X) → AllByRecursion P xs
each-any P holds [] = tt
each-any P holds (x ∷ xs) = (holds x, each-any P holds xs)

-- each has the form of its derivation
have-forms : (lexicon : Lexicon) (off : ℕ) (joint : WrittenJoint) (ds : List Derivation)
    → AllByRecursion (HasForm lexicon) (filter_map (part_from lexicon off joint) ds)
have-forms lexicon off joint [] = tt
have-forms lexicon off joint (d ∷ ds) =
    at (form_of lexicon d) refl (have-forms lexicon off joint ds)
  where
    at : (found : Option (List ℕ)) → form_of lexicon d ≡ found
        → AllByRecursion (HasForm lexicon) (filter_map (part_from lexicon off joint) ds)
        → AllByRecursion (HasForm lexicon)
        (cons_option (option_map (part_with off joint d) found)
        (filter_map (part_from lexicon off joint) ds))
    at None form rest = rest
    at (Some text) form rest = (form, rest)

given-filter : (a : Asked) (parts : List Part) → AllByRecursion (HasForm a.lexicon) parts
    → AllByRecursion (IsGiven a) (filter (may_be_part a) parts)
given-filter a [] forms = tt
given-filter a (part ∷ parts) forms = by (may_be_part a part) refl (given-filter a parts forms.1)
  where
    by : (may : Bool) → may_be_part a part ≡ may
        → AllByRecursion (IsGiven a) (filter (may_be_part a) parts)
        → AllByRecursion (IsGiven a)
        (cond may (part ∷ filter (may_be_part a) parts) (filter (may_be_part a) parts))
    by true may rest = (record { form = forms.0; may = may }, rest)
    by false may rest = rest

-- so each is a part of the dictionary that a compound may have
all-given : (a : Asked) → AllByRecursion (IsGiven a) (all_parts a)
all-given a =
    given-filter a (flat_map between (all_offs a.lexicon))
    (each-flat_map (HasForm a.lexicon) between (all_offs a.lexicon)
    (each-any (λ off. AllByRecursion (HasForm a.lexicon) (between off))
    (λ off. each-flat_map (HasForm a.lexicon) (parts_between a.lexicon off) (all_joints a.lexicon)
    (each-any (λ joint. AllByRecursion (HasForm a.lexicon) (parts_between a.lexicon off joint))
    (λ joint. have-forms a.lexicon off joint (all_derivations a.lexicon))
    (all_joints a.lexicon))) (all_offs a.lexicon)))
  where
    between : ℕ → List Part
    between off = flat_map (parts_between a.lexicon off) (all_joints a.lexicon)

-- and each of these is among them, with what joints take off and put
given-among : (a : Asked) (part : Part) → IsGiven a part
    → Contains (all_offs a.lexicon) part.off_begin → Contains (all_joints a.lexicon) part.joint
    → Contains (all_parts a) part
given-among a part given off joint =
    contains-filter (may_be_part a) (flat_map between (all_offs a.lexicon)) part
    (contains-flat_map between (all_offs a.lexicon) part.off_begin part off
    (contains-flat_map (parts_between a.lexicon part.off_begin)
    (all_joints a.lexicon) part.joint part joint
    (contains-filter_map (part_from a.lexicon part.off_begin part.joint)
    (all_derivations a.lexicon) part.d part
    (names-among a.lexicon part.d (form-names a.lexicon part.d part.text given.form))
    (ap (option_map (part_with part.off_begin part.joint part.d)) given.form))))
    given.may
  where
    between : ℕ → List Part
    between off = flat_map (parts_between a.lexicon off) (all_joints a.lexicon)

ends-whole : (a : Asked) (part : Part) → may_end a part ≡ true → part.joint ≡ plain_joint
ends-whole a part ends =
    same-joint part.joint plain_joint (and_parts (is_same_joint part.joint plain_joint) _ ends).0

-- the parts that are written together are among all, if the first is
each-among : (a : Asked) (parts : List Part) → AllByRecursion (IsGiven a) parts
    → do_meet a parts ≡ true → end_well a parts ≡ true
    → ((part : Part) (more : List Part) → parts ≡ part ∷ more
    → Contains (all_offs a.lexicon) part.off_begin) → AllByRecursion (Contains (all_parts a)) parts
each-among a [] given meet ends first = tt
each-among a (part ∷ []) given meet ends first = (
  given-among a part given.0 (first part [] refl)
      (subst (Contains (all_joints a.lexicon)) (sym (ends-whole a part ends))
      (plain-among a.lexicon)),
  tt,
)
each-among a (part ∷ next ∷ more) given meet ends first = (
  given-among a part given.0 (first part (next ∷ more) refl) among,
  each-among a (next ∷ more) given.1 both.1 ends
      (λ those rest is. subst (Contains (all_offs a.lexicon)) (off those rest is)
      (contains-map (λ joint. joint.off_begin) (all_joints a.lexicon) part.joint among)),
)
  where
    both : (are_joined a part next ≡ true) × (do_meet a (next ∷ more) ≡ true)
    both = and_parts (are_joined a part next) (do_meet a (next ∷ more)) meet

    joined : AreJoined a part next
    joined = joined-written a part next both.0

    among : Contains (all_joints a.lexicon) part.joint
    among = written-among a.lexicon part.text part.d next.text next.d part.joint joined.joint

    off : (those : Part) (rest : List Part) → next ∷ more ≡ those ∷ rest
        → part.joint.off_begin ≡ those.off_begin
    off those rest is = sym joined.off ∙ cc

given-length : (a : Asked) (parts : List Part) → AllByRecursion (IsGiven a) parts
    → length parts ≤ length (written parts)
given-length a [] given = omega arith
given-length a (part ∷ parts) given =
    omega (
      arith,
      stretch-some part (given-keeps a part given.0),
      length-append (stretch part)
          (written parts),
      given-length a parts given.1,
    )

-- ---- what parts make up
-- the first thing that is asked of them
make-written : (a : Asked) (word : List ℕ) (parts : List Part) → make_up a word parts ≡ true
    → written parts ≡ word
unfolding make_up
make-written a word parts make =
    (bytes_eq-Decides (written parts) word).0
    (and_parts (is_same_word (written parts) word) _ make).0

-- the points of them that tell which parts are tried
record MeetAndEnd (a : Asked) (parts : List Part) : Type 0 where
  begin : begin_well parts ≡ true
  meet : do_meet a parts ≡ true
  ends : end_well a parts ≡ true

make-meet : (a : Asked) (word : List ℕ) (parts : List Part) → make_up a word parts ≡ true
    → MeetAndEnd a parts
unfolding make_up
make-meet a word parts make =
    let one = and_parts (is_same_word (written parts) word) _ make in
    let two = and_parts (nat_le 2 (length parts)) _ one.1 in
    let three = and_parts (are_few a (length parts)) _ two.1 in
    let four = and_parts (begin_well parts) _ three.1 in
    let five = and_parts (do_meet a parts) _ four.1 in
    record { begin = four.0; meet = five.0; ends = (and_parts _ (end_well a parts) five.1).1 }

begins-whole : (parts : List Part) → begin_well parts ≡ true → (part : Part) (more : List Part)
    → parts ≡ part ∷ more → part.off_begin ≡ 0
begins-whole [] begin part more is = absurd cc
begins-whole (first ∷ others) begin part more is =
    nat-same part.off_begin 0 (subst (λ those. begin_well those ≡ true) is begin)

pub made_up-parts : (a : Asked) (word : List ℕ) → (is_made_up a word ≡ true) ↔ IsMadeUp a word
unfolding is_made_up
made_up-parts a word = (
  λ made. found
      (Any-from_list_any (make_up a word)
      (lists_within (length word) (all_parts a)) made),
  λ made. among made,
)
  where
    found : Any (λ parts. make_up a word parts ≡ true) (lists_within (length word) (all_parts a))
        → IsMadeUp a word
    found (k, parts, within, at, make) = record {
      parts = parts;
      given =
          subst (AllByRecursion (IsGiven a)) at
          (All-from_recursion (AllByRecursion (IsGiven a))
          (lists_within (length word) (all_parts a))
          (each-within (IsGiven a) (all_parts a) (all-given a) (length word)) k parts within);
      make = make;
    }

    tried : (parts : List Part) → make_up a word parts ≡ true
        → Contains (lists_within (length word) (all_parts a)) parts → is_made_up a word ≡ true
    tried parts make (k, within, at) =
        list_any_at (make_up a word) (lists_within (length word) (all_parts a)) k parts within
        (ap (make_up a word) at ∙ make)

    among : IsMadeUp a word → is_made_up a word ≡ true
    among made =
        let points = make-meet a word made.parts made.make in
        tried made.parts made.make
        (contains-within (all_parts a) (length word) made.parts
        (each-among a made.parts made.given points.meet points.ends
        (λ part more is. subst (Contains (all_offs a.lexicon))
        (sym (begins-whole made.parts points.begin part more is))
        (contains-map (λ joint. joint.off_begin) (all_joints a.lexicon) plain_joint
        (plain-among a.lexicon))))
        (omega (
          arith,
          given-length a made.parts made.given,
          ap length
              (make-written a word made.parts made.make),
        )))

-- ---- neighbours
-- all neighbours meet exactly where each two do
meet-at : (a : Asked) (front : List Part) (x y : Part) (more : List Part)
    → do_meet a (front ++ x ∷ y ∷ more) ≡ true → are_joined a x y ≡ true
meet-at a [] x y more meet = (and_parts (are_joined a x y) _ meet).0
meet-at a (part ∷ []) x y more meet =
    meet-at a [] x y more (and_parts (are_joined a part x) _ meet).1
meet-at a (part ∷ next ∷ front) x y more meet =
    meet-at a (next ∷ front) x y more (and_parts (are_joined a part next) _ meet).1

abbrev AllMeet : Asked → List Part → Type 0
AllMeet a parts =
    (front : List Part) (x y : Part) (more : List Part) → parts ≡ front ++ x ∷ y ∷ more
    → AreJoined a x y

meet-all : (a : Asked) (parts : List Part) → AllMeet a parts → do_meet a parts ≡ true
meet-all a [] meet = refl
meet-all a (part ∷ []) meet = refl
meet-all a (part ∷ next ∷ more) meet =
    and_from (are_joined a part next) (do_meet a (next ∷ more))
    (written-joined a part next (meet [] part next more refl))
    (meet-all a (next ∷ more)
    (λ front x y rest is. meet (part ∷ front) x y rest (ap (λ behind. part ∷ behind) is)))

-- ---- the front
begin-all : (parts : List Part)
    → ((part : Part) (more : List Part) → parts ≡ part ∷ more → part.off_begin ≡ 0)
    → begin_well parts ≡ true
begin-all [] begin = refl
begin-all (part ∷ more) begin = ap (λ off. off == 0) (begin part more refl) ∙ nat-own 0

-- ---- the end
end-at : (a : Asked) (front : List Part) (part : Part) → end_well a (front ++ part ∷ []) ≡ true
    → may_end a part ≡ true
end-at a [] part end = end
end-at a (first ∷ []) part end = end
end-at a (first ∷ next ∷ front) part end = end-at a (next ∷ front) part end

abbrev EndsIn : (Part → Type 0) → List Part → Type 0
EndsIn P parts = (front : List Part) (part : Part) → parts ≡ front ++ part ∷ [] → P part

end-all : (a : Asked) (parts : List Part) → EndsIn (λ part. may_end a part ≡ true) parts
    → end_well a parts ≡ true
end-all a [] end = refl
end-all a (part ∷ []) end = end [] part refl
end-all a (part ∷ next ∷ more) end =
    end-all a (next ∷ more)
    (λ front last is. end (part ∷ front) last (ap (λ behind. part ∷ behind) is))

-- ---- places
module _ (stands : Derivation → Place → Bool) where
  abbrev others_stand : Part → List Part → Bool
  others_stand part more = all_stand stands Middle (part ∷ more)

  stand-middle : (here : Place) (front : List Part) (before part next : Part) (more : List Part)
      → all_stand stands here (front ++ before ∷ part ∷ next ∷ more) ≡ true
      → stands part.d Middle ≡ true
  stand-middle here [] before part next more all =
      (and_parts (stands part.d Middle) _ (and_parts (stands before.d here) _ all).1).0
  stand-middle here (first ∷ []) before part next more all =
      stand-middle Middle [] before part next more (and_parts (stands first.d here) _ all).1
  stand-middle here (first ∷ second ∷ front) before part next more all =
      stand-middle Middle (second ∷ front) before part next more
      (and_parts (stands first.d here) _ all).1

  stand-last : (here : Place) (front : List Part) (part : Part)
      → all_stand stands here (front ++ part ∷ []) ≡ true → stands part.d Last ≡ true
  stand-last here [] part all = all
  stand-last here (first ∷ []) part all = (and_parts (stands first.d here) _ all).1
  stand-last here (first ∷ second ∷ front) part all =
      stand-last Middle (second ∷ front) part (and_parts (stands first.d here) _ all).1

  all-stand : (parts : List Part) → all_stand stands First parts ≡ true → Stand stands parts
  all-stand parts all = record {
    first =
        λ part next more is.
        (and_parts (stands part.d First) _
        (subst (λ those. all_stand stands First those ≡ true) is all)).0;
    middle =
        λ front before part next more is. stand-middle First front before part next more
        (subst (λ those. all_stand stands First those ≡ true) is all);
    last =
        λ front part is. stand-last First front part
        (subst (λ those. all_stand stands First those ≡ true) is all);
  }

  -- the parts behind one that is not the last
  stand-behind : (before : Part) (parts : List Part)
      → ((front : List Part) (left part next : Part) (more : List Part)
      → before ∷ parts ≡ front ++ left ∷ part ∷ next ∷ more → stands part.d Middle ≡ true)
      → EndsIn (λ part. stands part.d Last ≡ true) (before ∷ parts)
      → all_stand stands Middle parts ≡ true
  stand-behind before [] middle last = refl
  stand-behind before (part ∷ []) middle last = last (before ∷ []) part refl
  stand-behind before (part ∷ next ∷ more) middle last =
      and_from (stands part.d Middle) (others_stand next more)
      (middle [] before part next more refl)
      (stand-behind part (next ∷ more)
      (λ front left right behind rest is. middle (before ∷ front) left right behind rest
      (ap (λ those. before ∷ those) is))
      (λ front end is. last (before ∷ front) end (ap (λ those. before ∷ those) is)))

  stand-all : (parts : List Part) → Stand stands parts → all_stand stands First parts ≡ true
  stand-all [] stand = refl
  stand-all (part ∷ []) stand = stand.last [] part refl
  stand-all (part ∷ next ∷ more) stand =
      and_from (stands part.d First) (others_stand next more) (stand.first part next more refl)
      (stand-behind part (next ∷ more) stand.middle stand.last)

-- ---- compound rules
follow-one : (a : Asked) (parts : List Part)
    → list_any (follows_rule a First parts) a.lexicon.affixes.patterns ≡ true → FollowsRule a parts
follow-one a parts some =
    found (Any-from_list_any (follows_rule a First parts) a.lexicon.affixes.patterns some)
  where
    found : Any (λ pattern. follows_rule a First parts pattern ≡ true) a.lexicon.affixes.patterns
        → FollowsRule a parts
    found (k, pattern, within, at, follows) =
        let halves =
        and_parts (all_stand (stands_in_rule a.lexicon) First parts)
        (matches pattern (flags_of a parts)) follows in
        record {
          pattern = pattern;
          among = (k, within, at);
          stand = all-stand (stands_in_rule a.lexicon) parts halves.0;
          matched = matches-relation pattern (flags_of a parts) halves.1;
        }

one-followed : (a : Asked) (parts : List Part) → FollowsRule a parts
    → list_any (follows_rule a First parts) a.lexicon.affixes.patterns ≡ true
one-followed a parts follows = at follows.among
  where
    holds : follows_rule a First parts follows.pattern ≡ true
    holds =
        and_from (all_stand (stands_in_rule a.lexicon) First parts)
        (matches follows.pattern (flags_of a parts))
        (stand-all (stands_in_rule a.lexicon) parts follows.stand)
        (relation-matches follows.pattern (flags_of a parts) follows.matched)

    at : Contains a.lexicon.affixes.patterns follows.pattern
        → list_any (follows_rule a First parts) a.lexicon.affixes.patterns ≡ true
    at (k, within, is) =
        list_any_at (follows_rule a First parts) a.lexicon.affixes.patterns k follows.pattern within
        (ap (follows_rule a First parts) is ∙ holds)

-- ---- how many parts there are
few-most : (most : Option ℕ) (count : ℕ) → option_map_or (nat_le count) most true ≡ true
    → IfSome most (λ bound. count ≤ bound)
few-most None count few = tt
few-most (Some bound) count few = leb-true count bound few

most-few : (most : Option ℕ) (count : ℕ) → IfSome most (λ bound. count ≤ bound)
    → option_map_or (nat_le count) most true ≡ true
most-few None count few = refl
most-few (Some bound) count few = le-leb count bound few

-- ---- compounds
-- what parts that make up a word meet
record Makes (a : Asked) (word : List ℕ) (parts : List Part) : Type 0 where
  joined : written parts ≡ word
  two : 2 ≤ length parts
  few : IfSome a.lexicon.affixes.options.word_max (λ most. length parts ≤ most)
  begin : (part : Part) (more : List Part) → parts ≡ part ∷ more → part.off_begin ≡ 0
  meet : AllMeet a parts
  stand : Stand (stands_at a.lexicon) parts ⊎ FollowsRule a parts
  end : EndsIn (λ part. may_end a part ≡ true) parts

module _ (a : Asked) (word : List ℕ) (parts : List Part) where
  abbrev by_flags : Bool
  by_flags = stand_by_flags a First parts

  abbrev by_rule : Bool
  by_rule = list_any (follows_rule a First parts) a.lexicon.affixes.patterns

  stand-cases : (by_flags || by_rule) ≡ true → Stand (stands_at a.lexicon) parts
      ⊎ FollowsRule a parts
  stand-cases either = by (or_cases by_flags by_rule either)
    where
      by : (by_flags ≡ true) ⊎ (by_rule ≡ true)
          → Stand (stands_at a.lexicon) parts ⊎ FollowsRule a parts
      by (inl all) = inl (all-stand (stands_at a.lexicon) parts all)
      by (inr some) = inr (follow-one a parts some)

  cases-stand : Stand (stands_at a.lexicon) parts ⊎ FollowsRule a parts
      → (by_flags || by_rule) ≡ true
  cases-stand (inl stand) = or_left by_flags by_rule (stand-all (stands_at a.lexicon) parts stand)
  cases-stand (inr follows) = or_right by_flags by_rule (one-followed a parts follows)

  make-makes : make_up a word parts ≡ true → Makes a word parts
  unfolding make_up
  make-makes make =
      let one = and_parts (is_same_word (written parts) word) _ make in
      let two = and_parts (nat_le 2 (length parts)) _ one.1 in
      let three = and_parts (are_few a (length parts)) _ two.1 in
      let front = and_parts (begin_well parts) _ three.1 in
      let four = and_parts (do_meet a parts) _ front.1 in
      let five = and_parts (by_flags || by_rule) (end_well a parts) four.1 in
      record {
        joined = (bytes_eq-Decides (written parts) word).0 one.0;
        two = leb-true 2 (length parts) two.0;
        few = few-most a.lexicon.affixes.options.word_max (length parts) three.0;
        begin = begins-whole parts front.0;
        meet =
            λ front x y more is. joined-written a x y
            (meet-at a front x y more (subst (λ those. do_meet a those ≡ true) is four.0));
        stand = stand-cases five.0;
        end =
            λ front part is. end-at a front part
            (subst (λ those. end_well a those ≡ true) is five.1);
      }

  makes-make : Makes a word parts → make_up a word parts ≡ true
  unfolding make_up
  makes-make makes =
      and_from (is_same_word (written parts) word) _
      ((bytes_eq-Decides (written parts) word).1 makes.joined)
      (and_from (nat_le 2 (length parts)) _ (le-leb 2 (length parts) makes.two)
      (and_from (are_few a (length parts)) _
      (most-few a.lexicon.affixes.options.word_max (length parts) makes.few)
      (and_from (begin_well parts) _ (begin-all parts makes.begin)
      (and_from (do_meet a parts) _ (meet-all a parts makes.meet)
      (and_from (by_flags || by_rule) (end_well a parts) (cases-stand makes.stand)
      (end-all a parts makes.end))))))

-- a fault that is asked for, and none
not-asked : (asked fault : Bool) → not (asked && fault) ≡ true → asked ≡ true → fault ≡ false
not-asked true fault none is = not-true fault none
not-asked false fault none is = absurd (false≢true is)

none-asked : (asked fault : Bool) → (asked ≡ true → fault ≡ false) → not (asked && fault) ≡ true
none-asked true fault none = not_from_false fault (none refl)
none-asked false fault none = refl

pub compound-relation : (a : Asked) (word : List ℕ)
    → (is_compound a word ≡ true) ↔ IsCompound a word
unfolding is_compound
compound-relation a word =
    (λ is. there (and_parts (is_made_up a word) _ is), λ compound. back compound)
  where
    asked : Bool
    asked = a.lexicon.affixes.options.check_rep

    fault : Bool
    fault = has_rep_fault a.lexicon word

    there : (is_made_up a word ≡ true) × (not (asked && fault) ≡ true) → IsCompound a word
    there (made, none) =
        let by = (made_up-parts a word).0 made in
        let makes = make-makes a word by.parts by.make in
        record {
          parts = by.parts;
          given = by.given;
          joined = makes.joined;
          two = makes.two;
          few = makes.few;
          begin = makes.begin;
          meet = makes.meet;
          stand = makes.stand;
          end = makes.end;
          spelled = not-asked asked fault none;
        }

    back : IsCompound a word → (is_made_up a word && not (asked && fault)) ≡ true
    back compound =
        and_from (is_made_up a word) (not (asked && fault))
        ((made_up-parts a word).1 (record {
          parts = compound.parts;
          given = compound.given;
          make = makes-make a word compound.parts (record {
            joined = compound.joined;
            two = compound.two;
            few = compound.few;
            begin = compound.begin;
            meet = compound.meet;
            stand = compound.stand;
            end = compound.end;
          });
        }))
        (none-asked asked fault compound.spelled)
