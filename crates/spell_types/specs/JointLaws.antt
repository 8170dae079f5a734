-- Laws of written joints, which the proofs of several crates cite: the test, the list and the
-- relation say the same.
use Rattle.std.proofs.Common.{◌≡◌, ◌∙◌, ◌↔◌, refl, sym, ap, subst, ℕ, zero, suc, ◌==◌, Bool, true}
use Rattle.std.proofs.Common.{false, not, ◌&&◌, ◌||◌, ◌⊎◌, inl, inr, List, [], ◌∷◌, Contains}
use Rattle.std.proofs.Common.{Any, Option, None, Some, not-suc-le-zero, le_of_suc-le-suc}
use Rattle.std.proofs.Common.{true≢false, arith}
use Rattle.std.specs.List.{filter, filter_map, list_any, cons_option}
use Rattle.std.specs.Option.{option_map, option_map_or}
use Rattle.std.proofs.lemmas.Bool.{and_parts, and_from, or_cases, or_left, or_right}
use Rattle.std.proofs.lemmas.List.Folds.{Any-from_list_any, list_any_at}
use Rattle.std.proofs.lemmas.Slice.Eq.{bytes_eq-Decides}
use Rattle.std.proofs.lemmas.Bool.Decides.{nat_tests}
use Rattle.lists.specs.Laws.{contains-head, contains-tail, contains-filter, filter-holds}
use Rattle.spell_types.specs.declared.Lexicon.{Lexicon}
use Rattle.spell_types.specs.declared.derivations.Derivation.{Derivation}
use Rattle.spell_types.specs.declared.joints.WrittenJoint.{WrittenJoint}
use Rattle.spell_types.specs.Cases.{is_same_word}
use Rattle.spell_types.specs.Joints.{all_joints, each_once, fits_joint, is_joint, is_joint_of}
use Rattle.spell_types.specs.Joints.{is_replaced_by, is_same_joint, is_simplified, is_written_joint}
use Rattle.spell_types.specs.Joints.{joint_of_row, joints_of, plain_joint, replaced_joint}
use Rattle.spell_types.specs.Joints.{simplified_joint, IsWrittenJoint, Plain, Simplified, Replaced}

-- ---- lists
pub contains-filter_map : {X Y : Type 0} (h : X → Option Y) (xs : List X) (x : X) (y : Y)
    → Contains xs x → h x ≡ Some y → Contains (filter_map h xs) y
contains-filter_map h [] x y (k, within, at) is = absurd (not-suc-le-zero within)
contains-filter_map h (z ∷ xs) x y (zero, within, at) is =
    subst (λ found. Contains (cons_option found (filter_map h xs)) y) (sym (ap h at ∙ is))
    (contains-head y (filter_map h xs))
contains-filter_map h (z ∷ xs) x y (suc k, within, at) is =
    by (h z) (contains-filter_map h xs x y (k, le_of_suc-le-suc within, at) is)
  where
    by : (found : Option _) → Contains (filter_map h xs) y
        → Contains (cons_option found (filter_map h xs)) y
    by None inside = inside
    by (Some first) inside = contains-tail first y (filter_map h xs) inside

-- ---- the same joint
joint_with : ℕ → List ℕ → ℕ → WrittenJoint
joint_with off_end put off_begin = record { off_end = off_end; put = put; off_begin = off_begin }

pub nat-same : (a b : ℕ) → (a == b) ≡ true → a ≡ b
nat-same a b same = grind (arith, nat_tests)

pub nat-own : (a : ℕ) → (a == a) ≡ true
nat-own a = grind (arith, nat_tests)

pub same-joint : (joint other : WrittenJoint) → is_same_joint joint other ≡ true → joint ≡ other
unfolding is_same_joint joint_with
same-joint joint other same =
    ap (λ n. joint_with n joint.put joint.off_begin) (nat-same joint.off_end other.off_end halves.0)
    ∙ ap (λ t. joint_with other.off_end t joint.off_begin)
    ((bytes_eq-Decides joint.put other.put).0 rest.0)
    ∙ ap (λ n. joint_with other.off_end other.put n)
    (nat-same joint.off_begin other.off_begin rest.1)
  where
    halves : ((joint.off_end == other.off_end) ≡ true)
        × ((is_same_word joint.put other.put && (joint.off_begin == other.off_begin)) ≡ true)
    halves = and_parts (joint.off_end == other.off_end)
        (is_same_word joint.put other.put && (joint.off_begin == other.off_begin)) same

    rest : (is_same_word joint.put other.put ≡ true) × ((joint.off_begin == other.off_begin) ≡ true)
    rest = and_parts (is_same_word joint.put other.put) (joint.off_begin == other.off_begin)
        halves.1

pub own-joint : (joint : WrittenJoint) → is_same_joint joint joint ≡ true
unfolding is_same_joint
own-joint joint =
    and_from (joint.off_end == joint.off_end)
    (is_same_word joint.put joint.put && (joint.off_begin == joint.off_begin))
    (nat-own joint.off_end)
    (and_from (is_same_word joint.put joint.put) (joint.off_begin == joint.off_begin)
    ((bytes_eq-Decides joint.put joint.put).1 refl) (nat-own joint.off_begin))

pub plain-among : (lexicon : Lexicon) → Contains (all_joints lexicon) plain_joint
plain-among lexicon =
    contains-head plain_joint (simplified_joint ∷ filter_map joint_of_row lexicon.affixes.joints)

-- ---- the test is the relation
module _ (lexicon : Lexicon) (x : List ℕ) (d : Derivation) (y : List ℕ) (e : Derivation)
    (joint : WrittenJoint) where
  abbrev plain : Bool
  plain = is_same_joint joint plain_joint && is_joint lexicon x d y e

  abbrev simplified : Bool
  simplified = is_same_joint joint simplified_joint && is_simplified lexicon x d y e

  abbrev free : Bool
  free = is_joint_of lexicon.affixes.options x y

  abbrev replaced : Bool
  replaced = list_any (is_replaced_by lexicon x d y e joint) lexicon.affixes.joints

  from-row : free ≡ true
      → Any (λ row. is_replaced_by lexicon x d y e joint row ≡ true) lexicon.affixes.joints
      → IsWrittenJoint lexicon x d y e joint
  from-row allowed (k, row, within, at, is) =
      by row.replacement refl
      (and_parts (fits_joint lexicon x d y e row)
      (option_map_or (is_same_joint joint) (joint_of_row row) false) is)
    where
      by : (found : Option (List ℕ)) → row.replacement ≡ found
          → (fits_joint lexicon x d y e row ≡ true)
          × (option_map_or (is_same_joint joint) (option_map (replaced_joint row) found) false
          ≡ true)
          → IsWrittenJoint lexicon x d y e joint
      by None none (fits, same) = absurd (true≢false (sym same))
      by (Some put) some (fits, same) =
          Replaced row put (k, within, at) some (same-joint joint (replaced_joint row put) same)
          fits allowed

  pub test-written : is_written_joint lexicon x d y e joint ≡ true
      → IsWrittenJoint lexicon x d y e joint
  unfolding is_written_joint
  test-written is = first (or_cases plain (simplified || (free && replaced)) is)
    where
      second : (simplified ≡ true) ⊎ ((free && replaced) ≡ true)
          → IsWrittenJoint lexicon x d y e joint
      second (inl one) =
          let halves =
          and_parts (is_same_joint joint simplified_joint) (is_simplified lexicon x d y e)
          one in
          Simplified (same-joint joint simplified_joint halves.0) halves.1
      second (inr two) =
          let halves = and_parts free replaced two in
          from-row halves.0
          (Any-from_list_any (is_replaced_by lexicon x d y e joint) lexicon.affixes.joints
          halves.1)

      first : (plain ≡ true) ⊎ ((simplified || (free && replaced)) ≡ true)
          → IsWrittenJoint lexicon x d y e joint
      first (inl one) =
          let halves = and_parts (is_same_joint joint plain_joint) (is_joint lexicon x d y e) one in
          Plain (same-joint joint plain_joint halves.0) halves.1
      first (inr two) = second (or_cases simplified (free && replaced) two)

  pub written-test : IsWrittenJoint lexicon x d y e joint
      → is_written_joint lexicon x d y e joint ≡ true
  unfolding is_written_joint
  written-test (Plain same is) =
      or_left plain (simplified || (free && replaced))
      (and_from (is_same_joint joint plain_joint) (is_joint lexicon x d y e)
      (ap (λ j. is_same_joint j plain_joint) same ∙ own-joint plain_joint) is)
  written-test (Simplified same is) =
      or_right plain (simplified || (free && replaced))
      (or_left simplified (free && replaced)
      (and_from (is_same_joint joint simplified_joint) (is_simplified lexicon x d y e)
      (ap (λ j. is_same_joint j simplified_joint) same ∙ own-joint simplified_joint) is))
  written-test (Replaced row put (k, within, at) some same fits allowed) =
      or_right plain (simplified || (free && replaced))
      (or_right simplified (free && replaced)
      (and_from free replaced allowed
      (list_any_at (is_replaced_by lexicon x d y e joint) lexicon.affixes.joints k row within
      (ap (is_replaced_by lexicon x d y e joint) at
      ∙ and_from (fits_joint lexicon x d y e row)
      (option_map_or (is_same_joint joint) (joint_of_row row) false) fits
      (ap (λ found. option_map_or (is_same_joint joint) (option_map (replaced_joint row) found)
      false) some
      ∙ ap (λ j. is_same_joint j (replaced_joint row put)) same
      ∙ own-joint (replaced_joint row put))))))

  -- each is one that the parts of the dictionary can have
  pub written-among : IsWrittenJoint lexicon x d y e joint → Contains (all_joints lexicon) joint
  written-among (Plain same is) =
      subst (Contains (all_joints lexicon)) (sym same) (plain-among lexicon)
  written-among (Simplified same is) =
      subst (Contains (all_joints lexicon)) (sym same)
      (contains-tail plain_joint simplified_joint
      (simplified_joint ∷ filter_map joint_of_row lexicon.affixes.joints)
      (contains-head simplified_joint (filter_map joint_of_row lexicon.affixes.joints)))
  written-among (Replaced row put among some same fits allowed) =
      subst (Contains (all_joints lexicon)) (sym same)
      (contains-tail plain_joint (replaced_joint row put)
      (simplified_joint ∷ filter_map joint_of_row lexicon.affixes.joints)
      (contains-tail simplified_joint (replaced_joint row put)
      (filter_map joint_of_row lexicon.affixes.joints)
      (contains-filter_map joint_of_row lexicon.affixes.joints row (replaced_joint row put) among
      (ap (option_map (replaced_joint row)) some))))

-- ---- the list is the relation
-- each once, it has what it had
once-among : (xs : List WrittenJoint) (joint : WrittenJoint) → Contains xs joint
    → Contains (each_once xs) joint
once-among [] joint (k, within, at) = absurd (not-suc-le-zero within)
once-among (first ∷ xs) joint (zero, within, at) =
    subst (Contains (each_once (first ∷ xs))) at
    (contains-head first (filter (λ other. not (is_same_joint other first)) (each_once xs)))
once-among (first ∷ xs) joint (suc k, within, at) =
    by (is_same_joint joint first) refl (once-among xs joint (k, le_of_suc-le-suc within, at))
  where
    by : (same : Bool) → is_same_joint joint first ≡ same → Contains (each_once xs) joint
        → Contains (first ∷ filter (λ other. not (is_same_joint other first)) (each_once xs)) joint
    by true same inside =
        subst (Contains (each_once (first ∷ xs))) (sym (same-joint joint first same))
        (contains-head first (filter (λ other. not (is_same_joint other first)) (each_once xs)))
    by false other inside =
        contains-tail first joint (filter (λ other. not (is_same_joint other first)) (each_once xs))
        (contains-filter (λ other. not (is_same_joint other first)) (each_once xs) joint inside
        (ap not other))

pub joints-are : (lexicon : Lexicon) (x : List ℕ) (d : Derivation) (y : List ℕ) (e : Derivation)
    (joint : WrittenJoint)
    → Contains (joints_of lexicon x d y e) joint ↔ IsWrittenJoint lexicon x d y e joint
unfolding joints_of
joints-are lexicon x d y e joint = (λ inside. there inside, λ is. back is)
  where
    there : Contains (filter (is_written_joint lexicon x d y e) (each_once (all_joints lexicon)))
        joint → IsWrittenJoint lexicon x d y e joint
    there inside =
        test-written lexicon x d y e joint
        (filter-holds (is_written_joint lexicon x d y e) (each_once (all_joints lexicon)) joint
        inside)

    back : IsWrittenJoint lexicon x d y e joint
        → Contains (filter (is_written_joint lexicon x d y e) (each_once (all_joints lexicon)))
        joint
    back is =
        contains-filter (is_written_joint lexicon x d y e) (each_once (all_joints lexicon)) joint
        (once-among (all_joints lexicon) joint (written-among lexicon x d y e joint is))
        (written-test lexicon x d y e joint is)
