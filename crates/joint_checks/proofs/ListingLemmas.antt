-- Joints that are added one by one, each unless it is there, are all joints, each once.
use Rattle.std.proofs.Common.{◌≡◌, ℕ, Bool, true, false, not, cond, ◌&&◌, ◌||◌, List, [], ◌∷◌, ◌++◌}
use Rattle.std.proofs.Common.{fold, None, Some, refl, sym, ap, ◌∙◌, append_assoc}
use Rattle.std.proofs.Common.{append-nil}
use Rattle.std.specs.List.{filter, filter_map, cons_option}
use Rattle.std.specs.Option.{option_map_or}
use Rattle.std.proofs.lemmas.List.Folds.{list_any-append}
use Rattle.spell_types.specs.declared.Lexicon.{Lexicon}
use Rattle.spell_types.specs.declared.derivations.Derivation.{Derivation}
use Rattle.spell_types.specs.declared.joints.JointPattern.{JointPattern}
use Rattle.spell_types.specs.declared.joints.WrittenJoint.{WrittenJoint}
use Rattle.spell_types.specs.Joints.{all_joints, each_once, is_same_joint, joint_of_row, joints_of}
use Rattle.spell_types.specs.Joints.{is_written_joint, plain_joint, simplified_joint}
use Rattle.spell_types.specs.JointLaws.{same-joint}
use Rattle.joint_checks.specs.Listing.{is_listed, with_joint, with_row}

-- two filters, one after the other, are one
filter-filter : {X : Type 0} (p q r : X → Bool) → ((x : X) → r x ≡ (q x && p x)) → (xs : List X)
    → filter p (filter q xs) ≡ filter r xs
filter-filter p q r both [] = refl
filter-filter p q r both (x ∷ xs) =
    let rest = filter-filter p q r both xs in
    let kept = filter p (filter q xs) in
    let wanted = filter r xs in
    rw (both x)
    (elim (q x)
    as (λ b. filter p (cond b (x ∷ filter q xs) (filter q xs))
    ≡ cond (b && p x) (x ∷ wanted) wanted) [
      | true ↦ elim (p x) as (λ b. cond b (x ∷ kept) kept ≡ cond b (x ∷ wanted) wanted) [
        | true ↦ ap (λ ys. x ∷ ys) rest
        | false ↦ rest
      ]
      | false ↦ rest
    ])

module _ (passes : WrittenJoint → Bool) where
  -- whether a joint is added to these
  abbrev is_new : List WrittenJoint → WrittenJoint → Bool
  is_new found joint = passes joint && not (is_listed found joint)

  -- a joint that is not added is like none that is
  new-is-other : (found : List WrittenJoint) (joint : WrittenJoint) → is_new found joint ≡ false
      → (other : WrittenJoint)
      → is_new found other ≡ (not (is_same_joint other joint) && is_new found other)
  new-is-other found joint old other =
      elim (is_same_joint other joint)
      as (λ b. is_same_joint other joint ≡ b → is_new found other ≡ (not b && is_new found other)) [
        | true ↦ λ same. ap (is_new found) (same-joint other joint same) ∙ old
        | false ↦ λ _. refl
      ] refl

  -- behind one that is added only those are that are not like it
  new-at-push : (found : List WrittenJoint) (joint other : WrittenJoint)
      → is_new (found ++ joint ∷ []) other ≡ (not (is_same_joint other joint) && is_new found other)
  new-at-push found joint other =
      ap (λ b. passes other && not b) (list_any-append (is_same_joint other) found (joint ∷ []))
      ∙ by (passes other) (is_listed found other) (is_same_joint other joint)
    where
      by : (p l s : Bool) → (p && not (l || (s || false))) ≡ (not s && (p && not l))
      by true true true = refl
      by true true false = refl
      by true false true = refl
      by true false false = refl
      by false true true = refl
      by false true false = refl
      by false false true = refl
      by false false false = refl

  -- those that are not like a joint
  abbrev others : WrittenJoint → WrittenJoint → Bool
  others joint other = not (is_same_joint other joint)

  pub fold-with_joint : (found more : List WrittenJoint)
      → fold (with_joint passes) found more ≡ found ++ filter (is_new found) (each_once more)
  fold-with_joint found [] = sym (append-nil found)
  fold-with_joint found (joint ∷ more) =
      elim (is_new found joint)
      as (λ b. is_new found joint ≡ b
      → fold (with_joint passes) (cond b (found ++ joint ∷ []) found) more
      ≡ found ++ cond b (joint ∷ filter (is_new found) (filter (others joint) (each_once more)))
      (filter (is_new found) (filter (others joint) (each_once more)))) [
        | true ↦ λ _. fold-with_joint (found ++ joint ∷ []) more
            ∙ (append_assoc found (joint ∷ []) _
            ∙ ap (λ rest. found ++ (joint ∷ rest)) (sym (filter-filter (is_new found) (others joint)
            (is_new (found ++ joint ∷ [])) (new-at-push found joint) (each_once more))))
        | false ↦ λ old. fold-with_joint found more
            ∙ ap (λ rest. found ++ rest) (sym (filter-filter (is_new found) (others joint)
            (is_new found) (new-is-other found joint old) (each_once more)))
      ] refl

  -- the rows one by one are the joints that they have
  pub fold-with_row : (rows : List JointPattern) (found : List WrittenJoint)
      → fold (with_row passes) found rows
      ≡ fold (with_joint passes) found (filter_map joint_of_row rows)
  fold-with_row [] found = refl
  fold-with_row (row ∷ rows) found =
      elim (joint_of_row row)
      as (λ own. fold (with_row passes) (option_map_or (with_joint passes found) own found) rows
      ≡ fold (with_joint passes) found (cons_option own (filter_map joint_of_row rows))) [
        | None ↦ fold-with_row rows found
        | Some joint ↦ fold-with_row rows (with_joint passes found joint)
      ]

  filter-new : (xs : List WrittenJoint) → filter (is_new []) xs ≡ filter passes xs
  filter-new [] = refl
  filter-new (x ∷ xs) =
      elim (passes x)
      as (λ b. cond (b && true) (x ∷ filter (is_new []) xs) (filter (is_new []) xs)
      ≡ cond b (x ∷ filter passes xs) (filter passes xs)) [
        | true ↦ ap (λ ys. x ∷ ys) (filter-new xs)
        | false ↦ filter-new xs
      ]

  -- what is found in the end, from what was found step by step
  found-are-all : (lexicon : Lexicon) (start first then last : List WrittenJoint)
      (plain simple : WrittenJoint) → start ≡ [] → plain ≡ plain_joint
      → first ≡ with_joint passes start plain → simple ≡ simplified_joint
      → then ≡ with_joint passes first simple
      → last ≡ fold (with_row passes) then lexicon.affixes.joints
      → last ≡ filter passes (each_once (all_joints lexicon))
  found-are-all lexicon start first then last plain simple none same one same2 two three =
      three
      ∙ (fold-with_row lexicon.affixes.joints then
      ∙ (ap (λ found. fold (with_joint passes) found own) both
      ∙ (fold-with_joint [] (all_joints lexicon)
      ∙ filter-new (each_once (all_joints lexicon)))))
    where
      own : List WrittenJoint
      own = filter_map joint_of_row lexicon.affixes.joints

      begun : first ≡ with_joint passes [] plain_joint
      begun =
          one
          ∙ (ap (λ found. with_joint passes found plain) none ∙ ap (with_joint passes []) same)

      both : then ≡ with_joint passes (with_joint passes [] plain_joint) simplified_joint
      both =
          two
          ∙ (ap (λ found. with_joint passes found simple) begun
          ∙ ap (with_joint passes (with_joint passes [] plain_joint)) same2)

-- and these are the written joints of the two parts
pub found-are-joints : (lexicon : Lexicon) (x : List ℕ) (d : Derivation) (y : List ℕ)
    (e : Derivation) (start first then last : List WrittenJoint) (plain simple : WrittenJoint)
    → start ≡ [] → plain ≡ plain_joint
    → first ≡ with_joint (is_written_joint lexicon x d y e) start plain
    → simple ≡ simplified_joint → then ≡ with_joint (is_written_joint lexicon x d y e) first simple
    → last ≡ fold (with_row (is_written_joint lexicon x d y e)) then lexicon.affixes.joints
    → last ≡ joints_of lexicon x d y e
unfolding joints_of
found-are-joints lexicon x d y e = found-are-all (is_written_joint lexicon x d y e) lexicon
