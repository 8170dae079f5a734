-- Parts beside each other: what a piece begins and ends with.
use Rattle.std.proofs.Common.{◌≡◌, ◌∙◌, refl, sym, ap, subst, ℕ, zero, suc, ◌+◌, ◌-◌, ◌==◌}
use Rattle.std.proofs.Common.{◌<◌, Bool, true, false, ◌&&◌, ◌⊎◌, inl, inr, List}
use Rattle.std.proofs.Common.{[], ◌∷◌, ◌++◌, length, take, drop, nat_eq}
use Rattle.std.proofs.Common.{nat_lt, Some, append_assoc}
use Rattle.std.proofs.Common.{length-append}
use Rattle.std.proofs.Common.{if◌then◌else◌, true≢false, arith}
use Rattle.std.specs.List.{list_any, starts_with, ends_with}
use Rattle.std.specs.Option.{option_map_or}
use Rattle.std.proofs.lemmas.Bool.{and_parts, and_from, or_cases, or_left, or_right, lt-ltb}
use Rattle.std.proofs.lemmas.Bool.{ltb-true}
use Rattle.spell_types.specs.lists.Laws.{any-contains}
use Rattle.spell_types.specs.declared.Lexicon.{Lexicon}
use Rattle.spell_types.specs.declared.derivations.Derivation.{Derivation}
use Rattle.spell_types.specs.declared.joints.JointPattern.{JointPattern}
use Rattle.spell_types.specs.declared.parts.Part.{Part}
use Rattle.spell_types.specs.CompoundLaws.{given-keeps, joined-written}
use Rattle.spell_types.specs.Compounds.{Asked, AreJoined, are_joined, do_meet}
use Rattle.spell_types.specs.Compounds.{kept, keeps_some, may_end}
use Rattle.spell_types.specs.Compounds.{written}
use Rattle.spell_types.specs.EntriesOf.{is_entry_word}
use Rattle.spell_types.specs.JointLaws.{nat-own, same-joint}
use Rattle.spell_types.specs.Joints.{IsWrittenJoint, Plain, Simplified, Replaced, ends_as}
use Rattle.spell_types.specs.Joints.{fits_joint, has_entry_as_given}
use Rattle.spell_types.specs.Joints.{is_same_joint, is_simplified, is_triple}
use Rattle.spell_types.specs.Joints.{is_tripled, plain_joint, replaced_joint, simplified_joint}
use Rattle.compound_words.specs.declared.rests.FirstPart.{FirstPart}
use Rattle.compound_words.specs.Pieces.{EndsBefore, Whole, Short, Cut}
use Rattle.compound_words.specs.Pieces.{IsGivenAs, cuts, end_taken_off, has_put, is_cut_by}
use Rattle.compound_words.specs.Pieces.{may_begin}
use Rattle.compound_words.specs.Rests.{AreRest, HasPart}
use Rattle.compound_words.proofs.PieceLemmas.{ends-from, ends-nothing, ends-split, kept-some}

-- nothing is taken off the end of the last part
pub last-whole : (a : Asked) (part : Part) → may_end a part ≡ true → part.joint ≡ plain_joint
last-whole a part ends =
    same-joint part.joint plain_joint (and_parts (is_same_joint part.joint plain_joint) _ ends).0

-- what a row that fits two parts says of them
fits-sides : (lexicon : Lexicon) (x : List ℕ) (d : Derivation) (y : List ℕ) (e : Derivation)
    (row : JointPattern) → fits_joint lexicon x d y e row ≡ true
    → (ends_with nat_eq x (end_taken_off row) ≡ true) × (starts_with nat_eq y row.begin ≡ true)
unfolding fits_joint
fits-sides lexicon x d y e row fits =
    let halves =
    and_parts (ends_as row lexicon x d)
    (starts_with nat_eq y row.begin &&
    (has_entry_as_given row.end_flag lexicon d && has_entry_as_given row.begin_flag lexicon e))
    fits in (
      by row.unmodified halves.0,
      (and_parts (starts_with nat_eq y row.begin)
          (has_entry_as_given row.end_flag lexicon d && has_entry_as_given row.begin_flag lexicon e)
          halves.1).0,
    )
  where
    by : (whole : Bool) → (if whole then is_entry_word lexicon x d else ends_with nat_eq x row.end)
        ≡ true → ends_with nat_eq x (if whole then [] else row.end) ≡ true
    by true is = ends-nothing x
    by false is = is

-- behind a part its neighbour may begin
pub joined-begins : (a : Asked) (before front : List ℕ) (part next : Part)
    → IsGivenAs a before front part → are_joined a part next ≡ true
    → may_begin a.lexicon (before ++ front) next ≡ true
joined-begins a before front part next is joined = by joint.joint
  where
    joint : AreJoined a part next
    joint = joined-written a part next joined

    -- it begins whole where the joint takes nothing off it
    whole : next.off_begin ≡ 0 → may_begin a.lexicon (before ++ front) next ≡ true
    whole none =
        or_left (next.off_begin == 0)
        (list_any (is_cut_by (before ++ front) next) a.lexicon.affixes.joints)
        (ap (λ n. n == 0) none ∙ nat-own 0)

    put-there : (row : JointPattern) (put : List ℕ) → row.replacement ≡ Some put
        → part.joint ≡ replaced_joint row put → has_put (before ++ front) row ≡ true
    put-there row put some same =
        ap (λ found. option_map_or
        (λ p. nat_lt (length p) (length (before ++ front)) && ends_with nat_eq (before ++ front) p)
        found false) some
        ∙ and_from (nat_lt (length put) (length (before ++ front)))
        (ends_with nat_eq (before ++ front) put)
        (lt-ltb (length put) (length (before ++ front))
        (omega (
          arith,
          ap length written_is,
          length-append
              (before ++ kept part) put,
          length-append before (kept part),
          kept-some part
              (given-keeps a part is.given),
        )))
        (ends-from (before ++ front) (before ++ kept part) put written_is)
      where
        written_is : before ++ front ≡ (before ++ kept part) ++ put
        written_is =
            ap (λ t. before ++ t) (sym is.writes ∙ ap (λ j. kept part ++ j.put) same)
            ∙ sym (append_assoc before (kept part) put)

    by : IsWrittenJoint a.lexicon part.text part.d next.text next.d part.joint
        → may_begin a.lexicon (before ++ front) next ≡ true
    by (Plain same is) = whole (joint.off ∙ ap (λ j. j.off_begin) same)
    by (Simplified same is) = whole (joint.off ∙ ap (λ j. j.off_begin) same)
    by (Replaced row put among some same fits allowed) =
        let off : next.off_begin ≡ length row.begin = joint.off ∙ ap (λ j. j.off_begin) same in
        or_right (next.off_begin == 0)
        (list_any (is_cut_by (before ++ front) next) a.lexicon.affixes.joints)
        (any-contains (is_cut_by (before ++ front) next) a.lexicon.affixes.joints row among
        (and_from (has_put (before ++ front) row)
        ((length row.begin == next.off_begin) && starts_with nat_eq next.text row.begin)
        (put-there row put some same)
        (and_from (length row.begin == next.off_begin) (starts_with nat_eq next.text row.begin)
        (ap (λ n. length row.begin == n) off ∙ nat-own (length row.begin))
        (fits-sides a.lexicon part.text part.d next.text next.d row fits).1)))

-- a text that begins with a character
record BeginsWith (c : ℕ) (text : List ℕ) : Type 0 where
  more : List ℕ
  is : text ≡ c ∷ more

-- what parts write begins with the first character of a first part that is whole at its front
first-written : (next : Part) (more : List Part) (c : ℕ) (text : List ℕ) → next.text ≡ c ∷ text
    → next.off_begin ≡ 0 → keeps_some next ≡ true → BeginsWith c (written (next ∷ more))
first-written next more c text is off keeps =
    begins (length next.text - next.joint.off_end)
    (omega (arith, ltb-true (next.off_begin + next.joint.off_end) (length next.text) keeps))
  where
    begins : (n : ℕ) → 0 < n
        → BeginsWith c ((drop next.off_begin (take n next.text) ++ next.joint.put) ++ written more)
    begins zero none = absurd (omega (arith, none))
    begins (suc n) some = record {
      more = (take n text ++ next.joint.put) ++ written more;
      is =
          ap (λ t. (t ++ next.joint.put) ++ written more)
          (ap (λ o. drop o (take (suc n) next.text)) off ∙ ap (λ t. drop 0 (take (suc n) t)) is);
    }

-- three in a row: the left part ends with the first character of the right one
tripled-end : (x y : List ℕ) → is_tripled x y ≡ true → (c : ℕ) (more : List ℕ) → y ≡ c ∷ more
    → ends_with nat_eq x (c ∷ []) ≡ true
tripled-end x y tripled c more is =
    by (or_cases (ends_with nat_eq x (c ∷ c ∷ []))
    (ends_with nat_eq x (c ∷ []) && starts_with nat_eq more (c ∷ []))
    (subst (λ t. is_tripled x t ≡ true) is tripled))
  where
    by : (ends_with nat_eq x (c ∷ c ∷ []) ≡ true)
        ⊎ ((ends_with nat_eq x (c ∷ []) && starts_with nat_eq more (c ∷ [])) ≡ true)
        → ends_with nat_eq x (c ∷ []) ≡ true
    by (inl two) =
        let front = take (length x - 2) x in
        ends-from x (front ++ c ∷ []) (c ∷ [])
        (ends-split x (c ∷ c ∷ []) two ∙ sym (append_assoc front (c ∷ []) (c ∷ [])))
    by (inr one) =
        (and_parts (ends_with nat_eq x (c ∷ [])) (starts_with nat_eq more (c ∷ [])) one).0

pub simplified-points : (lexicon : Lexicon) (x : List ℕ) (d : Derivation) (y : List ℕ) (e : Derivation)
    → is_simplified lexicon x d y e ≡ true
    → (lexicon.affixes.options.simplified ≡ true) × (is_tripled x y ≡ true)
unfolding is_simplified
simplified-points lexicon x d y e is =
    let one = and_parts lexicon.affixes.options.simplified _ is in
    let two = and_parts (is_triple lexicon.affixes.options x y) _ one.1 in
    (one.0, (and_parts lexicon.affixes.options.check_triple (is_tripled x y) two.0).1)

-- the row takes off the front of one of the rests what it names there
cut-among : (row : JointPattern) (next : Part) (rests : List FirstPart) → HasPart next rests
    → (length row.begin == next.off_begin) ≡ true → starts_with nat_eq next.text row.begin ≡ true
    → list_any (cuts row) rests ≡ true
cut-among row next [] has long starts = absurd has
cut-among row next (rest ∷ rests) (inl same) long starts =
    or_left (cuts row rest) (list_any (cuts row) rests)
    (and_from (length row.begin == rest.part.off_begin)
    (starts_with nat_eq rest.part.text row.begin)
    (ap (λ p. length row.begin == p.off_begin) same ∙ long)
    (ap (λ p. starts_with nat_eq p.text row.begin) same ∙ starts))
cut-among row next (rest ∷ rests) (inr has) long starts =
    or_right (cuts row rest) (list_any (cuts row) rests) (cut-among row next rests has long starts)

-- a part ends as what follows it asks
pub joined-ends : (a : Asked) {text following : List ℕ} {rests : List FirstPart} (part next : Part)
    (more : List Part) → AreRest a text (part ∷ next ∷ more) → written (next ∷ more) ≡ following
    → HasPart next rests → EndsBefore a.lexicon following rests part
joined-ends a {text} {following} {rests} part next more rest behind has = by joint.joint
  where
    joint : AreJoined a part next
    joint = joined-written a part next
        (and_parts (are_joined a part next) (do_meet a (next ∷ more)) rest.meet).0

    short : (y : List ℕ) → next.text ≡ y → is_tripled part.text y ≡ true
        → a.lexicon.affixes.options.simplified ≡ true → part.joint ≡ simplified_joint
        → EndsBefore a.lexicon following rests part
    short [] is tripled simplified same = absurd (true≢false (sym tripled))
    short (c ∷ y) is tripled simplified same =
        let begins = first-written next more c y is (joint.off ∙ ap (λ j. j.off_begin) same)
        (given-keeps a next rest.given.1.0) in
        Short c begins.more simplified same (sym behind ∙ begins.is)
        (tripled-end part.text (c ∷ y) tripled c y refl)

    by : IsWrittenJoint a.lexicon part.text part.d next.text next.d part.joint
        → EndsBefore a.lexicon following rests part
    by (Plain same is) = Whole same
    by (Simplified same is) =
        let points = simplified-points a.lexicon part.text part.d next.text next.d is in
        short next.text refl points.1 points.0 same
    by (Replaced row put among some same fits allowed) =
        let sides = fits-sides a.lexicon part.text part.d next.text next.d row fits in
        let off : next.off_begin ≡ length row.begin = joint.off ∙ ap (λ j. j.off_begin) same in
        Cut row put among some same sides.0
        (cut-among row next rests has
        (ap (λ n. length row.begin == n) off ∙ nat-own (length row.begin)) sides.1)
