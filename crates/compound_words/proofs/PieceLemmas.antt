-- The parts that write a piece of a word.
use Rattle.std.proofs.Common.{◌≡◌, ◌∙◌, ◌↔◌, refl, sym, ap, subst, ℕ, zero, suc, ◌+◌, ◌-◌, ◌==◌}
use Rattle.std.proofs.Common.{◌<◌, ◌≤◌, Bool, true, false, cond, ◌&&◌, inl, inr, List}
use Rattle.std.proofs.Common.{[], ◌∷◌, ◌++◌, length, map, filter, take, drop, nat_eq}
use Rattle.std.proofs.Common.{Contains, Option, None, Some, append-nil, append_assoc}
use Rattle.std.proofs.Common.{length-append, length-drop, length-take, not-suc-le-zero}
use Rattle.std.proofs.Common.{le_of_suc-le-suc, if◌then◌else◌, arith}
use Rattle.std.specs.List.{AllByRecursion, flat_map, list_any, starts_with, ends_with}
use Rattle.std.specs.Option.{option_map_or}
use Rattle.std.proofs.lemmas.Bool.{and_parts}
use Rattle.std.proofs.lemmas.Bool.{ltb-true}
use Rattle.std.proofs.lemmas.Bool.Decides.{Decides-eqb, nat_tests}
use Rattle.std.proofs.lemmas.List.{take-append-drop, take-append-le}
use Rattle.std.proofs.lemmas.List.Elements.{Contains-append_left, Contains-append_right}
use Rattle.std.proofs.lemmas.Slice.Eq.{starts_is, ends_is}
use Rattle.std.proofs.Math.Seq.{drop-append_seam}
use Rattle.spell_types.specs.lists.Laws.{contains-filter, contains-flat_map, contains-head}
use Rattle.spell_types.specs.lists.Laws.{contains-map, contains-tail, each-append, each-flat_map}
use Rattle.spell_types.specs.lists.Laws.{each-weaker}
use Rattle.spell_types.specs.lists.Laws.{take-joined}
use Rattle.affix_strip.specs.Found.{derivations_of}
use Rattle.spell_types.specs.declared.Lexicon.{Lexicon}
use Rattle.spell_types.specs.declared.derivations.Derivation.{Derivation}
use Rattle.spell_types.specs.declared.joints.JointPattern.{JointPattern}
use Rattle.spell_types.specs.declared.joints.WrittenJoint.{WrittenJoint}
use Rattle.spell_types.specs.declared.parts.Part.{Part}
use Rattle.spell_types.specs.CompoundLaws.{given-keeps}
use Rattle.spell_types.specs.Compounds.{Asked, IsGiven}
use Rattle.spell_types.specs.Compounds.{is_right_in_case, kept, keeps_some, may_be_part}
use Rattle.spell_types.specs.Compounds.{part_with, stretch}
use Rattle.spell_types.specs.Derivations.{Named, named, form_of}
use Rattle.spell_types.specs.Joints.{plain_joint, replaced_joint, simplified_joint}
use Rattle.spell_types.specs.Licences.{holds_of, is_allowed, meets_signs, meets_need}
use Rattle.spell_types.specs.Licences.{meets_circumfix, is_sound, is_licensed}
use Rattle.spell_types.specs.Parts.{is_long_enough}
use Rattle.compound_words.specs.declared.rests.FirstPart.{FirstPart}
use Rattle.compound_words.specs.Counting.{OneOf}
use Rattle.compound_words.specs.Pieces.{AreFronts, AreParts, EndsBefore, Whole, Short, Cut}
use Rattle.compound_words.specs.Pieces.{IsGivenAs, cuts, end_taken_off, may_begin}
use Rattle.compound_words.specs.Pieces.{parts_kept, parts_of, parts_put, parts_replaced}
use Rattle.compound_words.specs.Pieces.{parts_short, parts_with}

pub sound-licensed : (lexicon : Lexicon) (d : Derivation) → is_sound lexicon d ≡ true
    → is_licensed lexicon d ≡ true
unfolding is_sound is_licensed
sound-licensed lexicon d sound = by (named lexicon d) sound
  where
    by : (n : Option Named) → holds_of (meets_signs lexicon.affixes.signs) n ≡ true
        → holds_of is_allowed n ≡ true
    by None holds = holds
    by (Some n) holds =
        (and_parts (is_allowed n)
        (meets_need lexicon.affixes.signs.need_affix n
        && meets_circumfix lexicon.affixes.signs.circumfix n) holds).0

-- the derivations of a text are the licensed ones with this form
abbrev Members : Asked → Type 0
Members a =
    (text : List ℕ) (d : Derivation)
    → Contains (derivations_of a.lexicon text) d ↔
    ((is_licensed a.lexicon d ≡ true) × (form_of a.lexicon d ≡ Some text))

each-inside : {X : Type 0} (P : X → Type 0) (xs : List X) → ((x : X) → Contains xs x → P x)
    → AllByRecursion P xs
each-inside P [] holds = tt
each-inside P (x ∷ xs) holds = (
  holds x (contains-head x xs),
  each-inside P xs
      (λ y inside. holds y (contains-tail x y xs inside)),
)

one-of : {X : Type 0} (xs : List X) (x : X) → Contains xs x → OneOf (λ other. other ≡ x) xs
one-of [] x (k, within, at) = absurd (not-suc-le-zero within)
one-of (y ∷ xs) x (zero, within, at) = inl at
one-of (y ∷ xs) x (suc k, within, at) = inr (one-of xs x (k, le_of_suc-le-suc within, at))

-- ---- ends of texts
pub ends-split : (text end : List ℕ) → ends_with nat_eq text end ≡ true
    → text ≡ take (length text - length end) text ++ end
ends-split text end ends = (ends_is Decides-eqb text end _ refl).0 ends

pub ends-from : (text front end : List ℕ) → text ≡ front ++ end → ends_with nat_eq text end ≡ true
ends-from text front end is = (ends_is Decides-eqb text end _ refl).1 front is

pub starts-split : (text front : List ℕ) → starts_with nat_eq text front ≡ true
    → text ≡ front ++ drop (length front) text
starts-split text front starts = (starts_is Decides-eqb text front _ refl).0 starts

starts-from : (text front rest : List ℕ) → text ≡ front ++ rest
    → starts_with nat_eq text front ≡ true
starts-from text front rest is = (starts_is Decides-eqb text front _ refl).1 rest is

pub ends-nothing : (text : List ℕ) → ends_with nat_eq text [] ≡ true
ends-nothing text = ends-from text text [] (sym (append-nil text))

-- ---- what a part keeps
kept-is : (front own end : List ℕ) (joint : WrittenJoint) (d : Derivation)
    → joint.off_end ≡ length end → kept (part_with (length front) joint d (front ++ (own ++ end)))
    ≡ own
kept-is front own end joint d off =
    ap (λ n. drop (length front)
    (take (length (front ++ (own ++ end)) - n) (front ++ (own ++ end)))) off
    ∙ ap (λ t. drop (length front) (take (length t - length end) t))
    (sym (append_assoc front own end))
    ∙ ap (drop (length front)) (take-joined (front ++ own) end)
    ∙ drop-append_seam front own

pub kept-some : (part : Part) → keeps_some part ≡ true → 0 < length (kept part)
kept-some part keeps =
    omega (
      arith,
      ltb-true (part.off_begin + part.joint.off_end) (length part.text) keeps,
      length-drop part.off_begin (take (length part.text - part.joint.off_end) part.text),
      length-take
          (length part.text - part.joint.off_end) part.text,
    )

-- its text is what is taken off its front, what it keeps, and what is taken off its end
text-split : (part : Part) (end : List ℕ) → part.joint.off_end ≡ length end
    → ends_with nat_eq part.text end ≡ true → keeps_some part ≡ true
    → part.text ≡ take part.off_begin part.text ++ (kept part ++ end)
text-split part end off ends keeps =
    whole ∙ ap (λ t. t ++ end)
    (sym (take-append-drop part.off_begin front)
    ∙ ap (λ t. t ++ drop part.off_begin front) (sym same)
    ∙ ap (λ n. take part.off_begin part.text ++ drop part.off_begin
    (take (length part.text - n) part.text)) (sym off))
    ∙ append_assoc (take part.off_begin part.text) (kept part) end
  where
    front : List ℕ
    front = take (length part.text - length end) part.text

    whole : part.text ≡ front ++ end
    whole = ends-split part.text end ends

    within : part.off_begin ≤ length front
    within =
        omega (
          arith,
          ltb-true (part.off_begin + part.joint.off_end)
              (length part.text) keeps,
          off,
          length-take (length part.text - length end) part.text,
        )

    same : take part.off_begin part.text ≡ take part.off_begin front
    same = ap (take part.off_begin) whole ∙ take-append-le part.off_begin front end within

-- ---- each that is found writes the piece
-- a part of the dictionary with this text, of which joints take so much off
record HasShape (a : Asked) (off : ℕ) (joint : WrittenJoint) (text : List ℕ) (part : Part) : Type
    0 where
  given : IsGiven a part
  same : part ≡ part_with off joint part.d text

module _ (a : Asked) (off : ℕ) (joint : WrittenJoint) (text : List ℕ) where
  abbrev shaped : List Derivation → List Part
  shaped ds = filter (may_be_part a) (map (λ d. part_with off joint d text) ds)

  shapes-from : (ds : List Derivation)
      → ((d : Derivation) → Contains ds d → form_of a.lexicon d ≡ Some text)
      → AllByRecursion (HasShape a off joint text) (shaped ds)
  shapes-from [] forms = tt
  shapes-from (d ∷ ds) forms =
      by (shapes-from ds (λ e inside. forms e (contains-tail d e ds inside)))
      (may_be_part a (part_with off joint d text)) refl
    where
      by : AllByRecursion (HasShape a off joint text) (shaped ds) → (b : Bool)
          → may_be_part a (part_with off joint d text) ≡ b
          → AllByRecursion (HasShape a off joint text)
          (cond b (part_with off joint d text ∷ shaped ds) (shaped ds))
      by rest true may = (
        record {
          given = record
              { form = forms d (contains-head d ds); may = may };
          same = refl;
        },
        rest,
      )
      by rest false may = rest

  with-shapes : Members a → AllByRecursion (HasShape a off joint text) (parts_with a off joint text)
  unfolding parts_with
  with-shapes members =
      shapes-from (derivations_of a.lexicon text) (λ d inside. ((members text d).0 inside).1)

module _ (a : Asked) (members : Members a) (before : List ℕ) (fronts : List (List ℕ))
    (are : AreFronts a.lexicon before fronts) (own end : List ℕ) (joint : WrittenJoint)
    (off : joint.off_end ≡ length end) where
  abbrev P : Part → Type 0
  P part = IsGivenAs a before (own ++ joint.put) part

  abbrev parts_cut : List ℕ → List Part
  parts_cut front = parts_with a (length front) joint (front ++ (own ++ end))

  shape-given : (front : List ℕ) → Contains fronts front → (part : Part)
      → HasShape a (length front) joint (front ++ (own ++ end)) part → P part
  shape-given front among part shape = record {
    given = shape.given;
    writes =
        ap stretch shape.same
        ∙ ap (λ t. t ++ joint.put) (kept-is front own end joint part.d off);
    begins =
        are.right front among part (ap (λ p. p.off_begin) shape.same)
        (starts-from part.text front (own ++ end) (ap (λ p. p.text) shape.same));
  }

  cut-given : (front : List ℕ) → Contains fronts front → AllByRecursion P (parts_cut front)
  cut-given front among =
      each-weaker (HasShape a (length front) joint (front ++ (own ++ end))) P
      (shape-given front among) (parts_cut front)
      (with-shapes a (length front) joint (front ++ (own ++ end)) members)

  kept-given : AllByRecursion P (parts_kept a fronts own end joint)
  unfolding parts_kept
  kept-given = by (length own == 0)
    where
      by : (none : Bool) → AllByRecursion P (cond none [] (flat_map parts_cut fronts))
      by true = tt
      by false =
          each-flat_map P parts_cut fronts
          (each-inside (λ front. AllByRecursion P (parts_cut front)) fronts cut-given)

-- what a row takes off the end has the length that its joint says
end-long : (row : JointPattern) (put : List ℕ)
    → (replaced_joint row put).off_end ≡ length (end_taken_off row)
end-long row put = by row.unmodified
  where
    by : (whole : Bool) → (if whole then 0 else length row.end)
        ≡ length (if whole then [] else row.end)
    by true = refl
    by false = refl

module _ (a : Asked) (members : Members a) (before : List ℕ) (fronts : List (List ℕ))
    (are : AreFronts a.lexicon before fronts) (text : List ℕ) where
  short-given : (following : List ℕ) → AllByRecursion (IsGivenAs a before text)
      (parts_short a fronts text following)
  unfolding parts_short
  short-given [] = tt
  short-given (c ∷ more) = by a.lexicon.affixes.options.simplified
    where
      by : (simplified : Bool) → AllByRecursion (IsGivenAs a before text)
          (cond simplified (parts_kept a fronts text (c ∷ []) simplified_joint) [])
      by false = tt
      by true =
          subst (λ t. AllByRecursion (IsGivenAs a before t)
          (parts_kept a fronts text (c ∷ []) simplified_joint)) (append-nil text)
          (kept-given a members before fronts are text (c ∷ []) simplified_joint refl)

  put-given : (row : JointPattern)
      → AllByRecursion (IsGivenAs a before text) (parts_put a fronts text row)
  unfolding parts_put
  put-given row = by row.replacement
    where
      at : (put : List ℕ) (ends : Bool) → ends_with nat_eq text put ≡ ends
          → AllByRecursion (IsGivenAs a before text)
          (cond ends (parts_kept a fronts (take (length text - length put) text) (end_taken_off row)
          (replaced_joint row put)) [])
      at put false ends = tt
      at put true ends =
          subst
          (λ t. AllByRecursion (IsGivenAs a before t)
          (parts_kept a fronts (take (length text - length put) text) (end_taken_off row)
          (replaced_joint row put)))
          (sym (ends-split text put ends))
          (kept-given a members before fronts are (take (length text - length put) text)
          (end_taken_off row)
          (replaced_joint row put) (end-long row put))

      by : (replacement : Option (List ℕ))
          → AllByRecursion (IsGivenAs a before text)
          (option_map_or (λ put. if ends_with nat_eq text put
          then parts_kept a fronts (take (length text - length put) text) (end_taken_off row)
          (replaced_joint row put)
          else []) replacement [])
      by None = tt
      by (Some put) = at put (ends_with nat_eq text put) refl

  replaced-given : (rests : List FirstPart) (row : JointPattern)
      → AllByRecursion (IsGivenAs a before text) (parts_replaced a fronts text rests row)
  replaced-given rests row = by (list_any (cuts row) rests)
    where
      by : (cut : Bool)
          → AllByRecursion (IsGivenAs a before text)
          (if cut then parts_put a fronts text row else [])
      by true = put-given row
      by false = tt

  all-given : (following : List ℕ) (rests : List FirstPart)
      → AllByRecursion (IsGivenAs a before text) (parts_of a fronts text following rests)
  unfolding parts_of
  all-given following rests =
      each-append (IsGivenAs a before text) (parts_kept a fronts text [] plain_joint)
      (parts_short a fronts text following ++ by_rows)
      (subst (λ t. AllByRecursion (IsGivenAs a before t) (parts_kept a fronts text [] plain_joint))
      (append-nil text) (kept-given a members before fronts are text [] plain_joint refl))
      (each-append (IsGivenAs a before text) (parts_short a fronts text following) by_rows
      (short-given following)
      (each-flat_map (IsGivenAs a before text) (parts_replaced a fronts text rests)
      a.lexicon.affixes.joints
      (each-inside
      (λ row. AllByRecursion (IsGivenAs a before text) (parts_replaced a fronts text rests row))
      a.lexicon.affixes.joints (λ row among. replaced-given rests row))))
    where
      by_rows : List Part
      by_rows = flat_map (parts_replaced a fronts text rests) a.lexicon.affixes.joints

-- no part is too short
pub too-short : (a : Asked) (off : ℕ) (joint : WrittenJoint) (text : List ℕ)
    → is_long_enough a.lexicon text ≡ false → parts_with a off joint text ≡ []
unfolding parts_with
too-short a off joint text short = none (derivations_of a.lexicon text)
  where
    none : (ds : List Derivation) → shaped a off joint text ds ≡ []
    none [] = refl
    none (d ∷ ds) =
        ap (λ b. cond
        (b && (is_sound a.lexicon d &&
        (is_right_in_case a d && keeps_some
        (part_with off joint d text)))) (part_with off joint d text ∷ shaped a off joint text ds)
        (shaped a off joint text ds)) short
        ∙ none ds

-- ---- none is longer than all forms
module _ (a : Asked) (members : Members a) (count : ℕ)
    (short : (d : Derivation) (text : List ℕ) → form_of a.lexicon d ≡ Some text
    → length text < count) where
  none-derived : (text : List ℕ) → count ≤ length text → derivations_of a.lexicon text ≡ []
  none-derived text long = by (derivations_of a.lexicon text) refl
    where
      by : (ds : List Derivation) → derivations_of a.lexicon text ≡ ds
          → derivations_of a.lexicon text ≡ []
      by [] is = is
      by (d ∷ ds) is =
          let inside = subst (λ found. Contains found d) (sym is) (contains-head d ds) in
          absurd (omega (arith, long, short d text ((members text d).0 inside).1))

  pub none-with : (off : ℕ) (joint : WrittenJoint) (text : List ℕ) → count ≤ length text
      → parts_with a off joint text ≡ []
  unfolding parts_with
  none-with off joint text long = ap (shaped a off joint text) (none-derived text long)

  none-cut : (own end : List ℕ) (joint : WrittenJoint) → count ≤ length (own ++ end)
      → (fronts : List (List ℕ))
      → flat_map (λ front. parts_with a (length front) joint (front ++ (own ++ end))) fronts ≡ []
  none-cut own end joint long [] = refl
  none-cut own end joint long (front ∷ fronts) =
      ap (λ parts. parts ++ flat_map (λ f. parts_with a (length f) joint (f ++ (own ++ end)))
      fronts)
      (none-with (length front) joint (front ++ (own ++ end))
      (omega (arith, long, length-append front (own ++ end))))
      ∙ none-cut own end joint long fronts

  pub none-kept : (fronts : List (List ℕ)) (own end : List ℕ) (joint : WrittenJoint)
      → count ≤ length (own ++ end) → parts_kept a fronts own end joint ≡ []
  unfolding parts_kept
  none-kept fronts own end joint long = by (length own == 0)
    where
      by : (none : Bool)
          → (if none then []
          else flat_map (λ f. parts_with a (length f) joint (f ++ (own ++ end))) fronts) ≡ []
      by true = refl
      by false = none-cut own end joint long fronts

-- ---- each that writes the piece is found
with-among : (a : Asked) → Members a → (part : Part) → IsGiven a part
    → Contains (parts_with a part.off_begin part.joint part.text) part
unfolding parts_with
with-among a members part given =
    contains-filter (may_be_part a)
    (map (λ d. part_with part.off_begin part.joint d part.text)
    (derivations_of a.lexicon part.text)) part
    (contains-map (λ d. part_with part.off_begin part.joint d part.text)
    (derivations_of a.lexicon part.text) part.d
    ((members part.text part.d).1 (sound-licensed a.lexicon part.d sound, given.form))) given.may
  where
    sound : is_sound a.lexicon part.d ≡ true
    sound = (and_parts (is_sound a.lexicon part.d) (is_right_in_case a part.d && keeps_some part)
        (and_parts (is_long_enough a.lexicon part.text)
        (is_sound a.lexicon part.d && (is_right_in_case a part.d && keeps_some part))
        given.may).1).0

kept-among : (a : Asked) → Members a → (before : List ℕ) (fronts : List (List ℕ))
    → AreFronts a.lexicon before fronts → (end : List ℕ) (part : Part) → IsGiven a part
    → part.joint.off_end ≡ length end → ends_with nat_eq part.text end ≡ true
    → may_begin a.lexicon before part ≡ true
    → Contains (parts_kept a fronts (kept part) end part.joint) part
unfolding parts_kept
kept-among a members before fronts are end part given off ends begins =
    subst (λ none. Contains (cond none [] (flat_map cut fronts)) part)
    (sym (some (length (kept part)) (kept-some part keeps))) (by (are.all part begins))
  where
    keeps : keeps_some part ≡ true
    keeps = given-keeps a part given

    some : (n : ℕ) → 0 < n → (n == 0) ≡ false
    some n above = grind (arith, nat_tests, above)

    cut : List ℕ → List Part
    cut front = parts_with a (length front) part.joint (front ++ (kept part ++ end))

    by : ((front : List ℕ) × (Contains fronts front × ((part.off_begin ≡ length front)
        × (take part.off_begin part.text ≡ front)))) → Contains (flat_map cut fronts) part
    by (front, (among, (long, is))) =
        contains-flat_map cut fronts front part among
        (subst (λ t. Contains (parts_with a (length front) part.joint t) part)
        (text-split part end off ends keeps ∙ ap (λ f. f ++ (kept part ++ end)) is)
        (subst (λ n. Contains (parts_with a n part.joint part.text) part) long
        (with-among a members part given)))

module _ (a : Asked) (members : Members a) (before : List ℕ) (fronts : List (List ℕ))
    (are : AreFronts a.lexicon before fronts) (text following : List ℕ)
    (rests : List FirstPart) where
  abbrev by_rows : List Part
  by_rows = flat_map (parts_replaced a fronts text rests) a.lexicon.affixes.joints

  -- what the row puts
  put-among : (row : JointPattern) (put : List ℕ) (part : Part) → IsGivenAs a before text part
      → row.replacement ≡ Some put → part.joint ≡ replaced_joint row put
      → ends_with nat_eq part.text (end_taken_off row) ≡ true
      → Contains (parts_put a fronts text row) part
  unfolding parts_put
  put-among row put part is some same ends =
      subst
      (λ found. Contains (option_map_or (λ p. if ends_with nat_eq text p
      then parts_kept a fronts (take (length text - length p) text) (end_taken_off row)
      (replaced_joint row p)
      else []) found []) part) (sym some)
      (subst
      (λ b. Contains (cond b (parts_kept a fronts own (end_taken_off row) (replaced_joint row put)) [])
      part)
      (sym (ends-from text (kept part) put writes))
      (subst (λ joint. Contains (parts_kept a fronts own (end_taken_off row) joint) part) same
      (subst (λ o. Contains (parts_kept a fronts o (end_taken_off row) part.joint) part)
      (sym (ap (λ t. take (length t - length put) t) writes ∙ take-joined (kept part) put))
      (kept-among a members before fronts are (end_taken_off row) part is.given
      (ap (λ joint. joint.off_end) same ∙ end-long row put) ends is.begins))))
    where
      own : List ℕ
      own = take (length text - length put) text

      writes : text ≡ kept part ++ put
      writes = sym is.writes ∙ ap (λ joint. kept part ++ joint.put) same

  -- what a part keeps is all that it writes
  writes-kept : (part : Part) → IsGivenAs a before text part → part.joint.put ≡ []
      → kept part ≡ text
  writes-kept part is none =
      sym (append-nil (kept part)) ∙ ap (λ put. kept part ++ put) (sym none) ∙ is.writes

  all-among : (part : Part) → IsGivenAs a before text part
      → EndsBefore a.lexicon following rests part
      → Contains (parts_of a fronts text following rests) part
  unfolding parts_of parts_short
  all-among part is (Whole same) =
      Contains-append_left (parts_kept a fronts text [] plain_joint)
      (parts_short a fronts text following ++ by_rows) part
      (subst (λ joint. Contains (parts_kept a fronts text [] joint) part) same
      (subst (λ own. Contains (parts_kept a fronts own [] part.joint) part)
      (writes-kept part is (ap (λ joint. joint.put) same))
      (kept-among a members before fronts are [] part is.given (ap (λ joint. joint.off_end) same)
      (ends-nothing part.text) is.begins)))
  all-among part is (Short c more simplified same follows ends) =
      Contains-append_right (parts_kept a fronts text [] plain_joint)
      (parts_short a fronts text following ++ by_rows) part
      (Contains-append_left (parts_short a fronts text following) by_rows part
      (subst (λ f. Contains (parts_short a fronts text f) part) (sym follows)
      (subst (λ b. Contains (cond b (parts_kept a fronts text (c ∷ []) simplified_joint) []) part)
      (sym simplified)
      (subst (λ joint. Contains (parts_kept a fronts text (c ∷ []) joint) part) same
      (subst (λ own. Contains (parts_kept a fronts own (c ∷ []) part.joint) part)
      (writes-kept part is (ap (λ joint. joint.put) same))
      (kept-among a members before fronts are (c ∷ []) part is.given
      (ap (λ joint. joint.off_end) same) ends is.begins))))))
  all-among part is (Cut row put among some same ends cut) =
      Contains-append_right (parts_kept a fronts text [] plain_joint)
      (parts_short a fronts text following ++ by_rows) part
      (Contains-append_right (parts_short a fronts text following) by_rows part
      (contains-flat_map (parts_replaced a fronts text rests) a.lexicon.affixes.joints row part
      among
      (subst (λ b. Contains (cond b (parts_put a fronts text row) []) part) (sym cut)
      (put-among row put part is some same ends))))

pub parts-are : (a : Asked) (before : List ℕ) (fronts : List (List ℕ)) (text following : List ℕ)
    (rests : List FirstPart) → AreFronts a.lexicon before fronts → Members a
    → AreParts a before text following rests (parts_of a fronts text following rests)
parts-are a before fronts text following rests are members = record {
  given = all-given a members before fronts are text following rests;
  all = λ part is ends. one-of (parts_of a fronts text following rests) part
      (all-among a members before fronts are text following rests part is ends);
}
