-- The fronts of a place: how the parts that end there are kept.
use Rattle.std.proofs.Common.{◌≡◌, ◌∙◌, refl, sym, ap, subst, ℕ, zero, suc, ◌+◌, ◌==◌}
use Rattle.std.proofs.Common.{◌<◌, ◌≤◌, Bool, true, false, ◌&&◌, ◌⊎◌, inl, inr, List}
use Rattle.std.proofs.Common.{[], ◌∷◌, ◌++◌, length, take, drop, get_or, not, nat_eq}
use Rattle.std.proofs.Common.{Contains, Any}
use Rattle.std.proofs.Common.{not-suc-le-zero}
use Rattle.std.proofs.Common.{le_of_suc-le-suc, if◌then◌else◌, true≢false}
use Rattle.std.specs.List.{list_any, starts_with}
use Rattle.std.proofs.lemmas.Bool.{and_parts, and_from, or_cases, or_left, or_right}
use Rattle.std.proofs.lemmas.List.{take_all, take_more}
use Rattle.std.proofs.lemmas.List.Elements.{Contains-append_left, Contains-append_right}
use Rattle.std.proofs.lemmas.List.Folds.{Any-from_list_any}
use Rattle.std.proofs.lemmas.Slice.Eq.{bytes_eq-Decides}
use Rattle.spell_types.specs.Cases.{is_among, is_same_word}
use Rattle.std.proofs.Math.Seq.{take-append_seam}
use Rattle.spell_types.specs.lists.Laws.{any-contains, contains-head}
use Rattle.spell_types.specs.lists.Laws.{contains-tail}
use Rattle.spell_types.specs.declared.Lexicon.{Lexicon}
use Rattle.spell_types.specs.declared.joints.JointPattern.{JointPattern}
use Rattle.spell_types.specs.declared.parts.Part.{Part}
use Rattle.spell_types.specs.JointLaws.{nat-own, nat-same}
use Rattle.compound_words.specs.Pieces.{AreFronts}
use Rattle.compound_words.specs.Pieces.{has_put, is_cut_by, may_begin}
use Rattle.compound_words.specs.Pieces.{with_front}
use Rattle.compound_words.proofs.PieceLemmas.{starts-split}

-- what the rows so far may have taken off the front of a part, and nothing
pub record AreFrontsSoFar (before : List ℕ) (rows : List JointPattern) (index : ℕ)
    (fronts : List (List ℕ)) : Type 0 where
  pub right : (front : List ℕ) → Contains fronts front
      → (front ≡ [])
      ⊎ ((row : JointPattern)
      × (Contains rows row × ((has_put before row ≡ true) × (row.begin ≡ front))))
  pub nothing : Contains fronts []
  pub all : (row : JointPattern) → Contains (take index rows) row → has_put before row ≡ true
      → Contains fronts row.begin

front-among : (text : List ℕ) (fronts : List (List ℕ)) → is_among fronts text ≡ true
    → Contains fronts text
front-among text [] is = absurd (true≢false (sym is))
front-among text (front ∷ fronts) is =
    by (or_cases (is_same_word front text) (is_among fronts text) is) (front-among text fronts)
  where
    by : (is_same_word front text ≡ true) ⊎ (is_among fronts text ≡ true)
        → (is_among fronts text ≡ true → Contains fronts text) → Contains (front ∷ fronts) text
    by (inl same) later =
        subst (Contains (front ∷ fronts)) ((bytes_eq-Decides front text).0 same)
        (contains-head front fronts)
    by (inr among) later = contains-tail front text fronts (later among)

-- at first nothing is taken off
pub fronts-none : (before : List ℕ) (rows : List JointPattern) (fronts : List (List ℕ))
    → fronts ≡ [] ∷ [] → AreFrontsSoFar before rows 0 fronts
fronts-none before rows fronts same = record {
  right = λ front among. inl (only front (subst (λ f. Contains f front) same among));
  nothing = subst (λ f. Contains f []) (sym same) (contains-head [] []);
  all = λ row among put. absurd (never row (subst (λ r. Contains r row) (none rows) among));
}
  where
    none : (rs : List JointPattern) → take 0 rs ≡ []
    none [] = refl
    none (r ∷ rs) = refl

    never : (row : JointPattern) → Contains {X = JointPattern} [] row → ⊥
    never row (k, within, at) = not-suc-le-zero within

    only : (front : List ℕ) → Contains ([] ∷ []) front → front ≡ []
    only front (zero, within, at) = sym at
    only front (suc k, within, at) = absurd (not-suc-le-zero (le_of_suc-le-suc within))

-- one row more
module _ (before : List ℕ) (rows : List JointPattern) (index : ℕ) (row : JointPattern)
    (within : index < length rows) (is : row ≡ get_or rows index row) where
  one-more-row : (other : JointPattern) → Contains (take (index + 1) rows) other
      → Contains (take index rows) other ⊎ (row ≡ other)
  one-more-row other among =
      last (take index rows) (subst (λ r. Contains r other)
      (take_more rows index row within ∙ ap (λ r. take index rows ++ r ∷ []) (sym is)) among)
    where
      last : (xs : List JointPattern) → Contains (xs ++ row ∷ []) other → Contains xs other
          ⊎ (row ≡ other)
      last [] (zero, inside, at) = inr at
      last [] (suc k, inside, at) = absurd (not-suc-le-zero (le_of_suc-le-suc inside))
      last (x ∷ xs) (zero, inside, at) = inl (subst (Contains (x ∷ xs)) at (contains-head x xs))
      last (x ∷ xs) (suc k, inside, at) = later (last xs (k, le_of_suc-le-suc inside, at))
        where
          later : Contains xs other ⊎ (row ≡ other) → Contains (x ∷ xs) other ⊎ (row ≡ other)
          later (inl among) = inl (contains-tail x other xs among)
          later (inr same) = inr same

  fronts-kept : (fronts : List (List ℕ))
      → (has_put before row && not (is_among fronts row.begin)) ≡ false
      → AreFrontsSoFar before rows index fronts
      → AreFrontsSoFar before rows (index + 1) fronts
  fronts-kept fronts old so_far = record {
    right = so_far.right;
    nothing = so_far.nothing;
    all = λ other among put. by other put (one-more-row other among);
  }
    where
      there : (put known : Bool) → has_put before row ≡ put → is_among fronts row.begin ≡ known
          → (put && not known) ≡ false → has_put before row ≡ true → Contains fronts row.begin
      there true true put known old has = front-among row.begin fronts known
      there true false put known old has = absurd (true≢false old)
      there false known put is_known old has = absurd (true≢false (sym has ∙ put))

      by : (other : JointPattern) → has_put before other ≡ true
          → Contains (take index rows) other ⊎ (row ≡ other) → Contains fronts other.begin
      by other put (inl among) = so_far.all other among put
      by other put (inr same) =
          subst (λ r. Contains fronts r.begin) same
          (there (has_put before row) (is_among fronts row.begin) refl refl old
          (ap (has_put before) same ∙ put))

  fronts-more : (fronts : List (List ℕ)) → has_put before row ≡ true
      → AreFrontsSoFar before rows index fronts
      → AreFrontsSoFar before rows (index + 1) (fronts ++ row.begin ∷ [])
  fronts-more fronts put so_far = record {
    right = λ front among. right front (parted fronts front among);
    nothing = Contains-append_left fronts (row.begin ∷ []) [] so_far.nothing;
    all = λ other among has. by other has (one-more-row other among);
  }
    where
      parted : (xs : List (List ℕ)) (front : List ℕ) → Contains (xs ++ row.begin ∷ []) front
          → Contains xs front ⊎ (row.begin ≡ front)
      parted [] front (zero, inside, at) = inr at
      parted [] front (suc k, inside, at) = absurd (not-suc-le-zero (le_of_suc-le-suc inside))
      parted (x ∷ xs) front (zero, inside, at) =
          inl (subst (Contains (x ∷ xs)) at (contains-head x xs))
      parted (x ∷ xs) front (suc k, inside, at) =
          later (parted xs front (k, le_of_suc-le-suc inside, at))
        where
          later : Contains xs front ⊎ (row.begin ≡ front) → Contains (x ∷ xs) front
              ⊎ (row.begin ≡ front)
          later (inl among) = inl (contains-tail x front xs among)
          later (inr same) = inr same

      among-rows : Contains rows row
      among-rows = (index, within, sym is)

      right : (front : List ℕ) → Contains fronts front ⊎ (row.begin ≡ front)
          → (front ≡ [])
          ⊎ ((r : JointPattern)
          × (Contains rows r × ((has_put before r ≡ true) × (r.begin ≡ front))))
      right front (inl among) = so_far.right front among
      right front (inr same) = inr (row, (among-rows, (put, same)))

      by : (other : JointPattern) → has_put before other ≡ true
          → Contains (take index rows) other ⊎ (row ≡ other)
          → Contains (fronts ++ row.begin ∷ []) other.begin
      by other has (inl among) =
          Contains-append_left fronts (row.begin ∷ []) other.begin (so_far.all other among has)
      by other has (inr same) =
          subst (λ r. Contains (fronts ++ row.begin ∷ []) r.begin) same
          (Contains-append_right fronts (row.begin ∷ []) row.begin (contains-head row.begin []))

  pub fronts-turn : (fronts : List (List ℕ)) → AreFrontsSoFar before rows index fronts
      → AreFrontsSoFar before rows (index + 1) (with_front before row fronts)
  fronts-turn fronts so_far = by (has_put before row && not (is_among fronts row.begin)) refl
    where
      by : (new : Bool) → (has_put before row && not (is_among fronts row.begin)) ≡ new
          → AreFrontsSoFar before rows (index + 1)
          (if new then fronts ++ row.begin ∷ [] else fronts)
      by true is =
          fronts-more fronts (and_parts (has_put before row) (not (is_among fronts row.begin)) is).0
          so_far
      by false is = fronts-kept fronts is so_far

pub fronts-whole : (lexicon : Lexicon) (before : List ℕ) (index : ℕ) (fronts : List (List ℕ))
    → length lexicon.affixes.joints ≤ index
    → AreFrontsSoFar before lexicon.affixes.joints index fronts
    → AreFronts lexicon before fronts
fronts-whole lexicon before index fronts past so_far = record {
  right = λ front among part long starts. right front part long starts (so_far.right front among);
  all = λ part begins.
      all part (or_cases (part.off_begin == 0) (list_any (is_cut_by before part) rows) begins);
}
  where
    rows : List JointPattern
    rows = lexicon.affixes.joints

    right : (front : List ℕ) (part : Part) → part.off_begin ≡ length front
        → starts_with nat_eq part.text front ≡ true
        → (front ≡ [])
        ⊎ ((row : JointPattern)
        × (Contains rows row × ((has_put before row ≡ true) × (row.begin ≡ front))))
        → may_begin lexicon before part ≡ true
    right front part long starts (inl none) =
        or_left (part.off_begin == 0) (list_any (is_cut_by before part) rows)
        (ap (λ n. n == 0) (long ∙ ap length none) ∙ nat-own 0)
    right front part long starts (inr (row, (among, (put, same)))) =
        or_right (part.off_begin == 0) (list_any (is_cut_by before part) rows)
        (any-contains (is_cut_by before part) rows row among
        (and_from (has_put before row)
        ((length row.begin == part.off_begin) && starts_with nat_eq part.text row.begin) put
        (and_from (length row.begin == part.off_begin) (starts_with nat_eq part.text row.begin)
        (ap (λ n. length row.begin == n) (long ∙ ap length (sym same)) ∙ nat-own (length row.begin))
        (ap (starts_with nat_eq part.text) same ∙ starts))))

    take-none : (xs : List ℕ) → take 0 xs ≡ []
    take-none [] = refl
    take-none (x ∷ xs) = refl

    by-row : (part : Part) → Any (λ row. is_cut_by before part row ≡ true) rows
        → (front : List ℕ) × (Contains fronts front × ((part.off_begin ≡ length front)
        × (take part.off_begin part.text ≡ front)))
    by-row part (k, row, within, at, cut) =
        let halves = and_parts (has_put before row)
        ((length row.begin == part.off_begin) && starts_with nat_eq part.text row.begin) cut in
        let rest = and_parts (length row.begin == part.off_begin)
        (starts_with nat_eq part.text row.begin) halves.1 in
        let long : part.off_begin ≡ length row.begin =
        sym (nat-same (length row.begin) part.off_begin rest.0) in (
          row.begin,
          (
            so_far.all row
                (subst (λ those. Contains those row) (sym (take_all index rows past))
                (k, within, at)) halves.0,
            (
              long,
              ap (λ n. take n part.text) long
                  ∙ ap (take (length row.begin)) (starts-split part.text row.begin rest.1)
                  ∙ take-append_seam row.begin (drop (length row.begin) part.text),
            ),
          ),
        )

    all : (part : Part) → ((part.off_begin == 0) ≡ true)
        ⊎ (list_any (is_cut_by before part) rows ≡ true)
        → (front : List ℕ) × (Contains fronts front × ((part.off_begin ≡ length front)
        × (take part.off_begin part.text ≡ front)))
    all part (inl none) =
        let off : part.off_begin ≡ 0 = nat-same part.off_begin 0 none in
        ([], (so_far.nothing, (off, ap (λ n. take n part.text) off ∙ take-none part.text)))
    all part (inr cut) = by-row part (Any-from_list_any (is_cut_by before part) rows cut)
