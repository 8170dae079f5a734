-- How many words a word covers at most: they stand among the word, the word with its first
-- character lowered, and all ways to write ß, and no two of them are the same.
use Rattle.std.proofs.Common.{◌≡◌, ◌≢◌, ◌∙◌, refl, sym, subst, ℕ, zero, suc, ◌+◌, ◌≤◌, ◌^◌, Bool}
use Rattle.std.proofs.Common.{true, inl, inr, List, [], ◌∷◌, ◌++◌, length, map, remove, AllPairs}
use Rattle.std.proofs.Common.{Contains, slice_index_or, arith, length-append, pow_pos, pow-suc}
use Rattle.std.proofs.Common.{le_of_suc-le-suc, not-suc-le-zero}
use Rattle.std.proofs.lemmas.Bool.{cond_both, false≢true, or_cases}
use Rattle.std.proofs.lemmas.List.{length-map}
use Rattle.std.proofs.lemmas.List.Edits.{length-remove}
use Rattle.std.proofs.lemmas.List.Elements.{Contains-append_left, Contains-append_right}
use Rattle.spell_types.specs.lists.Laws.{any-contains, contains-head, contains-map, contains-tail}
use Rattle.spell_types.specs.Cases.{low, first_lowered, all_lowered, rest_lowered, is_pair}
use Rattle.spell_types.specs.Cases.{is_same_word, is_among, sharp_lowered, sharp_kept, covered_by}
use Rattle.spell_types.specs.Cases.{Covers}
use Rattle.spell_types.specs.declared.limits.TheConstants.{MOST_PAIRS}
use Rattle.letter_case.proofs.Repeats.{same-≡}
use Rattle.letter_case.proofs.Rule.{≡-same, covered-members, covered-once}

-- ---- lists without repeats
-- what is taken out of a list leaves each other item in it
contains-remove : {X : Type 0} (xs : List X) (place : ℕ) (x y : X)
    → slice_index_or xs place x ≡ x → y ≢ x → Contains xs y → Contains (remove xs place) y
contains-remove [] place x y at other (k, within, is) = absurd (not-suc-le-zero within)
contains-remove (z ∷ xs) zero x y at other (zero, within, is) = absurd (other (sym is ∙ at))
contains-remove (z ∷ xs) zero x y at other (suc k, within, is) = (k, le_of_suc-le-suc within, is)
contains-remove (z ∷ xs) (suc place) x y at other (zero, within, is) =
    subst (Contains (z ∷ remove xs place)) is (contains-head z (remove xs place))
contains-remove (z ∷ xs) (suc place) x y at other (suc k, within, is) =
    contains-tail z y (remove xs place)
    (contains-remove xs place x y at other (k, le_of_suc-le-suc within, is))

-- a list in which no two items are the same is no longer than one that has all of them
no-longer : {X : Type 0} (xs all : List X) → AllPairs (λ one other. one ≢ other) xs
    → ((x : X) → Contains xs x → Contains all x) → length xs ≤ length all
no-longer [] all once inside = omega arith
no-longer {X} (x ∷ xs) all once inside =
    let found : Contains all x = inside x (contains-head x xs) in
    let rest = no-longer xs (remove all found.0) later
    (λ y there. contains-remove all found.0 x y found.2 (apart y there)
    (inside y (contains-tail x y xs there))) in
    omega (arith, rest, length-remove all found.0 found.1)
  where
    later : AllPairs (λ one other. one ≢ other) xs
    later i j d below within =
        once (suc i) (suc j) d (omega (arith, below)) (omega (arith, within))

    apart : (y : X) → Contains xs y → y ≢ x
    apart y (k, within, is) same =
        once 0 (suc k) y (omega arith) (omega (arith, within)) (sym same ∙ sym is)

-- a word that is among words is one of their items
among-contains : (words : List (List ℕ)) (word : List ℕ) → is_among words word ≡ true
    → Contains words word
among-contains [] word among = absurd (false≢true among)
among-contains (w ∷ words) word among =
    elim (or_cases (is_same_word w word) (is_among words word) among) [
      | inl same ↦ subst (Contains (w ∷ words)) (same-≡ w word same) (contains-head w words)
      | inr more ↦ contains-tail w word words (among-contains words word more)
    ]

-- ---- the ways to write ß
-- each pair that counts doubles them
doubled : (pairs : ℕ) → 2 ^ suc pairs ≡ 2 ^ pairs + 2 ^ pairs
doubled pairs = omega (arith, pow-suc 2 pairs)

lowered-few : (pairs : ℕ) (word : List ℕ) → length (sharp_lowered pairs word) ≤ 2 ^ pairs
lowered-few pairs [] = pow_pos pairs
lowered-few pairs (c ∷ []) = pow_pos pairs
lowered-few zero (c ∷ d ∷ rest) = pow_pos zero
lowered-few (suc pairs) (c ∷ d ∷ rest) =
    let ways = sharp_lowered pairs rest in
    let others = sharp_lowered (suc pairs) (d ∷ rest) in
    cond_both (is_pair c d) _ _ (λ words. length words ≤ 2 ^ suc pairs)
    (λ _. omega (
      arith,
      length-append (map (λ more. 223 ∷ more) ways) (map (λ more. low c ∷ low d ∷ more) ways),
      length-map ways (λ more. 223 ∷ more),
      length-map ways (λ more. low c ∷ low d ∷ more),
      lowered-few pairs rest,
      doubled pairs,
    ))
    (λ _. omega (
      arith,
      length-map others (λ more. low c ∷ more),
      lowered-few (suc pairs) (d ∷ rest),
    ))

kept-few : (pairs : ℕ) (word : List ℕ) → length (sharp_kept pairs word) ≤ 2 ^ pairs
kept-few pairs [] = omega arith
kept-few pairs (c ∷ []) = pow_pos pairs
kept-few zero (c ∷ d ∷ rest) = pow_pos zero
kept-few (suc pairs) (c ∷ d ∷ rest) =
    cond_both (is_pair c d) _ _ (λ words. length words ≤ 2 ^ suc pairs)
    (λ _. omega (
      arith,
      length-map (sharp_lowered pairs rest) (λ more. c ∷ low d ∷ more),
      lowered-few pairs rest,
      doubled pairs,
    ))
    (λ _. omega (
      arith,
      length-map (sharp_lowered (suc pairs) (d ∷ rest)) (λ more. c ∷ more),
      lowered-few (suc pairs) (d ∷ rest),
    ))

-- one of them is to write none
lowered-there : (pairs : ℕ) (word : List ℕ)
    → Contains (sharp_lowered pairs word) (all_lowered word)
lowered-there pairs [] = contains-head [] []
lowered-there pairs (c ∷ []) = contains-head (low c ∷ []) []
lowered-there zero (c ∷ d ∷ rest) = contains-head (all_lowered (c ∷ d ∷ rest)) []
lowered-there (suc pairs) (c ∷ d ∷ rest) =
    let ways = sharp_lowered pairs rest in
    let others = sharp_lowered (suc pairs) (d ∷ rest) in
    cond_both (is_pair c d) _ _ (λ words. Contains words (all_lowered (c ∷ d ∷ rest)))
    (λ _. Contains-append_right (map (λ more. 223 ∷ more) ways)
    (map (λ more. low c ∷ low d ∷ more) ways) (all_lowered (c ∷ d ∷ rest))
    (contains-map (λ more. low c ∷ low d ∷ more) ways (all_lowered rest)
    (lowered-there pairs rest)))
    (λ _. contains-map (λ more. low c ∷ more) others (all_lowered (d ∷ rest))
    (lowered-there (suc pairs) (d ∷ rest)))

kept-there : (pairs c : ℕ) (rest : List ℕ)
    → Contains (sharp_kept pairs (c ∷ rest)) (rest_lowered (c ∷ rest))
kept-there pairs c [] = contains-head (c ∷ []) []
kept-there zero c (d ∷ rest) = contains-head (rest_lowered (c ∷ d ∷ rest)) []
kept-there (suc pairs) c (d ∷ rest) =
    cond_both (is_pair c d) _ _ (λ words. Contains words (rest_lowered (c ∷ d ∷ rest)))
    (λ _. contains-map (λ more. c ∷ low d ∷ more) (sharp_lowered pairs rest) (all_lowered rest)
    (lowered-there pairs rest))
    (λ _. contains-map (λ more. c ∷ more) (sharp_lowered (suc pairs) (d ∷ rest))
    (all_lowered (d ∷ rest)) (lowered-there (suc pairs) (d ∷ rest)))

-- ---- all that a word may cover
module _ (written : List ℕ) where
  abbrev lowered : List (List ℕ)
  lowered = sharp_lowered MOST_PAIRS written

  abbrev kept : List (List ℕ)
  kept = sharp_kept MOST_PAIRS written

  abbrev most : List (List ℕ)
  most = written ∷ first_lowered written ∷ (lowered ++ kept)

  from-lowered : (word : List ℕ) → Contains lowered word → Contains most word
  from-lowered word there =
      Contains-append_right (written ∷ first_lowered written ∷ []) (lowered ++ kept) word
      (Contains-append_left lowered kept word there)

  from-kept : (word : List ℕ) → Contains kept word → Contains most word
  from-kept word there =
      Contains-append_right (written ∷ first_lowered written ∷ []) (lowered ++ kept) word
      (Contains-append_right lowered kept word there)

  most-few : length most ≤ 66
  most-few =
      omega (
        arith,
        length-append lowered kept,
        lowered-few MOST_PAIRS written,
        kept-few MOST_PAIRS written,
      )

rest-there : (written : List ℕ) → Contains (most written) (rest_lowered written)
rest-there [] = contains-head [] (first_lowered [] ∷ (lowered [] ++ kept []))
rest-there (c ∷ rest) =
    from-kept (c ∷ rest) (rest_lowered (c ∷ rest)) (kept-there MOST_PAIRS c rest)

covers-there : (sharps : Bool) (written word : List ℕ) → Covers sharps written word
    → Contains (most written) word
covers-there sharps written word (inl is) =
    subst (Contains (most written)) (sym is)
    (contains-head written (first_lowered written ∷ (lowered written ++ kept written)))
covers-there sharps written word (inr (inl (upper, is))) =
    subst (Contains (most written)) (sym is)
    (contains-tail written (first_lowered written)
    (first_lowered written ∷ (lowered written ++ kept written))
    (contains-head (first_lowered written) (lowered written ++ kept written)))
covers-there sharps written word (inr (inr (inl (capitals, inl is)))) =
    subst (Contains (most written)) (sym is)
    (from-lowered written (all_lowered written) (lowered-there MOST_PAIRS written))
covers-there sharps written word (inr (inr (inl (capitals, inr is)))) =
    subst (Contains (most written)) (sym is) (rest-there written)
covers-there sharps written word (inr (inr (inr (on, (capitals, inl one))))) =
    from-lowered written word (among-contains (lowered written) word one)
covers-there sharps written word (inr (inr (inr (on, (capitals, inr one))))) =
    from-kept written word (among-contains (kept written) word one)

-- a word covers 66 words at most
pub covered-few : (sharps : Bool) (written : List ℕ) → length (covered_by sharps written) ≤ 66
covered-few sharps written =
    omega (
      arith,
      no-longer words (most written) (covered-once sharps written) inside,
      most-few written,
    )
  where
    words : List (List ℕ)
    words = covered_by sharps written

    inside : (word : List ℕ) → Contains words word → Contains (most written) word
    inside word there =
        covers-there sharps written word
        ((covered-members sharps written word).0
        (any-contains (λ other. is_same_word other word) words word there (≡-same word word refl)))
