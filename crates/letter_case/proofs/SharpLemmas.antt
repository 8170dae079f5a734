-- The ways to lower a word where SS may stand for ß, one character or pair at a time.
use Rattle.std.proofs.Common.{◌≡◌, ◌∙◌, refl, sym, ap, ap₂, subst, ℕ, zero, suc, ◌-◌, ◌<◌, ◌==◌}
use Rattle.std.proofs.Common.{◌&&◌, nat_lt, true, false, cond, List, [], ◌∷◌, ◌++◌, length}
use Rattle.std.proofs.Common.{map, drop, get_or, append_assoc, append-nil, map-id, true≢false}
use Rattle.std.proofs.Common.{arith}
use Rattle.std.proofs.lemmas.Bool.{and_parts}
use Rattle.std.proofs.lemmas.Bool.Decides.{nat_tests}
use Rattle.spell_types.specs.JointLaws.{nat-same}
use Rattle.std.specs.List.{flat_map}
use Rattle.std.proofs.lemmas.List.{map-append}
use Rattle.spell_types.specs.Cases.{all_lowered, is_pair, low, sharp_lowered}
use Rattle.letter_case.specs.Found.{begins_pair, behind_each, is_pair_next, with_pair}

-- ---- one character
no-pairs : (word : List ℕ) → sharp_lowered zero word ≡ all_lowered word ∷ []
no-pairs [] = refl
no-pairs (c ∷ []) = refl
no-pairs (c ∷ d ∷ rest) = refl

-- a character that begins no pair, or no pair that is counted
pub single-none : (pairs : ℕ) (c : ℕ) → sharp_lowered pairs (c ∷ []) ≡ map (λ more. low c ∷ more)
    (sharp_lowered pairs [])
single-none pairs c = refl

pub single-zero : (c : ℕ) (more : List ℕ) → sharp_lowered zero (c ∷ more)
    ≡ map (λ rest. low c ∷ rest) (sharp_lowered zero more)
single-zero c more = no-pairs (c ∷ more) ∙ sym (ap (map (λ rest. low c ∷ rest)) (no-pairs more))

pub single-other : (pairs c d : ℕ) (rest : List ℕ) → is_pair c d ≡ false
    → sharp_lowered pairs (c ∷ d ∷ rest) ≡ map (λ more. low c ∷ more)
    (sharp_lowered pairs (d ∷ rest))
single-other zero c d rest other = single-zero c (d ∷ rest)
single-other (suc pairs) c d rest other =
    ap (λ b. cond b
    (map (λ more. 223 ∷ more) (sharp_lowered pairs rest) ++ map (λ more. low c ∷ low d ∷ more)
    (sharp_lowered pairs rest)) (map (λ more. low c ∷ more)
    (sharp_lowered (suc pairs) (d ∷ rest)))) other

pub pair : (pairs c d : ℕ) (rest : List ℕ) → is_pair c d ≡ true
    → sharp_lowered (suc pairs) (c ∷ d ∷ rest) ≡ map (λ more. 223 ∷ more)
    (sharp_lowered pairs rest) ++ map (λ more. low c ∷ low d ∷ more) (sharp_lowered pairs rest)
pair pairs c d rest is =
    ap (λ b. cond b
    (map (λ more. 223 ∷ more) (sharp_lowered pairs rest) ++ map (λ more. low c ∷ low d ∷ more)
    (sharp_lowered pairs rest)) (map (λ more. low c ∷ more)
    (sharp_lowered (suc pairs) (d ∷ rest)))) is

-- ---- fronts
-- what is put before each rest may stand at the end of the front
moved : (front middle : List ℕ) (rests : List (List ℕ))
    → map (λ rest. front ++ rest) (map (λ rest. middle ++ rest) rests)
    ≡ map (λ rest. (front ++ middle) ++ rest) rests
moved front middle [] = refl
moved front middle (rest ∷ rests) =
    ap₂ (λ text more. text ∷ more) (sym (append_assoc front middle rest)) (moved front middle rests)

pub one-behind : (fronts : List (List ℕ)) (c : ℕ) (rests : List (List ℕ))
    → behind_each fronts (map (λ rest. c ∷ rest) rests)
    ≡ behind_each (map (λ front. front ++ c ∷ []) fronts) rests
one-behind [] c rests = refl
one-behind (front ∷ fronts) c rests =
    ap₂ (λ one more. one ++ more) (moved front (c ∷ []) rests) (one-behind fronts c rests)

pub pair-behind : (fronts : List (List ℕ)) (c d : ℕ) (rests : List (List ℕ))
    → behind_each fronts (map (λ rest. 223 ∷ rest) rests ++ map (λ rest. c ∷ d ∷ rest) rests)
    ≡ behind_each (flat_map (with_pair c d) fronts) rests
pair-behind [] c d rests = refl
pair-behind (front ∷ fronts) c d rests =
    ap₂ (λ one more. one ++ more)
    (map-append (λ rest. front ++ rest) (map (λ rest. 223 ∷ rest) rests)
    (map (λ rest. c ∷ d ∷ rest) rests)
    ∙ ap₂ (λ one more. one ++ more) (moved front (223 ∷ []) rests) (moved front (c ∷ d ∷ []) rests))
    (pair-behind fronts c d rests)
    ∙ append_assoc (map (λ rest. (front ++ 223 ∷ []) ++ rest) rests)
    (map (λ rest. (front ++ c ∷ d ∷ []) ++ rest) rests)
    (behind_each (flat_map (with_pair c d) fronts) rests)

pub none-behind : (fronts : List (List ℕ)) → behind_each fronts ([] ∷ []) ≡ fronts
none-behind [] = refl
none-behind (front ∷ fronts) =
    ap₂ (λ text more. text ∷ more) (append-nil front) (none-behind fronts)

-- ---- what stands next
-- a pair that is counted
pub pair-step : (made : List (List ℕ)) (left : ℕ) (rest : List ℕ) → is_pair_next left rest ≡ true
    → behind_each (flat_map (with_pair (low 83) (low 83)) made)
    (sharp_lowered (left - 1) (drop 2 rest)) ≡ behind_each made (sharp_lowered left rest)
pair-step made zero rest next =
    absurd (true≢false (sym (and_parts (nat_lt 0 zero) (begins_pair rest) next).0 ∙ none-below))
  where
    none-below : nat_lt 0 zero ≡ false
    none-below = grind (arith, nat_tests)
pair-step made (suc left) [] next =
    absurd (true≢false (sym (and_parts (nat_lt 0 (suc left)) false next).1))
pair-step made (suc left) (c ∷ []) next =
    absurd (true≢false (sym (and_parts (nat_lt 0 (suc left)) false next).1))
pair-step made (suc left) (c ∷ d ∷ rest) next =
    ap (λ n. behind_each (flat_map (with_pair (low 83) (low 83)) made) (sharp_lowered n rest))
    (less left)
    ∙ sym (ap (behind_each made)
    (pair left c d rest (and_parts (nat_lt 0 (suc left)) (is_pair c d) next).1)
    ∙ pair-behind made (low c) (low d) (sharp_lowered left rest)
    ∙ ap₂ (λ x y. behind_each (flat_map (with_pair (low x) (low y)) made) (sharp_lowered left rest))
    (nat-same c 83 both.0) (nat-same d 83 both.1))
  where
    both : ((c == 83) ≡ true) × ((d == 83) ≡ true)
    both = and_parts (c == 83) (d == 83) (and_parts (nat_lt 0 (suc left)) (is_pair c d) next).1

    less : (n : ℕ) → suc n - 1 ≡ n
    less n = omega arith

-- a character that begins none, or none that is counted
pub single-step : (made : List (List ℕ)) (left : ℕ) (rest : List ℕ) (c d : ℕ) → 0 < length rest
    → c ≡ get_or rest 0 d → is_pair_next left rest ≡ false
    → behind_each (map (λ front. front ++ low c ∷ []) made) (sharp_lowered left (drop 1 rest))
    ≡ behind_each made (sharp_lowered left rest)
single-step made left [] c d some is none = absurd (omega (arith, some))
single-step made left (e ∷ rest) c d some is none =
    sym (ap (behind_each made)
    (single left rest none
    ∙ ap (λ x. map (λ more. low x ∷ more) (sharp_lowered left rest))
    (sym is)) ∙ one-behind made (low c) (sharp_lowered left rest))
  where
    single : (left : ℕ) (rest : List ℕ) → is_pair_next left (e ∷ rest) ≡ false
        → sharp_lowered left (e ∷ rest) ≡ map (λ more. low e ∷ more) (sharp_lowered left rest)
    single zero rest none = single-zero e rest
    single (suc left) [] none = single-none (suc left) e
    single (suc left) (f ∷ rest) none =
        single-other (suc left) e f rest (subst (λ b. (b && is_pair e f) ≡ false) (above left) none)
      where
        above : (n : ℕ) → nat_lt 0 (suc n) ≡ true
        above n = grind (arith, nat_tests)

pub some-left : (rest : List ℕ) → (length rest == 0) ≡ false → 0 < length rest
some-left rest some = grind (arith, nat_tests)

-- nothing is left
pub nothing-left : (made : List (List ℕ)) (left : ℕ) (rest : List ℕ) → (length rest == 0) ≡ true
    → made ≡ behind_each made (sharp_lowered left rest)
nothing-left made left [] none = sym (none-behind made)
nothing-left made left (c ∷ rest) none = absurd (grind (arith, nat_tests))

-- ---- the ends
pub nothing_before : (rests : List (List ℕ)) → behind_each ([] ∷ []) rests ≡ rests
nothing_before rests = append-nil (map (λ rest. rest) rests) ∙ map-id rests

pub front_before : (front : List ℕ) (rests : List (List ℕ))
    → behind_each (front ∷ []) rests ≡ map (λ rest. front ++ rest) rests
front_before front rests = append-nil (map (λ rest. front ++ rest) rests)
