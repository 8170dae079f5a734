-- What rules add at the ends of a text, by hashes.
use Rattle.std.proofs.Common.{◌≡◌, ◌∙◌, ◌⊎◌, inl, inr, refl, sym, ap, subst, ℕ, zero, suc, ◌+◌}
use Rattle.std.proofs.Common.{◌<◌, ◌≤◌, List, [], ◌∷◌, ◌++◌}
use Rattle.std.proofs.Common.{length, take}
use Rattle.std.proofs.Common.{drop, slice_get, Some, arith}
use Rattle.std.proofs.lemmas.Bool.{cases_lt}
use Rattle.std.proofs.lemmas.Option.{same_Some, slice_get_within}
use Rattle.entry_table.specs.Hashes.{folded, hash_of}
use Rattle.entry_table.specs.declared.hashed.TheConstants.{START}
use Rattle.entry_table.specs.HashLaws.{folded-append}

-- ---- a list that is gone over
-- it holds of one item more, and of those before still
pub one-more : {X : Type 0} {P Q : X → Type 0} (xs : List X) (index : ℕ) (x : X)
    → slice_get xs index ≡ Some x → ((y : X) → P y → Q y) → Q x
    → ((place : ℕ) (y : X) → place < index → slice_get xs place ≡ Some y → P y)
    → (place : ℕ) (y : X) → place < index + 1 → slice_get xs place ≡ Some y → Q y
one-more {X} {P} {Q} xs index x here weaker holds so_far place y below at =
    by (cases_lt place index)
  where
    by : (place < index) ⊎ (index ≤ place) → Q y
    by (inl before) = weaker y (so_far place y before at)
    by (inr past) =
        let same : place ≡ index = omega (arith, past, below) in
        subst Q (same_Some x y (sym here ∙ ap (slice_get xs) (sym same) ∙ at)) holds

-- it holds of all
pub all-of : {X : Type 0} {P : X → Type 0} (xs : List X) (index : ℕ) → length xs ≤ index
    → ((place : ℕ) (y : X) → place < index → slice_get xs place ≡ Some y → P y)
    → (place : ℕ) (y : X) → slice_get xs place ≡ Some y → P y
all-of xs index past holds place y at =
    holds place y (omega (arith, past, slice_get_within xs place y at)) at

-- ---- texts without characters
pub none-there : {X : Type 0} (xs : List X) → length xs ≡ 0 → xs ≡ []
none-there [] none = refl
none-there (x ∷ xs) none = absurd (omega (arith, none))

pub some-there : (n : ℕ) → (n ≡ 0) ⊎ (0 < n)
some-there zero = inl refl
some-there (suc n) = inr (omega arith)

-- ---- up to a number
pub up-to : (P : ℕ → Type 0) (count : ℕ) → ((n : ℕ) → 0 < n → n ≤ count → P n) → P (count + 1)
    → (n : ℕ) → 0 < n → n ≤ count + 1 → P n
up-to P count before here n some within = by (cases_lt count n)
  where
    by : (count < n) ⊎ (n ≤ count) → P n
    by (inl past) =
        let same : count + 1 ≡ n = omega (arith, past, within) in
        subst P same here
    by (inr below) = before n some below

-- ---- fronts
take-one : (count : ℕ) (text : List ℕ)
    → take count text ++ take 1 (drop count text) ≡ take (count + 1) text
take-one zero text = refl
take-one (suc count) [] = nothing (suc count + 1)
  where
    nothing : (n : ℕ) → [] ≡ take {A = ℕ} n []
    nothing zero = refl
    nothing (suc n) = refl
take-one (suc count) (c ∷ text) =
    ap (λ t. c ∷ t) (take-one count text) ∙ ap (λ n. take n (c ∷ text)) (same count)
  where
    same : (n : ℕ) → suc (n + 1) ≡ suc n + 1
    same n = omega arith

-- the hash of a front with one character more
pub hash-more : (text : List ℕ) (count : ℕ) {slice : List ℕ} {key next : ℕ}
    → key ≡ hash_of (take count text)
    → slice ≡ take 1 (drop count text) → next ≡ folded key slice
    → next ≡ hash_of (take (count + 1) text)
hash-more text count {slice} {key} {next} was one is =
    is ∙ ap (folded key) one ∙ ap (λ k. folded k (take 1 (drop count text))) was
    ∙ sym (folded-append START (take count text) (take 1 (drop count text)))
    ∙ ap (folded START) (take-one count text)
