-- Characters that are ignored, in any order, and words without them.
use Rattle.std.proofs.Common.{◌≡◌, ◌∙◌, ◌⊎◌, inl, inr, refl, sym, ap, ℕ, zero, suc, ◌<◌, ◌≤◌, Bool}
use Rattle.std.proofs.Common.{true, false, cond, not, ◌&&◌, ◌||◌, ◌==◌, List, [], ◌∷◌, length}
use Rattle.std.proofs.Common.{get_or, IsPermutation, Result, Ok, Err, arith}
use Rattle.std.specs.List.{list_all, list_any}
use Rattle.std.specs.Result.{MatchResult, is_err}
use Rattle.std.proofs.lemmas.Bool.{and_parts, cases_lt}
use Rattle.std.proofs.lemmas.Bool.Decides.{Decides-eqb, nat_tests}
use Rattle.std.proofs.lemmas.List.Sorted.{list_any-IsPermutation}
use Rattle.spell_types.specs.Conversions.{is_kept, without_ignored}

all-other : (ignore : List ℕ) (c : ℕ) → ((k : ℕ) → k < length ignore → get_or ignore k 0 ≡ c → ⊥)
    → is_kept ignore c ≡ true
all-other [] c differ = refl
all-other (other ∷ ignore) c differ =
    ap (λ b. not b && is_kept ignore c) (apart other c (λ same. differ 0 (omega arith) same))
    ∙ all-other ignore c (λ k within same. differ (suc k) (omega (arith, within)) same)
  where
    apart : (other c : ℕ) → (other ≡ c → ⊥) → (other == c) ≡ false
    apart other c differ = grind (arith, nat_tests)

one-same : (ignore : List ℕ) (c i : ℕ) → i < length ignore → get_or ignore i 0 ≡ c
    → is_kept ignore c ≡ false
one-same [] c i within same = absurd (omega (arith, within))
one-same (other ∷ ignore) c zero within same =
    ap (λ b. not b && is_kept ignore c) (equal other c same)
  where
    equal : (other c : ℕ) → other ≡ c → (other == c) ≡ true
    equal other c same = grind (arith, nat_tests)
one-same (other ∷ ignore) c (suc i) within same =
    ap (λ b. not (other == c) && b) (one-same ignore c i (omega (arith, within)) same)
    ∙ none (not (other == c))
  where
    none : (b : Bool) → (b && false) ≡ false
    none true = refl
    none false = refl

-- what a search by halves says
pub searched-kept : (ignore : List ℕ) (c : ℕ) (r : Result ℕ ℕ)
    → MatchResult r (λ i. (i < length ignore) × (get_or ignore i 0 ≡ c))
    (λ i. (i ≤ length ignore) × ((k : ℕ) → k < i → get_or ignore k 0 < c)
    × ((k : ℕ) → i ≤ k → k < length ignore → c < get_or ignore k 0))
    → is_err r ≡ is_kept ignore c
searched-kept ignore c (Ok i) (within, same) = sym (one-same ignore c i within same)
searched-kept ignore c (Err i) (within, below, above) =
    sym (all-other ignore c (λ k inside same. by k inside same (below k) (above k)))
  where
    side : (k : ℕ) → k < length ignore → get_or ignore k 0 ≡ c → (k < i → get_or ignore k 0 < c)
        → (i ≤ k → k < length ignore → c < get_or ignore k 0) → (k < i) ⊎ (i ≤ k) → ⊥
    side k inside same below above (inl less) = omega (arith, same, below less)
    side k inside same below above (inr more) = omega (arith, same, above more inside)

    by : (k : ℕ) → k < length ignore → get_or ignore k 0 ≡ c → (k < i → get_or ignore k 0 < c)
        → (i ≤ k → k < length ignore → c < get_or ignore k 0) → ⊥
    by k inside same below above = side k inside same below above (cases_lt k i)

kept-any : (ignore : List ℕ) (c : ℕ)
    → is_kept ignore c ≡ not (list_any (λ other. other == c) ignore)
kept-any [] c = refl
kept-any (other ∷ ignore) c = ap (λ b. not (other == c) && b) (kept-any ignore c)
    ∙ both (other == c) (list_any (λ o. o == c) ignore)
  where
    both : (a b : Bool) → (not a && not b) ≡ not (a || b)
    both true b = refl
    both false b = refl

-- the order does not matter
pub kept-moved : (before after : List ℕ) (c : ℕ) → IsPermutation before after
    → is_kept after c ≡ is_kept before c
kept-moved before after c moved =
    kept-any after c
    ∙ ap not (sym (list_any-IsPermutation (λ other. other == c) before after moved))
    ∙ sym (kept-any before c)

-- where no character is to be ignored
pub none-to-ignore : (ignore word : List ℕ) → (length ignore == 0) ≡ true
    → true ≡ list_all (is_kept ignore) word
none-to-ignore [] word none = all-pass word
  where
    all-pass : (word : List ℕ) → true ≡ list_all (is_kept []) word
    all-pass [] = refl
    all-pass (c ∷ word) = all-pass word
none-to-ignore (c ∷ ignore) word none = absurd (omega (arith, (Decides-eqb _ _).0 none))

-- a word with none of them stays
pub all-kept : (ignore word : List ℕ) → list_all (is_kept ignore) word ≡ true
    → word ≡ without_ignored ignore word
all-kept ignore [] kept = refl
all-kept ignore (c ∷ word) kept =
    let both = and_parts (is_kept ignore c) (list_all (is_kept ignore) word) kept in
    sym (ap (λ b. cond b (c ∷ without_ignored ignore word) (without_ignored ignore word)) both.0
    ∙ ap (λ rest. c ∷ rest) (sym (all-kept ignore word both.1)))
