-- What is said of a key when one is put in, and when the filter is new.
use Rattle.std.proofs.Common.{◌≡◌, ◌∙◌, ◌⊎◌, inl, inr, refl, sym, ap, ap₂, subst, ℕ, zero, suc, ◌+◌}
use Rattle.std.proofs.Common.{◌-◌, ◌*◌, ◌/◌, ◌%◌, ◌^◌, ◌<◌, ◌≤◌, ◌≢◌, Bool, true, false, ◌&&◌, ◌||◌}
use Rattle.std.proofs.Common.{◌==◌, List, [], ◌∷◌, length, get_or, nat_eq, slice_get, Option, Some}
use Rattle.std.proofs.Common.{bit_and, bit_or, eq-eqb, ne_eqb, replicate, set, arith}
use Rattle.std.specs.Int.{bit_at, w64}
use Rattle.std.specs.Option.{option_map_or}
use Rattle.std.proofs.lemmas.Bool.{cases_eq}
use Rattle.std.proofs.lemmas.Nat.{pow-add, pow_pos}
use Rattle.std.proofs.lemmas.Nat.Bits.{bit_at-zero, shr_and_one, bit_at_set_same, bit_at_set_other}
use Rattle.std.proofs.lemmas.Option.{slice_get_past, slice_get-get_or}
use Rattle.std.proofs.Math.Nat.{div-lt_iff_lt-mul}
use Rattle.key_filter.specs.declared.KeyFilter.{KeyFilter}
use Rattle.key_filter.specs.Filter.{may_have, word_place_of, bit_of, share_a_bit}

-- ---- one item of a list
at-set : {X : Type 0} (xs : List X) (i : ℕ) (y : X) → i < length xs
    → slice_get (set xs i y) i ≡ Some y
at-set [] i y within = absurd (omega (arith, within))
at-set (x ∷ xs) zero y within = refl
at-set (x ∷ xs) (suc i) y within = at-set xs i y (omega (arith, within))

beside-set : {X : Type 0} (xs : List X) (i j : ℕ) (y : X) → j ≢ i
    → slice_get (set xs i y) j ≡ slice_get xs j
beside-set [] i j y apart = refl
beside-set (x ∷ xs) zero zero y apart = absurd (apart refl)
beside-set (x ∷ xs) zero (suc j) y apart = refl
beside-set (x ∷ xs) (suc i) zero y apart = refl
beside-set (x ∷ xs) (suc i) (suc j) y apart = beside-set xs i j y (λ same. apart (ap suc same))

at-replicate : {X : Type 0} (count i : ℕ) (x : X) → i < count
    → slice_get (replicate count x) i ≡ Some x
at-replicate zero i x within = absurd (omega (arith, within))
at-replicate (suc count) zero x within = refl
at-replicate (suc count) (suc i) x within = at-replicate count i x (omega (arith, within))

-- ---- one key put in
-- what a word says of a bit
abbrev says : ℕ → Option ℕ → Bool
says bit word = option_map_or (λ w. bit_at w bit == 1) word true

pub put-in : (old new : KeyFilter) (key word other : ℕ) → new.shift ≡ old.shift
    → word_place_of old key < length old.words.items
    → slice_get old.words.items (word_place_of old key)
    ≡ Some word
    → new.words.items ≡ set old.words.items (word_place_of old key)
    (bit_or word (1 * 2 ^ bit_of key % 2 ^ 64))
    → may_have new other ≡ (share_a_bit old key other || may_have old other)
unfolding may_have
put-in old new key word other shift within at is =
    ap₂ (λ s ws. says (bit_of other) (slice_get ws (other / 2 ^ (s % 64)))) shift is
    ∙ by (cases_eq (word_place_of old other) (word_place_of old key))
  where
    small : (k : ℕ) → k % 64 < 64
    small k = omega arith

    written : ℕ
    written = bit_or word (1 * 2 ^ bit_of key % 2 ^ 64)

    in-word : (bit : ℕ) → (bit ≡ bit_of key) ⊎ (bit ≢ bit_of key)
        → says bit (Some written) ≡ (nat_eq (bit_of key) bit || says bit (Some word))
    in-word bit (inl same) =
        ap (λ b. bit_at written b == 1) same
        ∙ ap (λ n. n == 1) (bit_at_set_same w64 word (bit_of key) (small key))
        ∙ ap (λ b. b || says bit (Some word)) (sym (eq-eqb (bit_of key) bit (sym same)))
    in-word bit (inr apart) =
        ap (λ n. n == 1) (bit_at_set_other w64 word (bit_of key) (small key) bit apart)
        ∙ ap (λ b. b || says bit (Some word))
        (sym (ne_eqb (bit_of key) bit (λ same. apart (sym same))))

    by : (word_place_of old other ≡ word_place_of old key) ⊎ (word_place_of old other ≢ word_place_of old key)
        → says (bit_of other)
        (slice_get (set old.words.items (word_place_of old key) written) (word_place_of old other))
        ≡ (share_a_bit old key other || may_have old other)
    by (inl same) =
        ap (λ p. says (bit_of other) (slice_get (set old.words.items (word_place_of old key) written) p))
        same
        ∙ ap (says (bit_of other)) (at-set old.words.items (word_place_of old key) written within)
        ∙ in-word (bit_of other) (cases_eq (bit_of other) (bit_of key))
        ∙ ap (λ found. nat_eq (bit_of key) (bit_of other) || says (bit_of other) found)
        (sym (ap (slice_get old.words.items) same ∙ at))
        ∙ ap (λ b. (b && nat_eq (bit_of key) (bit_of other)) || may_have old other)
        (sym (eq-eqb (word_place_of old key) (word_place_of old other) (sym same)))
    by (inr apart) =
        ap (says (bit_of other))
        (beside-set old.words.items (word_place_of old key) (word_place_of old other) written apart)
        ∙ ap (λ b. (b && nat_eq (bit_of key) (bit_of other)) || may_have old other)
        (sym (ne_eqb (word_place_of old key) (word_place_of old other) (λ same. apart (sym same))))

-- where the key has no word
pub put-nowhere : (filter : KeyFilter) (key other : ℕ)
    → length filter.words.items ≤ word_place_of filter key
    → may_have filter other ≡ (share_a_bit filter key other || may_have filter other)
unfolding may_have
put-nowhere filter key other past = by (cases_eq (word_place_of filter key) (word_place_of filter other))
  where
    either : (a b : Bool) → b ≡ true → b ≡ (a || b)
    either true b is = is
    either false b is = refl

    by : (word_place_of filter key ≡ word_place_of filter other)
        ⊎ (word_place_of filter key ≢ word_place_of filter other)
        → may_have filter other ≡ (share_a_bit filter key other || may_have filter other)
    by (inl same) =
        either (share_a_bit filter key other) (may_have filter other)
        (ap (says (bit_of other))
        (slice_get_past filter.words.items (word_place_of filter other)
        (subst (λ p. length filter.words.items ≤ p) same past)))
    by (inr apart) =
        ap (λ b. (b && nat_eq (bit_of key) (bit_of other)) || may_have filter other)
        (sym (ne_eqb (word_place_of filter key) (word_place_of filter other) apart))

-- ---- what is read, and a new filter
-- the word with a place
pub word-at : (filter : KeyFilter) (key place word : ℕ) → place ≡ word_place_of filter key
    → place < length filter.words.items → word ≡ get_or filter.words.items place word
    → slice_get filter.words.items (word_place_of filter key) ≡ Some word
word-at filter key place word is within at =
    ap (slice_get filter.words.items) (sym is)
    ∙ slice_get-get_or filter.words.items place word within ∙ ap Some (sym at)

pub read-bit : (filter : KeyFilter) (key word : ℕ)
    → slice_get filter.words.items (word_place_of filter key) ≡ Some word
    → nat_eq (bit_and (word / 2 ^ bit_of key) 1) 1 ≡ may_have filter key
unfolding may_have
read-bit filter key word at =
    ap (λ n. nat_eq n 1) (shr_and_one word (bit_of key)) ∙ ap (says (bit_of key)) (sym at)

pub new-has-none : (filter : KeyFilter) (bits key : ℕ) → 0 < bits → bits ≤ 32
    → filter.shift ≡ 64 - bits → filter.words.items ≡ replicate (2 ^ bits) 0 → key < 2 ^ 64
    → may_have filter key ≡ false
unfolding may_have
new-has-none filter bits key some most shift empty small =
    ap (says (bit_of key))
    (ap (λ ws. slice_get ws (word_place_of filter key)) empty
    ∙ at-replicate (2 ^ bits) (word_place_of filter key) 0 within)
    ∙ ap (λ n. n == 1) (bit_at-zero (bit_of key))
  where
    left : filter.shift % 64 ≡ 64 - bits
    left = omega (arith, shift, some, most)

    all : 2 ^ 64 ≡ 2 ^ bits * 2 ^ (64 - bits)
    all = let sum : 64 ≡ bits + (64 - bits) =
        omega (arith, most) in ap (λ n. 2 ^ n) sum ∙ pow-add 2 bits (64 - bits)

    within : word_place_of filter key < 2 ^ bits
    within =
        subst (λ s. key / 2 ^ s < 2 ^ bits) (sym left)
        ((div-lt_iff_lt-mul {k = 2 ^ (64 - bits)} {x = key} {y = 2 ^ bits} (pow_pos (64 - bits))).1
        (subst (λ n. key < n) all small))

-- ---- what a key that was put in changes
-- what is said of each key then
abbrev pub PutsIn : KeyFilter → KeyFilter → ℕ → Type 0
PutsIn before now key =
    (other : ℕ) → may_have now other ≡ (share_a_bit before key other || may_have before other)

pub put-keeps : (before now : KeyFilter) (key other : ℕ) → PutsIn before now key
    → may_have before other ≡ true → may_have now other ≡ true
put-keeps before now key other puts there =
    puts other ∙ either (share_a_bit before key other) (may_have before other) there
  where
    either : (a b : Bool) → b ≡ true → (a || b) ≡ true
    either true b is = refl
    either false b is = is

pub put-has : (before now : KeyFilter) (key : ℕ) → PutsIn before now key → may_have now key ≡ true
put-has before now key puts =
    puts key
    ∙ ap₂ (λ a b. (a && b) || may_have before key)
    (eq-eqb (word_place_of before key) (word_place_of before key) refl)
    (eq-eqb (bit_of key) (bit_of key) refl)
