-- Whether a word is broken, by the ways that leave less of it.
use Rattle.std.proofs.Common.{◌≡◌, refl, sym, ap, ◌∙◌, subst, arith, inl, inr, ℕ, zero, suc, ◌+◌}
use Rattle.std.proofs.Common.{◌-◌, ◌<◌, ◌≤◌, ◌⊎◌, Bool, true, false, not, ◌&&◌, ◌||◌, cond, List}
use Rattle.std.proofs.Common.{[], ◌∷◌, length, map, take, drop, nat_eq, nat_lt, nat_le, length-drop}
use Rattle.std.proofs.Common.{ltb-true, leb-true, lt-ltb, le-leb, take_all}
use Rattle.std.specs.List.{list_any, list_all, filter, range_with_len, starts_with, ends_with}
use Rattle.std.proofs.lemmas.Bool.{and_parts, and_from, or_cases, or_left, or_right, not-true}
use Rattle.std.proofs.lemmas.Bool.{false≢true}
use Rattle.std.proofs.lemmas.List.{length-take}
use Rattle.std.proofs.lemmas.List.Folds.{list_any-append, list_all-append}
use Rattle.spell_types.specs.declared.breaks.Anchored.{Anchored}
use Rattle.spell_types.specs.Breaks.{parts_at, parted_at, behind_front, before_end, ways_by}
use Rattle.spell_types.specs.Breaks.{ways_to_break, is_broken_within, is_broken}
use Rattle.std.specs.Cmp.{both_ways}
use Rattle.break_points.specs.declared.ways.Way.{Way}
use Rattle.break_points.specs.declared.ways.Way.TheVariants.{Between, Behind, Before}
use Rattle.break_points.specs.Pieces.{all_left, is_shorter, is_less, parting, behind_ways}
use Rattle.break_points.specs.Pieces.{before_ways, ways_with, ways_of}

pub ⊎_else : {A B C : Type 0} → (A → C) → (B → C) → A ⊎ B → C
⊎_else f g (inl a) = f a
⊎_else f g (inr b) = g b

-- ---- tests that pass more
all_passes : {X : Type 0} (p q : X → Bool) → ((x : X) → p x ≡ true → q x ≡ true) → (xs : List X)
    → list_all p xs ≡ true → list_all q xs ≡ true
all_passes p q h [] e = refl
all_passes p q h (x ∷ xs) e =
    let b = and_parts (p x) (list_all p xs) e in
    and_from (q x) (list_all q xs) (h x b.0) (all_passes p q h xs b.1)

any_passes : {X : Type 0} (p q : X → Bool) → ((x : X) → p x ≡ true → q x ≡ true) → (xs : List X)
    → list_any p xs ≡ true → list_any q xs ≡ true
any_passes p q h [] e = e
any_passes p q h (x ∷ xs) e =
    ⊎_else (λ a. or_left (q x) (list_any q xs) (h x a))
    (λ b. or_right (q x) (list_any q xs) (any_passes p q h xs b))
    (or_cases (p x) (list_any p xs) e)

any_passes_among : {X : Type 0} (r p q : X → Bool)
    → ((x : X) → r x ≡ true → p x ≡ true → q x ≡ true) → (xs : List X) → list_all r xs ≡ true
    → list_any p xs ≡ true → list_any q xs ≡ true
any_passes_among r p q h [] all e = e
any_passes_among r p q h (x ∷ xs) all e =
    let b = and_parts (r x) (list_all r xs) all in
    ⊎_else (λ a. or_left (q x) (list_any q xs) (h x b.0 a))
    (λ d. or_right (q x) (list_any q xs) (any_passes_among r p q h xs b.1 d))
    (or_cases (p x) (list_any p xs) e)

-- ---- words broken within a bound
pub base_within : (base barred : List ℕ → Bool) (breaks : List Anchored) (n : ℕ) (word : List ℕ)
    → base word ≡ true → is_broken_within base barred breaks n word ≡ true
base_within base barred breaks zero word e = e
base_within base barred breaks (suc n) word e = or_left (base word) _ e

-- a bound that is one higher
within_suc : (base barred : List ℕ → Bool) (breaks : List Anchored) (n : ℕ) (word : List ℕ)
    → is_broken_within base barred breaks n word ≡ true
    → is_broken_within base barred breaks (suc n) word ≡ true
within_suc base barred breaks zero word e = or_left (base word) _ e
within_suc base barred breaks (suc n) word e =
    let low = is_broken_within base barred breaks n in
    let high = is_broken_within base barred breaks (suc n) in
    ⊎_else (λ a. or_left (base word) _ a)
    (λ b. let parts = and_parts (not (barred word)) _ b in
    or_right (base word) _ (and_from (not (barred word)) _ parts.0
    (any_passes (list_all low) (list_all high)
    (λ pieces all. all_passes low high (λ x. within_suc base barred breaks n x) pieces all)
    (ways_to_break breaks word) parts.1)))
    (or_cases (base word) (not (barred word) && list_any (list_all low) (ways_to_break breaks word))
    e)

within_plus : (base barred : List ℕ → Bool) (breaks : List Anchored) (k n m : ℕ) (word : List ℕ)
    → m ≡ n + k → is_broken_within base barred breaks n word ≡ true
    → is_broken_within base barred breaks m word ≡ true
within_plus base barred breaks zero n m word is e =
    let same : n ≡ m =
    omega (arith, is) in
    subst (λ b. is_broken_within base barred breaks b word ≡ true) same e
within_plus base barred breaks (suc k) n m word is e =
    let same : suc (n + k) ≡ m = omega (arith, is) in
    subst (λ b. is_broken_within base barred breaks b word ≡ true) same
    (within_suc base barred breaks (n + k) word
    (within_plus base barred breaks k n (n + k) word refl e))

pub within_more : (base barred : List ℕ → Bool) (breaks : List Anchored) (n m : ℕ) (word : List ℕ)
    → n ≤ m → is_broken_within base barred breaks n word ≡ true
    → is_broken_within base barred breaks m word ≡ true
within_more base barred breaks n m word le e =
    within_plus base barred breaks (m - n) n m word (omega (arith, le)) e

-- ---- each way, as the definition has it and by its places
left_of_two : (a b : Bool) → (a && (b && true)) ≡ (a && b)
left_of_two true true = refl
left_of_two true false = refl
left_of_two false b = refl

partings_same : (test : List ℕ → Bool) (text word : List ℕ) (places : List ℕ)
    → list_any (list_all test) (map (parted_at text word) places) ≡ list_any (all_left test word)
    (map (parting text) places)
partings_same test text word [] = refl
partings_same test text word (place ∷ places) =
    ap (λ b. b || list_any (list_all test) (map (parted_at text word) places))
    (left_of_two (test (take place word)) (test (drop (place + length text) word)))
    ∙ ap (λ b. (test (take place word) && test (drop (place + length text) word)) || b)
    (partings_same test text word places)

one_left : (b : Bool) → ((b && true) || false) ≡ true → b ≡ true
one_left true e = refl
one_left false e = e

left_one : (b : Bool) → (b || false) ≡ true → ((b && true) || false) ≡ true
left_one true e = refl
left_one false e = e

alone : (b : Bool) → b ≡ true → (b || false) ≡ true
alone true e = refl
alone false e = e

-- ---- a text that takes nothing off leaves the word itself
zero_or : (n : ℕ) → (n ≡ 0) ⊎ (nat_lt 0 n ≡ true)
zero_or zero = inl refl
zero_or (suc n) = inr (lt-ltb 0 (suc n) (omega arith))

drop_none : (n : ℕ) (word : List ℕ) → n ≡ 0 → drop n word ≡ word
drop_none n word is = ap (λ k. drop k word) is

take_whole : (n : ℕ) (word : List ℕ) → n ≡ 0 → take (length word - n) word ≡ word
take_whole n word is =
    let all : length word ≤ length word - n =
    omega (arith, is) in take_all (length word - n) word all

behind_kept : (test : List ℕ → Bool) (text word : List ℕ) (less stands : Bool)
    → list_any (list_all test) (cond (less && stands) ((drop (length text) word ∷ []) ∷ []) [])
    ≡ true
    → (list_any (all_left test word)
    (cond ((true && less) && stands) (Behind (length text) ∷ []) []) ≡ true)
    × (test (drop (length text) word) ≡ true)
behind_kept test text word true true e =
    let holds = one_left (test (drop (length text) word)) e in
    (alone (test (drop (length text) word)) holds, holds)
behind_kept test text word true false e = absurd (false≢true e)
behind_kept test text word false stands e = absurd (false≢true e)

before_kept : (test : List ℕ → Bool) (text word : List ℕ) (less stands : Bool)
    → list_any (list_all test)
    (cond (less && stands) ((take (length word - length text) word ∷ []) ∷ []) []) ≡ true
    → (list_any (all_left test word)
    (cond ((true && less) && stands) (Before (length word - length text) ∷ []) []) ≡ true)
    × (test (take (length word - length text) word) ≡ true)
before_kept test text word true true e =
    let holds = one_left (test (take (length word - length text) word)) e in
    (alone (test (take (length word - length text) word)) holds, holds)
before_kept test text word true false e = absurd (false≢true e)
before_kept test text word false stands e = absurd (false≢true e)

behind_found : (test : List ℕ → Bool) (text word : List ℕ)
    → list_any (list_all test) (behind_front text word) ≡ true
    → (list_any (all_left test word) (behind_ways text word) ≡ true) ⊎ (test word ≡ true)
behind_found test text word e =
    let less = nat_lt (length text) (length word) in
    let stands = starts_with nat_eq word text in
    let kept = behind_kept test text word less stands e in
    ⊎_else (λ none. inr (subst (λ x. test x ≡ true) (drop_none (length text) word none) kept.1))
    (λ some. inl
    (subst (λ b. list_any (all_left test word)
    (cond ((b && less) && stands) (Behind (length text) ∷ []) []) ≡ true) (sym some) kept.0))
    (zero_or (length text))

before_found : (test : List ℕ → Bool) (text word : List ℕ)
    → list_any (list_all test) (before_end text word) ≡ true
    → (list_any (all_left test word) (before_ways text word) ≡ true) ⊎ (test word ≡ true)
before_found test text word e =
    let less = nat_lt (length text) (length word) in
    let stands = ends_with nat_eq word text in
    let kept = before_kept test text word less stands e in
    ⊎_else (λ none. inr (subst (λ x. test x ≡ true) (take_whole (length text) word none) kept.1))
    (λ some. inl
    (subst (λ b. list_any (all_left test word)
    (cond ((b && less) && stands) (Before (length word - length text) ∷ []) []) ≡ true)
    (sym some) kept.0))
    (zero_or (length text))

by_found : (test : List ℕ → Bool) (front back : Bool) (text word : List ℕ)
    → list_any (list_all test) (ways_by front back text word) ≡ true
    → (list_any (all_left test word) (ways_with front back text word) ≡ true) ⊎ (test word ≡ true)
by_found test false false text word e =
    inl (sym (partings_same test text word
    (filter (parts_at text word) (range_with_len 0 (length word)))) ∙ e)
by_found test true false text word e = behind_found test text word e
by_found test false true text word e = before_found test text word e
by_found test true true text word e = absurd (false≢true e)

-- a way that the definition has is one that leaves less, or leaves the word itself
found : (test : List ℕ → Bool) (breaks : List Anchored) (word : List ℕ)
    → list_any (list_all test) (ways_to_break breaks word) ≡ true
    → (list_any (all_left test word) (ways_of breaks word) ≡ true) ⊎ (test word ≡ true)
found test [] word e = absurd (false≢true e)
found test (b ∷ breaks) word e =
    let here = ways_with b.front b.back b.text word in
    let there = ways_of breaks word in
    ⊎_else
    (λ x. ⊎_else (λ y. inl (list_any-append (all_left test word) here there ∙ or_left _ _ y))
    (λ y. inr y) (by_found test b.front b.back b.text word x))
    (λ x. ⊎_else (λ y. inl (list_any-append (all_left test word) here there ∙ or_right _ _ y))
    (λ y. inr y) (found test breaks word x))
    (or_cases _ _
    (sym (list_any-append (list_all test) (ways_by b.front b.back b.text word)
    (ways_to_break breaks word)) ∙ e))

-- ---- each way that leaves less is one that the definition has
behind_had : (test : List ℕ → Bool) (text word : List ℕ) (some less stands : Bool)
    → list_any (all_left test word) (cond ((some && less) && stands) (Behind (length text) ∷ []) [])
    ≡ true
    → list_any (list_all test) (cond (less && stands) ((drop (length text) word ∷ []) ∷ []) [])
    ≡ true
behind_had test text word true true true e = left_one (test (drop (length text) word)) e
behind_had test text word true true false e = e
behind_had test text word true false stands e = e
behind_had test text word false less stands e = absurd (false≢true e)

before_had : (test : List ℕ → Bool) (text word : List ℕ) (some less stands : Bool)
    → list_any (all_left test word)
    (cond ((some && less) && stands) (Before (length word - length text) ∷ []) []) ≡ true
    → list_any (list_all test)
    (cond (less && stands) ((take (length word - length text) word ∷ []) ∷ []) []) ≡ true
before_had test text word true true true e =
    left_one (test (take (length word - length text) word)) e
before_had test text word true true false e = e
before_had test text word true false stands e = e
before_had test text word false less stands e = absurd (false≢true e)

by_had : (test : List ℕ → Bool) (front back : Bool) (text word : List ℕ)
    → list_any (all_left test word) (ways_with front back text word) ≡ true
    → list_any (list_all test) (ways_by front back text word) ≡ true
by_had test false false text word e =
    partings_same test text word (filter (parts_at text word) (range_with_len 0 (length word))) ∙ e
by_had test true false text word e =
    behind_had test text word (nat_lt 0 (length text)) (nat_lt (length text) (length word))
    (starts_with nat_eq word text) e
by_had test false true text word e =
    before_had test text word (nat_lt 0 (length text)) (nat_lt (length text) (length word))
    (ends_with nat_eq word text) e
by_had test true true text word e = absurd (false≢true e)

had : (test : List ℕ → Bool) (breaks : List Anchored) (word : List ℕ)
    → list_any (all_left test word) (ways_of breaks word) ≡ true
    → list_any (list_all test) (ways_to_break breaks word) ≡ true
had test [] word e = absurd (false≢true e)
had test (b ∷ breaks) word e =
    list_any-append (list_all test) (ways_by b.front b.back b.text word) (ways_to_break breaks word)
    ∙ ⊎_else (λ x. or_left _ _ (by_had test b.front b.back b.text word x))
    (λ x. or_right _ _ (had test breaks word x))
    (or_cases _ _
    (sym (list_any-append (all_left test word) (ways_with b.front b.back b.text word)
    (ways_of breaks word)) ∙ e))

-- ---- such ways leave less
parting_shorter : (text word : List ℕ) (place : ℕ) → parts_at text word place ≡ true
    → is_shorter word (parting text place) ≡ true
parting_shorter text word place e =
    let a = and_parts (nat_lt 0 place) _ e in
    let b = and_parts (nat_lt (place + length text) (length word)) _ a.1 in
    let some = ltb-true 0 place a.0 in
    let less = ltb-true (place + length text) (length word) b.0 in
    and_from (nat_lt place (length word)) _ (lt-ltb place (length word) (omega (arith, some, less)))
    (and_from (nat_lt 0 (place + length text)) _
    (lt-ltb 0 (place + length text) (omega (arith, some)))
    (le-leb (place + length text) (length word) (omega (arith, less))))

partings_shorter : (text word : List ℕ) (places : List ℕ)
    → list_all (is_shorter word) (map (parting text) (filter (parts_at text word) places)) ≡ true
partings_shorter text word [] = refl
partings_shorter text word (place ∷ places) =
    (elim (parts_at text word place) as
    (λ b. parts_at text word place ≡ b
    → list_all (is_shorter word)
    (map (parting text)
    (cond b (place ∷ filter (parts_at text word) places) (filter (parts_at text word) places)))
    ≡ true) [
      | true ↦ λ e. and_from (is_shorter word (parting text place)) _
          (parting_shorter text word place e) (partings_shorter text word places)
      | false ↦ λ e. partings_shorter text word places
    ]) refl

less_both : (text word : List ℕ) (stands : Bool) → (is_less text word && stands) ≡ true
    → (0 < length text) × (length text < length word)
less_both text word stands e =
    let a = and_parts (is_less text word) stands e in
    let b = and_parts (nat_lt 0 (length text)) _ a.0 in
    (ltb-true 0 (length text) b.0, ltb-true (length text) (length word) b.1)

kept_shorter : (word : List ℕ) (way : Way) (b : Bool) → (b ≡ true → is_shorter word way ≡ true)
    → list_all (is_shorter word) (cond b (way ∷ []) []) ≡ true
kept_shorter word way true h = and_from (is_shorter word way) true (h refl) refl
kept_shorter word way false h = refl

with_shorter : (front back : Bool) (text word : List ℕ)
    → list_all (is_shorter word) (ways_with front back text word) ≡ true
with_shorter false false text word = partings_shorter text word (range_with_len 0 (length word))
with_shorter true false text word =
    kept_shorter word (Behind (length text)) (is_less text word && starts_with nat_eq word text)
    (λ e. let less = less_both text word (starts_with nat_eq word text) e in
    and_from (nat_lt 0 (length text)) _ (lt-ltb 0 (length text) less.0)
    (le-leb (length text) (length word) (omega (arith, less.1))))
with_shorter false true text word =
    kept_shorter word (Before (length word - length text))
    (is_less text word && ends_with nat_eq word text)
    (λ e. let less = less_both text word (ends_with nat_eq word text) e in
    lt-ltb (length word - length text) (length word) (omega (arith, less.0, less.1)))
with_shorter true true text word = refl

ways_shorter : (breaks : List Anchored) (word : List ℕ)
    → list_all (is_shorter word) (ways_of breaks word) ≡ true
ways_shorter [] word = refl
ways_shorter (b ∷ breaks) word =
    list_all-append (is_shorter word) (ways_with b.front b.back b.text word) (ways_of breaks word)
    ∙ and_from _ _ (with_shorter b.front b.back b.text word) (ways_shorter breaks word)

-- ---- the bound does not matter
left_passes : (p q : List ℕ → Bool) (word : List ℕ)
    → ((x : List ℕ) → length x ≤ length word → p x ≡ true → q x ≡ true) → (way : Way)
    → all_left p word way ≡ true → all_left q word way ≡ true
left_passes p q word h (Between end start) e =
    let b = and_parts (p (take end word)) (p (drop start word)) e in
    and_from (q (take end word)) _ (h (take end word) (omega (arith, length-take end word)) b.0)
    (h (drop start word) (omega (arith, length-drop start word)) b.1)
left_passes p q word h (Behind start) e =
    h (drop start word) (omega (arith, length-drop start word)) e
left_passes p q word h (Before end) e = h (take end word) (omega (arith, length-take end word)) e

drop_shorter : (start : ℕ) (word : List ℕ) → (nat_lt 0 start && nat_le start (length word)) ≡ true
    → length (drop start word) < length word
drop_shorter start word e =
    let b = and_parts (nat_lt 0 start) _ e in
    omega (arith, length-drop start word, ltb-true 0 start b.0, leb-true start (length word) b.1)

take_shorter : (end : ℕ) (word : List ℕ) → nat_lt end (length word) ≡ true
    → length (take end word) < length word
take_shorter end word e = omega (arith, length-take end word, ltb-true end (length word) e)

shorter_passes : (p q : List ℕ → Bool) (word : List ℕ)
    → ((x : List ℕ) → length x < length word → p x ≡ true → q x ≡ true) → (way : Way)
    → is_shorter word way ≡ true → all_left p word way ≡ true → all_left q word way ≡ true
shorter_passes p q word h (Between end start) less e =
    let b = and_parts (p (take end word)) (p (drop start word)) e in
    let l = and_parts (nat_lt end (length word)) _ less in
    and_from (q (take end word)) _ (h (take end word) (take_shorter end word l.0) b.0)
    (h (drop start word) (drop_shorter start word l.1) b.1)
shorter_passes p q word h (Behind start) less e =
    h (drop start word) (drop_shorter start word less) e
shorter_passes p q word h (Before end) less e = h (take end word) (take_shorter end word less) e

-- no way leaves less of nothing
none_shorter : (word : List ℕ) (way : Way) → length word ≡ 0 → is_shorter word way ≡ true → ⊥
none_shorter word (Between end start) none less =
    let l = ltb-true end (length word) (and_parts (nat_lt end (length word)) _ less).0 in
    omega (arith, l, none)
none_shorter word (Behind start) none less =
    let l = drop_shorter start word less in omega (arith, l, none)
none_shorter word (Before end) none less =
    let l = ltb-true end (length word) less in omega (arith, l, none)

nothing_left : (p : List ℕ → Bool) (word : List ℕ) → length word ≡ 0 → (ways : List Way)
    → list_all (is_shorter word) ways ≡ true → list_any (all_left p word) ways ≡ true → ⊥
nothing_left p word none [] less e = false≢true e
nothing_left p word none (way ∷ ways) less e =
    none_shorter word way none (and_parts (is_shorter word way) _ less).0

-- of a word that is broken within the bound by a way that leaves less, the word's length is enough
from_pred : (base barred : List ℕ → Bool) (breaks : List Anchored) (n : ℕ) (word : List ℕ)
    (p : List ℕ → Bool) → length word ≡ n → barred word ≡ false
    → ((x : List ℕ) → p x ≡ true → is_broken_within base barred breaks (length x) x ≡ true)
    → list_any (all_left p word) (ways_of breaks word) ≡ true
    → is_broken_within base barred breaks n word ≡ true
from_pred base barred breaks zero word p none bar h e =
    absurd (nothing_left p word none (ways_of breaks word) (ways_shorter breaks word) e)
from_pred base barred breaks (suc n) word p is bar h e =
    let q = is_broken_within base barred breaks n in
    or_right (base word) _ (and_from (not (barred word)) _ (ap not bar)
    (had q breaks word
    (any_passes_among (is_shorter word) (all_left p word) (all_left q word)
    (λ way less left. shorter_passes p q word
    (λ x l t. within_more base barred breaks (length x) n x (omega (arith, l, is)) (h x t)) way
    less left)
    (ways_of breaks word) (ways_shorter breaks word) e)))

-- a word that is broken within any bound is broken within its length
pub stable : (base barred : List ℕ → Bool) (breaks : List Anchored) (k : ℕ) (word : List ℕ)
    → is_broken_within base barred breaks k word ≡ true
    → is_broken_within base barred breaks (length word) word ≡ true
stable base barred breaks zero word e = base_within base barred breaks (length word) word e
stable base barred breaks (suc k) word e =
    let low = is_broken_within base barred breaks k in
    ⊎_else (λ a. base_within base barred breaks (length word) word a)
    (λ b. let parts = and_parts (not (barred word)) _ b in
    ⊎_else (λ x. from_pred base barred breaks (length word) word low refl
    (not-true (barred word) parts.0) (λ y t. stable base barred breaks k y t) x)
    (λ x. stable base barred breaks k word x)
    (found low breaks word parts.1))
    (or_cases (base word) (not (barred word) && list_any (list_all low) (ways_to_break breaks word))
    e)

-- whether a word is a base or may be broken by a way that leaves less of it
abbrev pub broken_by_ways : (List ℕ → Bool) → (List ℕ → Bool) → List Anchored → List ℕ → Bool
broken_by_ways base barred breaks word =
    base word || (not (barred word) && list_any (all_left (is_broken base barred breaks) word)
    (ways_of breaks word))

forth : (base barred : List ℕ → Bool) (breaks : List Anchored) (k : ℕ) (word : List ℕ)
    → is_broken_within base barred breaks k word ≡ true → broken_by_ways base barred breaks word
    ≡ true
unfolding is_broken
forth base barred breaks zero word e = or_left (base word) _ e
forth base barred breaks (suc k) word e =
    let low = is_broken_within base barred breaks k in
    ⊎_else (λ a. or_left (base word) _ a)
    (λ b. let parts = and_parts (not (barred word)) _ b in
    ⊎_else (λ x.
    or_right (base word) _
    (and_from (not (barred word)) _ parts.0
    (any_passes (all_left low word) (all_left (is_broken base barred breaks) word)
    (λ way left. left_passes low (is_broken base barred breaks) word
    (λ y _ t. stable base barred breaks k y t) way left) (ways_of breaks word) x)))
    (λ x. forth base barred breaks k word x)
    (found low breaks word parts.1))
    (or_cases (base word) (not (barred word) && list_any (list_all low) (ways_to_break breaks word))
    e)

back : (base barred : List ℕ → Bool) (breaks : List Anchored) (word : List ℕ)
    → broken_by_ways base barred breaks word ≡ true → is_broken base barred breaks word ≡ true
unfolding is_broken
back base barred breaks word e =
    let all = is_broken_within base barred breaks (length word) in
    ⊎_else (λ a. base_within base barred breaks (length word) word a)
    (λ b. let parts = and_parts (not (barred word)) _ b in
    stable base barred breaks (suc (length word)) word
    (or_right (base word) _ (and_from (not (barred word)) _ parts.0
    (had all breaks word
    (any_passes (all_left (is_broken base barred breaks) word) (all_left all word)
    (λ way left. left_passes (is_broken base barred breaks) all word
    (λ y l t. within_more base barred breaks (length y) (length word) y l t) way left)
    (ways_of breaks word) parts.1)))))
    (or_cases (base word)
    (not (barred word) && list_any (all_left (is_broken base barred breaks) word)
    (ways_of breaks word)) e)

pub broken-by_ways : (base barred : List ℕ → Bool) (breaks : List Anchored) (word : List ℕ)
    → is_broken base barred breaks word ≡ broken_by_ways base barred breaks word
unfolding is_broken
broken-by_ways base barred breaks word =
    both_ways (is_broken base barred breaks word) (broken_by_ways base barred breaks word)
    (forth base barred breaks (length word) word) (back base barred breaks word)
