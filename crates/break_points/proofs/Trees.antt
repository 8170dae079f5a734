-- A word is broken exactly if it has a finite tree of breaks.
use Rattle.std.proofs.Common.{◌≡◌, refl, sym, ap, ◌∙◌, subst, arith, ℕ, zero, suc, ◌+◌, ◌-◌, ◌<◌}
use Rattle.std.proofs.Common.{◌≤◌, Bool, true, false, not, ◌&&◌, ◌||◌, cond, List, [], ◌∷◌, ◌++◌}
use Rattle.std.proofs.Common.{length, map, take, drop, get_or, nat_eq, nat_lt, ltb-true, lt-ltb}
use Rattle.std.proofs.Common.{length-drop}
use Rattle.std.specs.List.{Contains, list_any, list_all, filter, range_with_len, starts_with}
use Rattle.std.specs.List.{ends_with}
use Rattle.std.proofs.lemmas.Bool.{and_parts, and_from, or_cases, or_left, or_right, not-true}
use Rattle.std.proofs.lemmas.Bool.{false≢true}
use Rattle.std.proofs.lemmas.Bool.Decides.{Decides-eqb}
use Rattle.std.proofs.lemmas.List.{length-append, length-take, drop-drop, take-append-drop}
use Rattle.std.proofs.lemmas.List.{append_assoc}
use Rattle.std.proofs.lemmas.List.Elements.{Contains-append_left, Contains-append_right}
use Rattle.std.proofs.lemmas.List.Elements.{Contains-push}
use Rattle.std.proofs.lemmas.List.Folds.{list_any-append}
use Rattle.std.proofs.lemmas.List.FromFn.{get_or-range_with_len, length-range_with_len}
use Rattle.std.proofs.lemmas.Slice.Eq.{starts_is, ends_is}
use Rattle.std.proofs.Math.Seq.{take-append_seam, drop-append_seam, drop-append-add}
use Rattle.spell_types.specs.declared.breaks.Anchored.{Anchored}
use Rattle.spell_types.specs.Breaks.{parts_at, parted_at, parted, behind_front, before_end, ways_by}
use Rattle.spell_types.specs.Breaks.{ways_to_break, is_broken_within, is_broken, IsBroken, whole}
use Rattle.spell_types.specs.Breaks.{between, behind, before}
use Rattle.spell_types.specs.lists.Laws.{take-joined}
use Rattle.break_points.proofs.Breaking.{⊎_else, base_within, within_more, stable}

-- ---- one of the patterns breaks the word
pattern_found : (test : List (List ℕ) → Bool) (breaks : List Anchored) (word : List ℕ)
    → list_any test (ways_to_break breaks word) ≡ true
    → (b : Anchored) × (Contains breaks b)
    × (list_any test (ways_by b.front b.back b.text word) ≡ true)
pattern_found test [] word e = absurd (false≢true e)
pattern_found test (b ∷ breaks) word e =
    ⊎_else
    (λ here. (b, Contains-append_left (b ∷ []) breaks b (Contains-push [] b), here))
    (λ there. let low = pattern_found test breaks word there in
    (low.0, Contains-append_right (b ∷ []) breaks low.0 low.1, low.2))
    (or_cases _ _
    (sym (list_any-append test (ways_by b.front b.back b.text word) (ways_to_break breaks word))
    ∙ e))

pattern_had_at : (test : List (List ℕ) → Bool) (breaks : List Anchored) (word : List ℕ)
    (b : Anchored) (place : ℕ) → place < length breaks → get_or breaks place b ≡ b
    → list_any test (ways_by b.front b.back b.text word) ≡ true
    → list_any test (ways_to_break breaks word) ≡ true
pattern_had_at test [] word b place less is e = absurd (omega (arith, less))
pattern_had_at test (x ∷ breaks) word b zero less is e =
    list_any-append test (ways_by x.front x.back x.text word) (ways_to_break breaks word)
    ∙ or_left _ _
    (subst (λ (y : Anchored). list_any test (ways_by y.front y.back y.text word) ≡ true)
    (sym is) e)
pattern_had_at test (x ∷ breaks) word b (suc place) less is e =
    list_any-append test (ways_by x.front x.back x.text word) (ways_to_break breaks word)
    ∙ or_right _ _ (pattern_had_at test breaks word b place (omega (arith, less)) is e)

pattern_had : (test : List (List ℕ) → Bool) (breaks : List Anchored) (word : List ℕ) (b : Anchored)
    → Contains breaks b
    → list_any test (ways_by b.front b.back b.text word) ≡ true
    → list_any test (ways_to_break breaks word) ≡ true
pattern_had test breaks word b among e = pattern_had_at test breaks word b among.0 among.1 among.2 e

-- ---- a text that parts the word stands in it at one place
first_or_later : (h : ℕ → Bool) (g : ℕ → List (List ℕ)) (test : List (List ℕ) → Bool) (place : ℕ)
    (places : List ℕ) (kept : Bool) → h place ≡ kept
    → (list_any test (map g (filter h places)) ≡ true → (at : ℕ) × (h at ≡ true)
    × (test (g at) ≡ true))
    → list_any test (map g (cond kept (place ∷ filter h places) (filter h places))) ≡ true
    → (at : ℕ) × (h at ≡ true) × (test (g at) ≡ true)
first_or_later h g test place places true is later e =
    ⊎_else (λ here. (place, is, here)) later (or_cases (test (g place)) _ e)
first_or_later h g test place places false is later e = later e

place_found : (h : ℕ → Bool) (g : ℕ → List (List ℕ)) (test : List (List ℕ) → Bool) (places : List ℕ)
    → list_any test (map g (filter h places)) ≡ true
    → (place : ℕ) × (h place ≡ true) × (test (g place) ≡ true)
place_found h g test [] e = absurd (false≢true e)
place_found h g test (place ∷ places) e =
    first_or_later h g test place places (h place) refl (λ later. place_found h g test places later)
    e

kept_later : (h : ℕ → Bool) (g : ℕ → List (List ℕ)) (test : List (List ℕ) → Bool) (place : ℕ)
    (places : List ℕ) (kept : Bool) → list_any test (map g (filter h places)) ≡ true
    → list_any test (map g (cond kept (place ∷ filter h places) (filter h places))) ≡ true
kept_later h g test place places true later = or_right (test (g place)) _ later
kept_later h g test place places false later = later

place_had : (h : ℕ → Bool) (g : ℕ → List (List ℕ)) (test : List (List ℕ) → Bool) (places : List ℕ)
    (k d : ℕ) → k < length places → h (get_or places k d) ≡ true
    → test (g (get_or places k d)) ≡ true
    → list_any test (map g (filter h places)) ≡ true
place_had h g test [] k d less stands holds = absurd (omega (arith, less))
place_had h g test (place ∷ places) zero d less stands holds =
    ap (λ kept. list_any test (map g (cond kept (place ∷ filter h places) (filter h places))))
    stands ∙ or_left (test (g place)) _ holds
place_had h g test (place ∷ places) (suc k) d less stands holds =
    kept_later h g test place places (h place)
    (place_had h g test places k d (omega (arith, less)) stands holds)

-- what a text at a place has before it and behind it
around : (text word : List ℕ) (place : ℕ) → starts_with nat_eq (drop place word) text ≡ true
    → word ≡ take place word ++ text ++ drop (place + length text) word
around text word place stands =
    sym (take-append-drop place word)
    ∙ ap (λ rest. take place word ++ rest)
    ((starts_is Decides-eqb (drop place word) text _ refl).0 stands
    ∙ ap (λ rest. text ++ rest) (drop-drop (length text) place word))
    ∙ sym (append_assoc (take place word) text (drop (place + length text) word))

-- ---- a tree for each way
both_of : (test : List ℕ → Bool) (front rest : List ℕ) → list_all test (front ∷ rest ∷ []) ≡ true
    → (test front ≡ true) × (test rest ≡ true)
both_of test front rest e = let parts =
    and_parts (test front) _ e in
    (parts.0, (and_parts (test rest) true parts.1).0)

one_of : (test : List ℕ → Bool) (rest : List ℕ) (less stands : Bool)
    → list_any (list_all test) (cond (less && stands) ((rest ∷ []) ∷ []) []) ≡ true
    → (less ≡ true) × (stands ≡ true) × (test rest ≡ true)
one_of test rest true true e = (refl, refl, only (test rest) e) where
  only : (b : Bool) → ((b && true) || false) ≡ true → b ≡ true
  only true e = refl
  only false e = e
one_of test rest true false e = absurd (false≢true e)
one_of test rest false stands e = absurd (false≢true e)

between_tree : (base barred : List ℕ → Bool) (breaks : List Anchored) (low : List ℕ → Bool)
    (word : List ℕ) (b : Anchored) → barred word ≡ false → Contains breaks b → b.front ≡ false
    → b.back ≡ false
    → ((part : List ℕ) → low part ≡ true → IsBroken base barred breaks part)
    → list_any (list_all low) (parted b.text word) ≡ true → IsBroken base barred breaks word
between_tree base barred breaks low word b free among no_front no_back trees e =
    let found =
    place_found (parts_at b.text word) (parted_at b.text word) (list_all low)
    (range_with_len 0 (length word)) e in
    let place = found.0 in
    let more = and_parts (nat_lt 0 place) _ found.1 in
    let within = and_parts (nat_lt (place + length b.text) (length word)) _ more.1 in
    let some = ltb-true 0 place more.0 in
    let less = ltb-true (place + length b.text) (length word) within.0 in
    let both = both_of low (take place word) (drop (place + length b.text) word) found.2 in
    between word (take place word) (drop (place + length b.text) word) b free among no_front no_back
    (around b.text word place within.1)
    (omega (arith, some, less, length-take place word))
    (omega (arith, less, length-drop (place + length b.text) word))
    (trees (take place word) both.0) (trees (drop (place + length b.text) word) both.1)

behind_tree : (base barred : List ℕ → Bool) (breaks : List Anchored) (low : List ℕ → Bool)
    (word : List ℕ) (b : Anchored) → barred word ≡ false → Contains breaks b → b.front ≡ true
    → b.back ≡ false
    → ((part : List ℕ) → low part ≡ true → IsBroken base barred breaks part)
    → list_any (list_all low) (behind_front b.text word) ≡ true → IsBroken base barred breaks word
behind_tree base barred breaks low word b free among front no_back trees e =
    let told = one_of low (drop (length b.text) word) (nat_lt (length b.text) (length word))
    (starts_with nat_eq word b.text) e in
    let less = ltb-true (length b.text) (length word) told.0 in
    behind word (drop (length b.text) word) b free among front no_back
    ((starts_is Decides-eqb word b.text _ refl).0 told.1)
    (omega (arith, less, length-drop (length b.text) word))
    (trees (drop (length b.text) word) told.2)

before_tree : (base barred : List ℕ → Bool) (breaks : List Anchored) (low : List ℕ → Bool)
    (word : List ℕ) (b : Anchored) → barred word ≡ false → Contains breaks b → b.front ≡ false
    → b.back ≡ true
    → ((part : List ℕ) → low part ≡ true → IsBroken base barred breaks part)
    → list_any (list_all low) (before_end b.text word) ≡ true → IsBroken base barred breaks word
before_tree base barred breaks low word b free among no_front back trees e =
    let told = one_of low (take (length word - length b.text) word)
    (nat_lt (length b.text) (length word)) (ends_with nat_eq word b.text) e in
    let less = ltb-true (length b.text) (length word) told.0 in
    before word (take (length word - length b.text) word) b free among no_front back
    ((ends_is Decides-eqb word b.text _ refl).0 told.1)
    (omega (arith, less, length-take (length word - length b.text) word))
    (trees (take (length word - length b.text) word) told.2)

pattern_tree : (base barred : List ℕ → Bool) (breaks : List Anchored) (low : List ℕ → Bool)
    (word : List ℕ) (b : Anchored) (front back : Bool) → barred word ≡ false → Contains breaks b
    → b.front ≡ front → b.back ≡ back
    → ((part : List ℕ) → low part ≡ true → IsBroken base barred breaks part)
    → list_any (list_all low) (ways_by front back b.text word) ≡ true
    → IsBroken base barred breaks word
pattern_tree base barred breaks low word b false false free among f k trees e =
    between_tree base barred breaks low word b free among f k trees e
pattern_tree base barred breaks low word b true false free among f k trees e =
    behind_tree base barred breaks low word b free among f k trees e
pattern_tree base barred breaks low word b false true free among f k trees e =
    before_tree base barred breaks low word b free among f k trees e
pattern_tree base barred breaks low word b true true free among f k trees e = absurd (false≢true e)

tree_within : (base barred : List ℕ → Bool) (breaks : List Anchored) (bound : ℕ) (word : List ℕ)
    → is_broken_within base barred breaks bound word ≡ true → IsBroken base barred breaks word
tree_within base barred breaks zero word e = whole word e
tree_within base barred breaks (suc bound) word e =
    let low = is_broken_within base barred breaks bound in
    ⊎_else (λ is. whole word is)
    (λ parts. let both = and_parts (not (barred word)) _ parts in
    let found = pattern_found (list_all low) breaks word both.1 in
    pattern_tree base barred breaks low word found.0 found.0.front found.0.back
    (not-true (barred word) both.0) found.1 refl refl
    (λ part. tree_within base barred breaks bound part) found.2)
    (or_cases (base word) (not (barred word) && list_any (list_all low) (ways_to_break breaks word))
    e)

pub broken_tree : (base barred : List ℕ → Bool) (breaks : List Anchored) (word : List ℕ)
    → is_broken base barred breaks word ≡ true → IsBroken base barred breaks word
unfolding is_broken
broken_tree base barred breaks word e = tree_within base barred breaks (length word) word e

-- ---- a word with a tree is broken
parts_between : (text front rest : List ℕ) → 0 < length front → 0 < length rest
    → parts_at text (front ++ (text ++ rest)) (length front) ≡ true
parts_between text front rest some_front some_rest =
    and_from (nat_lt 0 (length front)) _ (lt-ltb 0 (length front) some_front)
    (and_from (nat_lt (length front + length text) (length (front ++ (text ++ rest)))) _
    (lt-ltb (length front + length text) (length (front ++ (text ++ rest)))
    (omega (arith, some_rest, length-append front (text ++ rest), length-append text rest)))
    ((starts_is Decides-eqb (drop (length front) (front ++ (text ++ rest))) text _ refl).1 rest
    (drop-append_seam front (text ++ rest))))

rest_between : (text front rest : List ℕ)
    → drop (length front + length text) (front ++ (text ++ rest)) ≡ rest
rest_between text front rest =
    drop-append-add front (text ++ rest) (length text) ∙ drop-append_seam text rest

parted_between : (low : List ℕ → Bool) (text front rest : List ℕ) → 0 < length front
    → 0 < length rest → low front ≡ true → low rest ≡ true
    → list_any (list_all low) (parted text (front ++ (text ++ rest))) ≡ true
parted_between low text front rest some_front some_rest is_front is_rest =
    let word = front ++ (text ++ rest) in
    let long = length-append front (text ++ rest) in
    let longer = length-append text rest in
    let at : get_or (range_with_len 0 (length word)) (length front) 0 ≡ length front =
    omega (
      arith,
      get_or-range_with_len 0 (length word) (length front) 0
          (omega (arith, some_rest, long, longer)),
    ) in
    place_had (parts_at text word) (parted_at text word) (list_all low)
    (range_with_len 0 (length word)) (length front) 0
    (omega (arith, some_rest, long, longer, length-range_with_len 0 (length word)))
    (ap (parts_at text word) at ∙ parts_between text front rest some_front some_rest)
    (ap (λ place. list_all low (parted_at text word place)) at
    ∙ and_from (low (take (length front) word)) _
    (ap low (take-append_seam front (text ++ rest)) ∙ is_front)
    (and_from (low (drop (length front + length text) word)) true
    (ap low (rest_between text front rest) ∙ is_rest) refl))

only_one : (test : List ℕ → Bool) (rest : List ℕ) (less stands : Bool) → less ≡ true → stands ≡ true
    → test rest ≡ true → list_any (list_all test) (cond (less && stands) ((rest ∷ []) ∷ []) [])
    ≡ true
only_one test rest true true l s e = ap (λ b. (b && true) || false) e
only_one test rest true false l s e = absurd (false≢true s)
only_one test rest false stands l s e = absurd (false≢true l)

behind_had : (low : List ℕ → Bool) (text rest : List ℕ) → 0 < length rest → low rest ≡ true
    → list_any (list_all low) (behind_front text (text ++ rest)) ≡ true
behind_had low text rest some is =
    only_one low (drop (length text) (text ++ rest)) _ _
    (lt-ltb (length text) (length (text ++ rest)) (omega (arith, some, length-append text rest)))
    ((starts_is Decides-eqb (text ++ rest) text _ refl).1 rest refl)
    (ap low (drop-append_seam text rest) ∙ is)

before_had : (low : List ℕ → Bool) (text front : List ℕ) → 0 < length front → low front ≡ true
    → list_any (list_all low) (before_end text (front ++ text)) ≡ true
before_had low text front some is =
    only_one low (take (length (front ++ text) - length text) (front ++ text)) _ _
    (lt-ltb (length text) (length (front ++ text)) (omega (arith, some, length-append front text)))
    ((ends_is Decides-eqb (front ++ text) text _ refl).1 front refl)
    (ap low (take-joined front text) ∙ is)

-- a way by one of the patterns whose parts are all broken
broken_by : (base barred : List ℕ → Bool) (breaks : List Anchored) (word : List ℕ) (b : Anchored)
    (front back : Bool) → barred word ≡ false → Contains breaks b → b.front ≡ front → b.back ≡ back
    → list_any (list_all (is_broken_within base barred breaks (length word)))
    (ways_by front back b.text word) ≡ true → is_broken base barred breaks word ≡ true
unfolding is_broken
broken_by base barred breaks word b front back free among f k e =
    let test = list_all (is_broken_within base barred breaks (length word)) in
    let by_it = ap (λ x. list_any test (ways_by x b.back b.text word)) f
    ∙ ap (λ y. list_any test (ways_by front y b.text word)) k ∙ e in
    stable base barred breaks (suc (length word)) word
    (or_right (base word) _
    (and_from (not (barred word)) _ (ap not free) (pattern_had test breaks word b among by_it)))

part_within : (base barred : List ℕ → Bool) (breaks : List Anchored) (word part : List ℕ)
    → length part ≤ length word → is_broken base barred breaks part ≡ true
    → is_broken_within base barred breaks (length word) part ≡ true
unfolding is_broken
part_within base barred breaks word part le e =
    within_more base barred breaks (length part) (length word) part le e

base_broken : (base barred : List ℕ → Bool) (breaks : List Anchored) (word : List ℕ)
    → base word ≡ true → is_broken base barred breaks word ≡ true
unfolding is_broken
base_broken base barred breaks word e = base_within base barred breaks (length word) word e

pub tree_broken : (base barred : List ℕ → Bool) (breaks : List Anchored) (word : List ℕ)
    → IsBroken base barred breaks word → is_broken base barred breaks word ≡ true
tree_broken base barred breaks _ (whole word e) = base_broken base barred breaks word e
tree_broken base barred breaks _
    (between word front rest b free among f k parts some_front some_rest front_tree rest_tree) =
    let low = is_broken_within base barred breaks (length word) in
    let is = parts ∙ append_assoc front b.text rest in
    let long = ap length is in
    let front_in =
    part_within base barred breaks word front
    (omega (arith, long, length-append front (b.text ++ rest)))
    (tree_broken base barred breaks front front_tree) in
    let rest_in =
    part_within base barred breaks word rest
    (omega (arith, long, length-append front (b.text ++ rest), length-append b.text rest))
    (tree_broken base barred breaks rest rest_tree) in
    broken_by base barred breaks word b false false free among f k
    (ap (λ w. list_any (list_all low) (parted b.text w)) is
    ∙ parted_between low b.text front rest some_front some_rest front_in rest_in)
tree_broken base barred breaks _ (behind word rest b free among f k is some tree) =
    let low = is_broken_within base barred breaks (length word) in
    let rest_in =
    part_within base barred breaks word rest
    (omega (arith, ap length is, length-append b.text rest))
    (tree_broken base barred breaks rest tree) in
    broken_by base barred breaks word b true false free among f k
    (ap (λ w. list_any (list_all low) (behind_front b.text w)) is
    ∙ behind_had low b.text rest some rest_in)
tree_broken base barred breaks _ (before word front b free among f k is some tree) =
    let low = is_broken_within base barred breaks (length word) in
    let front_in =
    part_within base barred breaks word front
    (omega (arith, ap length is, length-append front b.text))
    (tree_broken base barred breaks front tree) in
    broken_by base barred breaks word b false true free among f k
    (ap (λ w. list_any (list_all low) (before_end b.text w)) is
    ∙ before_had low b.text front some front_in)
