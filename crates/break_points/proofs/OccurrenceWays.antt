-- The ways by the texts that stand in a word are the ways by its patterns.
use Rattle.std.proofs.Common.{◌≡◌, ◌∙◌, refl, sym, ap, subst, ℕ, ◌+◌, ◌-◌, ◌<◌, ◌≤◌, ◌==◌, Bool}
use Rattle.std.proofs.Common.{true, false, cond, ◌&&◌, ◌||◌, List, [], ◌∷◌, length, map, take, drop}
use Rattle.std.proofs.Common.{nat_eq, nat_lt, slice_range, Option, None, Some, length-drop}
use Rattle.std.proofs.Common.{take_all, lt-ltb, ltb-true, le-leb, eq-eqb, eqb-true, arith}
use Rattle.std.specs.List.{Contains, list_any, flat_map, filter, range_with_len, starts_with}
use Rattle.std.specs.List.{ends_with}
use Rattle.std.proofs.lemmas.Bool.{and_parts, and_from, or_cases, false≢true}
use Rattle.std.proofs.lemmas.List.{length-take, length-take-le, drop-take, drop-drop, take-take}
use Rattle.std.proofs.lemmas.List.Elements.{All-contains, filter_passes}
use Rattle.std.proofs.lemmas.List.Folds.{list_any-append}
use Rattle.std.proofs.lemmas.Option.{cond_some}
use Rattle.std.proofs.lemmas.Slice.Eq.{bytes_eq-Decides}
use Rattle.spell_types.specs.lists.Laws.{contains-head, contains-tail, contains-filter}
use Rattle.spell_types.specs.lists.Laws.{contains-range}
use Rattle.spell_types.specs.lists.Laws.{any-contains}
use Rattle.spell_types.specs.declared.breaks.Anchored.{Anchored}
use Rattle.spell_types.specs.Breaks.{parts_at}
use Rattle.std.specs.Cmp.{both_ways}
use Rattle.break_points.specs.declared.occurrences.Occurrence.{Occurrence}
use Rattle.break_points.specs.declared.table.Stretch.{Stretch}
use Rattle.break_points.specs.declared.ways.Way.{Way}
use Rattle.break_points.specs.declared.ways.Way.TheVariants.{Between, Behind, Before}
use Rattle.break_points.specs.Occurrences.{IsOccurrence, AreOccurrences, way_with, way_by}
use Rattle.break_points.specs.Occurrences.{way_passes}
use Rattle.break_points.specs.Pieces.{all_left, is_shorter, is_less, parting, ways_with, ways_at}
use Rattle.break_points.specs.Pieces.{ways_of}
use Rattle.break_points.proofs.Breaking.{⊎_else}
use Rattle.break_points.proofs.Deciding.{whole_word}

-- ---- one of many
any-has : {X : Type 0} (p : X → Bool) (xs : List X) → list_any p xs ≡ true → (x : X) × Contains xs x
    × (p x ≡ true)
any-has p [] e = absurd (false≢true e)
any-has p (x ∷ xs) e =
    ⊎_else (λ here. (x, contains-head x xs, here))
    (λ there. let low = any-has p xs there in (low.0, contains-tail x low.0 xs low.1, low.2))
    (or_cases (p x) (list_any p xs) e)

any-flat : {X Y : Type 0} (p : Y → Bool) (f : X → List Y) (xs : List X)
    → list_any p (flat_map f xs) ≡ list_any (λ x. list_any p (f x)) xs
any-flat p f [] = refl
any-flat p f (x ∷ xs) =
    list_any-append p (f x) (flat_map f xs) ∙ ap (λ b. list_any p (f x) || b) (any-flat p f xs)

any-map : {X Y : Type 0} (p : Y → Bool) (f : X → Y) (xs : List X)
    → list_any p (map f xs) ≡ list_any (λ x. p (f x)) xs
any-map p f [] = refl
any-map p f (x ∷ xs) = ap (λ b. p (f x) || b) (any-map p f xs)

one_of : {X : Type 0} (p : X → Bool) (x : X) (b : Bool) → list_any p (cond b (x ∷ []) []) ≡ true
    → (b ≡ true) × (p x ≡ true)
one_of p x true e =
    (refl, ⊎_else (λ here. here) (λ there. absurd (false≢true there)) (or_cases (p x) false e))
one_of p x false e = absurd (false≢true e)

of_one : {X : Type 0} (p : X → Bool) (x : X) (b : Bool) → b ≡ true → p x ≡ true
    → list_any p (cond b (x ∷ []) []) ≡ true
of_one p x b is e = ap (λ c. list_any p (cond c (x ∷ []) [])) is ∙ ap (λ c. c || false) e

-- ---- pieces of a word
piece-long : (word : List ℕ) (from to : ℕ) → to ≤ length word → length (slice_range word from to)
    ≡ to - from
piece-long word from to within =
    omega (arith, within, length-take (to - from) (drop from word), length-drop from word)

piece-text : (word : List ℕ) (from to place len : ℕ) → place + len ≤ to - from
    → take len (drop place (slice_range word from to)) ≡ take len (drop (from + place) word)
piece-text word from to place len within =
    let more = to - from - place in
    let whole : to - from ≡ place + more = omega (arith, within) in
    let some : len ≤ more = omega (arith, within) in
    ap (λ n. take len (drop place (take n (drop from word)))) whole
    ∙ ap (take len) (drop-take place more (drop from word))
    ∙ take-take len more (drop place (drop from word)) some
    ∙ ap (take len) (drop-drop place from word)

stands : (text word : List ℕ) → starts_with nat_eq word text ≡ true → take (length text) word ≡ text
stands text word e = sym ((bytes_eq-Decides text (take (length text) word)).0 e)

stands-from : (text word : List ℕ) → take (length text) word ≡ text
    → starts_with nat_eq word text ≡ true
stands-from text word e = (bytes_eq-Decides text (take (length text) word)).1 (sym e)

-- ---- a way by a pattern is one by a text that stands in the word
record Found (test : List ℕ → Bool) (word : List ℕ) (from to : ℕ) (front back : Bool)
    (text : List ℕ) : Type 0 where
  place : ℕ
  within : place + length text ≤ length word
  inside : place < length word
  here : take (length text) (drop place word) ≡ text
  way : Way
  by : way_with front back from to place (length text) ≡ Some way
  passes : all_left test (slice_range word from to) way ≡ true

some_if : (b : Bool) (way : Way) → b ≡ true → (cond b (Some way) None) ≡ Some way
some_if b way is = ap (λ c. cond c (Some way) None) is

between_found : (test : List ℕ → Bool) (word : List ℕ) (from to : ℕ) (text : List ℕ) (at : ℕ)
    → to ≤ length word → parts_at text (slice_range word from to) at ≡ true
    → all_left test (slice_range word from to) (parting text at) ≡ true
    → Found test word from to false false text
between_found test word from to text at within parts passes =
    let piece = slice_range word from to in
    let first = and_parts (nat_lt 0 at) _ parts in
    let second = and_parts (nat_lt (at + length text) (length piece)) _ first.1 in
    let some : 0 < at = ltb-true 0 at first.0 in
    let less : at + length text < to - from =
    omega (
      arith,
      ltb-true (at + length text) (length piece) second.0,
      piece-long word from to within,
    ) in
    let back : from + at - from ≡ at = omega arith in
    record {
      place = from + at;
      within = omega (arith, less, within);
      inside = omega (arith, less, within);
      here = sym (piece-text word from to at (length text) (omega (arith, less)))
          ∙ stands text (drop at piece) second.1;
      way = Between (from + at - from) (from + at - from + length text);
      by = some_if _ _
          (and_from (nat_lt from (from + at)) _ (lt-ltb from (from + at) (omega (arith, some)))
          (and_from (nat_lt (from + at) to) _ (lt-ltb (from + at) to (omega (arith, less)))
          (lt-ltb (length text) (to - (from + at)) (omega (arith, less)))));
      passes = ap (λ k. all_left test piece (parting text k)) back ∙ passes;
    }

behind_found : (test : List ℕ → Bool) (word : List ℕ) (from to : ℕ) (text : List ℕ)
    → to ≤ length word
    → (is_less text (slice_range word from to) && starts_with nat_eq (slice_range word from to)
    text) ≡ true
    → all_left test (slice_range word from to) (Behind (length text)) ≡ true
    → Found test word from to true false text
behind_found test word from to text within tests passes =
    let piece = slice_range word from to in
    let first = and_parts (is_less text piece) _ tests in
    let second = and_parts (nat_lt 0 (length text)) _ first.0 in
    let some : 0 < length text = ltb-true 0 (length text) second.0 in
    let less : length text < to - from =
    omega (
      arith,
      ltb-true (length text) (length piece) second.1,
      piece-long word from to within,
    ) in
    record {
      place = from;
      within = omega (arith, less, within);
      inside = omega (arith, less, within);
      here = sym (take-take (length text) (to - from) (drop from word) (omega (arith, less)))
          ∙ stands text piece first.1;
      way = Behind (length text);
      by = some_if _ _ (and_from (from == from) _ (eq-eqb from from refl)
          (and_from (nat_lt 0 (length text)) _ (lt-ltb 0 (length text) some)
          (lt-ltb (length text) (to - from) less)));
      passes = passes;
    }

before_found : (test : List ℕ → Bool) (word : List ℕ) (from to : ℕ) (text : List ℕ)
    → to ≤ length word
    → (is_less text (slice_range word from to) && ends_with nat_eq (slice_range word from to) text)
    ≡ true
    → all_left test (slice_range word from to)
    (Before (length (slice_range word from to) - length text)) ≡ true
    → Found test word from to false true text
before_found test word from to text within tests passes =
    let piece = slice_range word from to in
    let long = piece-long word from to within in
    let first = and_parts (is_less text piece) _ tests in
    let second = and_parts (nat_lt 0 (length text)) _ first.0 in
    let some : 0 < length text = ltb-true 0 (length text) second.0 in
    let less : length text < to - from =
    omega (arith, ltb-true (length text) (length piece) second.1, long) in
    let at = length piece - length text in
    let ends : text ≡ drop at piece = (bytes_eq-Decides text (drop at piece)).0 first.1 in
    let all : length (drop at piece) ≤ length text =
    omega (arith, less, long, length-drop at piece) in
    let back : from + at - from ≡ at = omega arith in
    record {
      place = from + at;
      within = omega (arith, less, within, long);
      inside = omega (arith, some, less, within, long);
      here = sym (piece-text word from to at (length text) (omega (arith, less, long)))
          ∙ take_all (length text) (drop at piece) all ∙ sym ends;
      way = Before (from + at - from);
      by = some_if _ _
          (and_from (nat_lt from (from + at)) _
          (lt-ltb from (from + at) (omega (arith, less, long)))
          (and_from (nat_lt (from + at) to) _
          (lt-ltb (from + at) to (omega (arith, some, less, long)))
          (eq-eqb (length text) (to - (from + at)) (omega (arith, less, long)))));
      passes = ap (λ k. all_left test piece (Before k)) back ∙ passes;
    }

kind_found : (test : List ℕ → Bool) (word : List ℕ) (from to : ℕ) (front back : Bool)
    (text : List ℕ) → to ≤ length word
    → list_any (all_left test (slice_range word from to))
    (ways_with front back text (slice_range word from to)) ≡ true
    → Found test word from to front back text
kind_found test word from to false false text within e =
    let piece = slice_range word from to in
    let places = filter (parts_at text piece) (range_with_len 0 (length piece)) in
    let one = any-has (λ place. all_left test piece (parting text place)) places
    (sym (any-map (all_left test piece) (parting text) places) ∙ e) in
    let parts =
    All-contains (λ place. parts_at text piece place ≡ true) places one.0
    (filter_passes (parts_at text piece) (range_with_len 0 (length piece))) one.1 in
    between_found test word from to text one.0 within parts one.2
kind_found test word from to true false text within e =
    let piece = slice_range word from to in
    let one = one_of (all_left test piece) (Behind (length text))
    (is_less text piece && starts_with nat_eq piece text) e in
    behind_found test word from to text within one.0 one.1
kind_found test word from to false true text within e =
    let piece = slice_range word from to in
    let one = one_of (all_left test piece) (Before (length piece - length text))
    (is_less text piece && ends_with nat_eq piece text) e in
    before_found test word from to text within one.0 one.1
kind_found test word from to true true text within e = absurd (false≢true e)

-- ---- and a way by a text that stands in the word is one by its pattern
kind_had : (test : List ℕ → Bool) (word : List ℕ) (from to : ℕ) (front back : Bool) (text : List ℕ)
    (place : ℕ) (way : Way) → to ≤ length word → take (length text) (drop place word) ≡ text
    → way_with front back from to place (length text) ≡ Some way
    → all_left test (slice_range word from to) way ≡ true
    → list_any (all_left test (slice_range word from to))
    (ways_with front back text (slice_range word from to)) ≡ true
kind_had test word from to false false text place way within here by passes =
    let piece = slice_range word from to in
    let long = piece-long word from to within in
    let is = cond_some (nat_lt from place && (nat_lt place to && nat_lt (length text) (to - place)))
    (Between (place - from) (place - from + length text)) way by in
    let first = and_parts (nat_lt from place) _ is.0 in
    let second = and_parts (nat_lt place to) _ first.1 in
    let some : from < place = ltb-true from place first.0 in
    let less : length text < to - place = ltb-true (length text) (to - place) second.1 in
    let at = place - from in
    let whole : from + at ≡ place = omega (arith, some) in
    let stands_at : starts_with nat_eq (drop at piece) text ≡ true =
    stands-from text (drop at piece)
    (piece-text word from to at (length text) (omega (arith, some, less))
    ∙ ap (λ k. take (length text) (drop k word)) whole ∙ here) in
    let parts : parts_at text piece at ≡ true =
    and_from (nat_lt 0 at) _ (lt-ltb 0 at (omega (arith, some)))
    (and_from (nat_lt (at + length text) (length piece)) _
    (lt-ltb (at + length text) (length piece) (omega (arith, some, less, long))) stands_at) in
    let places = range_with_len 0 (length piece) in
    any-map (all_left test piece) (parting text) (filter (parts_at text piece) places)
    ∙ any-contains (λ k. all_left test piece (parting text k)) (filter (parts_at text piece) places)
    at
    (contains-filter (parts_at text piece) places at
    (contains-range (length piece) at (omega (arith, some, less, long))) parts)
    (ap (all_left test piece) is.1 ∙ passes)
kind_had test word from to true false text place way within here by passes =
    let piece = slice_range word from to in
    let long = piece-long word from to within in
    let is = cond_some
    ((place == from) && (nat_lt 0 (length text) && nat_lt (length text) (to - from)))
    (Behind (length text)) way by in
    let first = and_parts (place == from) _ is.0 in
    let second = and_parts (nat_lt 0 (length text)) _ first.1 in
    let same : place ≡ from = eqb-true place from first.0 in
    let less : length text < to - from = ltb-true (length text) (to - from) second.1 in
    of_one (all_left test piece) (Behind (length text))
    (is_less text piece && starts_with nat_eq piece text)
    (and_from (is_less text piece) _
    (and_from (nat_lt 0 (length text)) _ second.0
    (lt-ltb (length text) (length piece) (omega (arith, less, long))))
    (stands-from text piece
    (take-take (length text) (to - from) (drop from word) (omega (arith, less))
    ∙ ap (λ k. take (length text) (drop k word)) (sym same) ∙ here)))
    (ap (all_left test piece) is.1 ∙ passes)
kind_had test word from to false true text place way within here by passes =
    let piece = slice_range word from to in
    let long = piece-long word from to within in
    let is = cond_some (nat_lt from place && (nat_lt place to && (length text == to - place)))
    (Before (place - from)) way by in
    let first = and_parts (nat_lt from place) _ is.0 in
    let second = and_parts (nat_lt place to) _ first.1 in
    let some : from < place = ltb-true from place first.0 in
    let less : place < to = ltb-true place to second.0 in
    let rest : length text ≡ to - place = eqb-true (length text) (to - place) second.1 in
    let at = length piece - length text in
    let whole : from + at ≡ place = omega (arith, some, less, rest, long) in
    let offset : at ≡ place - from = omega (arith, some, less, rest, long) in
    let all : length (drop at piece) ≤ length text =
    omega (arith, some, less, rest, long, length-drop at piece) in
    of_one (all_left test piece) (Before at) (is_less text piece && ends_with nat_eq piece text)
    (and_from (is_less text piece) _
    (and_from (nat_lt 0 (length text)) _ (lt-ltb 0 (length text) (omega (arith, less, rest)))
    (lt-ltb (length text) (length piece) (omega (arith, some, less, rest, long))))
    ((bytes_eq-Decides text (drop at piece)).1
    (sym here ∙ ap (λ k. take (length text) (drop k word)) (sym whole)
    ∙ sym (piece-text word from to at (length text) (omega (arith, some, less, rest, long)))
    ∙ take_all (length text) (drop at piece) all)))
    (ap (λ k. all_left test piece (Before k)) offset ∙ ap (all_left test piece) is.1 ∙ passes)
kind_had test word from to true true text place way within here by passes = absurd (cc)

-- ---- all ways
pub occurrences_decide : (test : List ℕ → Bool) (breaks : List Anchored) (word : List ℕ)
    (occurrences : List Occurrence) (piece : Stretch) → piece.to ≤ length word
    → AreOccurrences breaks word occurrences
    → list_any (λ occurrence. way_passes (all_left test (slice_range word piece.from piece.to))
    (way_by occurrence piece)) occurrences
    ≡ list_any (all_left test (slice_range word piece.from piece.to))
    (ways_of breaks (slice_range word piece.from piece.to))
occurrences_decide test breaks word occurrences piece within are = both_ways _ _ forth back
  where
    p : Way → Bool
    p = all_left test (slice_range word piece.from piece.to)

    passing : (way : Option Way) → way_passes p way ≡ true → (w : Way) × (way ≡ Some w)
        × (p w ≡ true)
    passing None e = absurd (false≢true e)
    passing (Some w) e = (w, refl, e)

    had_by : (occurrence : Occurrence) → IsOccurrence breaks word occurrence
        → ((w : Way) × (way_by occurrence piece ≡ Some w) × (p w ≡ true))
        → list_any p (ways_of breaks (slice_range word piece.from piece.to)) ≡ true
    had_by occurrence is (w, by, passes) =
        let text = take occurrence.len (drop occurrence.place word) in
        let long : length text ≡ occurrence.len =
        length-take-le occurrence.len (drop occurrence.place word)
        (omega (arith, is.within, length-drop occurrence.place word)) in
        any-flat p (λ b. ways_at b (slice_range word piece.from piece.to)) breaks
        ∙ any-contains (λ b. list_any p (ways_at b (slice_range word piece.from piece.to))) breaks _
        is.among
        (kind_had test word piece.from piece.to occurrence.front occurrence.back text
        occurrence.place w within
        (ap (λ n. take n (drop occurrence.place word)) long)
        (ap (way_with occurrence.front occurrence.back piece.from piece.to occurrence.place) long
        ∙ by) passes)

    forth : list_any (λ occurrence. way_passes p (way_by occurrence piece)) occurrences ≡ true
        → list_any p (ways_of breaks (slice_range word piece.from piece.to)) ≡ true
    forth e =
        let one = any-has (λ occurrence. way_passes p (way_by occurrence piece)) occurrences e in
        had_by one.0 (All-contains (IsOccurrence breaks word) occurrences one.0 are.sound one.1)
        (passing (way_by one.0 piece) one.2)

    found_by : (b : Anchored) → Contains breaks b
        → Found test word piece.from piece.to b.front b.back b.text
        → list_any (λ occurrence. way_passes p (way_by occurrence piece)) occurrences ≡ true
    found_by b among found =
        let occurrence : Occurrence =
        record { place = found.place; len = length b.text; front = b.front; back = b.back }
        in
        let is : IsOccurrence breaks word occurrence = record {
          within = found.within;
          among = subst
              (λ text. let a : Anchored = record { text = text; front = b.front; back = b.back } in
              Contains breaks a) (sym found.here) among;
        } in
        any-contains (λ m. way_passes p (way_by m piece)) occurrences occurrence
        (are.whole occurrence found.inside is) (ap (way_passes p) found.by ∙ found.passes)

    back : list_any p (ways_of breaks (slice_range word piece.from piece.to)) ≡ true
        → list_any (λ occurrence. way_passes p (way_by occurrence piece)) occurrences ≡ true
    back e =
        let one = any-has (λ b. list_any p (ways_at b (slice_range word piece.from piece.to)))
        breaks (sym
        (any-flat p (λ b. ways_at b (slice_range word piece.from piece.to)) breaks) ∙ e) in
        found_by one.0 one.1
        (kind_found test word piece.from piece.to one.0.front one.0.back one.0.text within
        one.2)

-- where there are no occurrences there are no ways
pub no_occurrences : (test : List ℕ → Bool) (breaks : List Anchored) (word : List ℕ)
    (occurrences : List Occurrence) → length occurrences ≡ 0
    → AreOccurrences breaks word occurrences
    → false ≡ list_any (all_left test word) (ways_of breaks word)
no_occurrences test breaks word [] none are =
    let piece : Stretch = record { from = 0; to = length word } in
    let within : length word ≤ length word = omega arith in
    occurrences_decide test breaks word [] piece within are
    ∙ ap (λ w. list_any (all_left test w) (ways_of breaks w)) (whole_word word piece refl refl)
no_occurrences test breaks word (occurrence ∷ occurrences) none are = absurd (omega (arith, none))

-- a way by an occurrence leaves less of the piece
pub way-shorter : (front back : Bool) (word : List ℕ) (from to place len : ℕ) (way : Way)
    → to ≤ length word → way_with front back from to place len ≡ Some way
    → is_shorter (slice_range word from to) way ≡ true
way-shorter false false word from to place len way within by =
    let long = piece-long word from to within in
    let is = cond_some (nat_lt from place && (nat_lt place to && nat_lt len (to - place)))
    (Between (place - from) (place - from + len)) way by in
    let first = and_parts (nat_lt from place) _ is.0 in
    let second = and_parts (nat_lt place to) _ first.1 in
    let some : from < place = ltb-true from place first.0 in
    let less : len < to - place = ltb-true len (to - place) second.1 in
    ap (is_shorter (slice_range word from to)) (sym is.1)
    ∙ and_from (nat_lt (place - from) (length (slice_range word from to))) _
    (lt-ltb _ _ (omega (arith, some, less, long)))
    (and_from (nat_lt 0 (place - from + len)) _ (lt-ltb _ _ (omega (arith, some)))
    (le-leb _ _ (omega (arith, some, less, long))))
way-shorter true false word from to place len way within by =
    let long = piece-long word from to within in
    let is = cond_some ((place == from) && (nat_lt 0 len && nat_lt len (to - from))) (Behind len)
    way by in
    let first = and_parts (place == from) _ is.0 in
    let second = and_parts (nat_lt 0 len) _ first.1 in
    ap (is_shorter (slice_range word from to)) (sym is.1)
    ∙ and_from (nat_lt 0 len) _ second.0
    (le-leb _ _ (omega (arith, ltb-true len (to - from) second.1, long)))
way-shorter false true word from to place len way within by =
    let long = piece-long word from to within in
    let is = cond_some (nat_lt from place && (nat_lt place to && (len == to - place)))
    (Before (place - from)) way by in
    let first = and_parts (nat_lt from place) _ is.0 in
    let second = and_parts (nat_lt place to) _ first.1 in
    ap (is_shorter (slice_range word from to)) (sym is.1)
    ∙ lt-ltb _ _ (omega (arith, ltb-true from place first.0, ltb-true place to second.0, long))
way-shorter true true word from to place len way within by = absurd (cc)
