-- What a judge's answer for a piece says of it, and which pieces a way leaves.
use Rattle.std.proofs.Common.{◌≡◌, sym, ap, ◌∙◌, arith, ℕ, ◌+◌, ◌-◌, ◌≤◌, Bool, true, false, not}
use Rattle.std.proofs.Common.{◌&&◌, ◌||◌, List, length, take, drop, nat_lt, Result, Ok, Err, IfOk}
use Rattle.std.proofs.Common.{take_all}
use Rattle.std.specs.Prelude.{slice_range}
use Rattle.std.specs.List.{list_any}
use Rattle.std.proofs.lemmas.Bool.{cases_lt, false≢true, and_parts, ltb-true}
use Rattle.std.proofs.lemmas.List.{length-take, drop-take, drop-drop, drop_all, take-take}
use Rattle.spell_types.specs.declared.breaks.Anchored.{Anchored}
use Rattle.break_points.specs.declared.Judged.{Judged}
use Rattle.break_points.specs.declared.Judged.TheVariants.{Base, Other, Barred}
use Rattle.break_points.specs.declared.table.Stretch.{Stretch}
use Rattle.break_points.specs.declared.ways.Way.{Way}
use Rattle.break_points.specs.declared.ways.Way.TheVariants.{Between}
use Rattle.break_points.specs.Judging.{is_judged_base, is_judged_barred, is_base_by, is_barred_by}
use Rattle.break_points.specs.Pieces.{all_left, is_shorter, is_broken_as_judged, ways_of}
use Rattle.break_points.proofs.Breaking.{⊎_else, broken-by_ways}

pub ok_weaker : {E : Type 0} (r : Result Bool E) (P Q : Bool → Type 0)
    → ((answer : Bool) → P answer → Q answer) → IfOk r P → IfOk r Q
ok_weaker (Ok answer) P Q h p = h answer p
ok_weaker (Err e) P Q h p = tt

-- the answer, once the judge has answered
by_answer : (judged : List ℕ → Judged) (breaks : List Anchored) (word : List ℕ) (verdict : Judged)
    → verdict ≡ judged word
    → is_broken_as_judged judged breaks word
    ≡ (is_judged_base verdict
    || (not (is_judged_barred verdict) && list_any (all_left (is_broken_as_judged judged breaks) word)
    (ways_of breaks word)))
by_answer judged breaks word verdict e =
    broken-by_ways (is_base_by judged) (is_barred_by judged) breaks word
    ∙ ap (λ v. is_judged_base v
    || (not (is_judged_barred v) && list_any (all_left (is_broken_as_judged judged breaks) word)
    (ways_of breaks word))) (sym e)

pub base_decided : (judged : List ℕ → Judged) (breaks : List Anchored) (word : List ℕ)
    (verdict : Judged) → verdict ≡ judged word → verdict ≡ Base
    → true ≡ is_broken_as_judged judged breaks word
base_decided judged breaks word verdict e is = sym (by_answer judged breaks word Base (sym is ∙ e))

pub barred_decided : (judged : List ℕ → Judged) (breaks : List Anchored) (word : List ℕ)
    (verdict : Judged) → verdict ≡ judged word → verdict ≡ Barred
    → false ≡ is_broken_as_judged judged breaks word
barred_decided judged breaks word verdict e is =
    sym (by_answer judged breaks word Barred (sym is ∙ e))

-- the ways decide a piece that may be broken
pub parts_decided : (judged : List ℕ → Judged) (breaks : List Anchored) (word : List ℕ)
    (verdict : Judged) (answer : Bool) → verdict ≡ judged word → verdict ≡ Other
    → answer ≡ list_any (all_left (is_broken_as_judged judged breaks) word) (ways_of breaks word)
    → answer ≡ is_broken_as_judged judged breaks word
parts_decided judged breaks word verdict answer e is says =
    says ∙ sym (by_answer judged breaks word Other (sym is ∙ e))

-- the last characters of a piece
behind_at : (word : List ℕ) (from to start : ℕ) → slice_range word (from + start) to
    ≡ drop start (slice_range word from to)
behind_at word from to start =
    ⊎_else
    (λ some. let same : start + (to - (from + start)) ≡ to - from = omega (arith, some) in
    ap (take (to - (from + start))) (sym (drop-drop start from word))
    ∙ sym (drop-take start (to - (from + start)) (drop from word))
    ∙ ap (λ n. drop start (take n (drop from word))) same)
    (λ none. let nothing : to - (from + start) ≡ 0 = omega (arith, none) in
    ap (λ n. take n (drop (from + start) word)) nothing
    ∙ sym (drop_all start (take (to - from) (drop from word))
    (omega (arith, none, length-take (to - from) (drop from word)))))
    (cases_lt start (to - from))

pub behind_same : (word : List ℕ) (piece rest : Stretch) (start : ℕ)
    → rest.from ≡ piece.from + start → rest.to ≡ piece.to → slice_range word rest.from rest.to
    ≡ drop start (slice_range word piece.from piece.to)
behind_same word piece rest start from to =
    ap (λ n. slice_range word n rest.to) from ∙ ap (λ n. slice_range word (piece.from + start) n) to
    ∙ behind_at word piece.from piece.to start

-- its first characters
before_at : (word : List ℕ) (from to end : ℕ) → end ≤ to - from → slice_range word from (from + end)
    ≡ take end (slice_range word from to)
before_at word from to end le =
    let same : from + end - from ≡ end = omega arith in
    ap (λ n. take n (drop from word)) same ∙ sym (take-take end (to - from) (drop from word) le)

pub before_same : (word : List ℕ) (piece front : Stretch) (end : ℕ)
    → end ≤ length (slice_range word piece.from piece.to) → front.from ≡ piece.from
    → front.to ≡ piece.from + end → slice_range word front.from front.to
    ≡ take end (slice_range word piece.from piece.to)
before_same word piece front end le from to =
    ap (λ n. slice_range word n front.to) from ∙ ap (λ n. slice_range word piece.from n) to
    ∙ before_at word piece.from piece.to end
    (omega (arith, le, length-take (piece.to - piece.from) (drop piece.from word)))

pub front_within : (piece : List ℕ) (way : Way) (end start : ℕ) → way ≡ Between end start
    → is_shorter piece way ≡ true → end ≤ length piece
front_within piece way end start is less =
    let both = and_parts (nat_lt end (length piece)) _ (ap (is_shorter piece) (sym is) ∙ less) in
    omega (arith, ltb-true end (length piece) both.0)

pub both_decided : (front rest a b : Bool) → a ≡ front → b ≡ rest → a ≡ true → b ≡ (front && rest)
both_decided true rest a b is_a is_b holds = is_b
both_decided false rest a b is_a is_b holds = absurd (false≢true (sym is_a ∙ holds))

pub whole_word : (word : List ℕ) (piece : Stretch) → piece.from ≡ 0 → piece.to ≡ length word
    → slice_range word piece.from piece.to ≡ word
whole_word word piece from to =
    ap (λ n. slice_range word n piece.to) from ∙ ap (λ n. take (n - 0) (drop 0 word)) to
    ∙ take_all (length word - 0) word (omega arith)
