-- Cutting a text at each space and tab, and reading a decimal.
use Rattle.std.proofs.Common.{◌≡◌, ◌≢◌, ◌∙◌, refl, sym, ap, subst, ℕ, ◌+◌, ◌<◌, ◌≤◌, ◌&&◌, ◌^◌}
use Rattle.std.proofs.Common.{Bool, true, false, cond, List, [], ◌∷◌, ◌++◌, length, drop, take}
use Rattle.std.proofs.Common.{Option, None, Some, Result, Ok, Err, arith, get_or, nat_lt}
use Rattle.std.proofs.Common.{if◌then◌else◌}
use mathlib.Core.Logic.{⊎_elim}
use Rattle.std.proofs.lemmas.Bool.{cases_lt, lt-ltb, ltb-true}
use Rattle.std.specs.List.{All, slice_split}
use Rattle.std.specs.Result.{result_ok}
use Rattle.std.specs.Str.{NoCharPasses, all_ascii_digits}
use Rattle.std.specs.Str.Iter.{split_steps, split_text, split_has_more, split_pattern}
use Rattle.std.specs.Str.Parse.{ParsesUnsigned, digits_value}
use Rattle.std.specs.Str.Pattern.{FindsBy, IsSplitAtFirstMatch}
use Rattle.std.specs.Char.{char_set_contains}
use Rattle.std.proofs.lemmas.Bool.Decides.{nat_tests}
use Rattle.std.proofs.lemmas.Grind.{common_steps}
use Rattle.std.proofs.lemmas.Iterator.{YieldsList}
use Rattle.std.proofs.lemmas.Iterator.Splits.{YieldsList-from_shown_while}
use Rattle.std.proofs.lemmas.List.{take-append-drop}
use Rattle.std.proofs.lemmas.List.Splits.{slice_split_at, slice_split_none}
use Rattle.std.proofs.lemmas.Str.{NoCharPasses-byte, len_utf8_ascii}
use Rattle.std.proofs.lemmas.Str.Parse.{IsNumeralModel, numerals_by_value, tells_all_ascii_digits}
use Rattle.std.proofs.lemmas.Str.Parse.{parse_plain}
use Rattle.std.proofs.lemmas.Str.Pattern.{drop_at_char}
use Rattle.text_lines.specs.Fields.{is_blank, has_bytes, decimal_of}

blank_is_ascii : (c : ℕ) → is_blank c ≡ true → c < 128
blank_is_ascii c h = grind (arith, nat_tests)

high_is_not_blank : (c : ℕ) → 128 ≤ c → is_blank c ≡ false
high_is_not_blank c h = grind (arith, nat_tests)

index_any : (bs : List ℕ) (k d : ℕ) → k < length bs → get_or bs k d ≡ get_or bs k 0
index_any bs k d l = grind (arith, common_steps)

-- where no character of a text is blank, no byte is
lacks_blank : (bs : List ℕ) → NoCharPasses is_blank bs → All (λ b. is_blank b ≡ false) bs
lacks_blank bs h = λ k d l.
    ap is_blank (index_any bs k d l) ∙ ⊎_elim (λ low. NoCharPasses-byte is_blank bs k h l low)
    (λ high. high_is_not_blank (get_or bs k 0) high) (cases_lt (get_or bs k 0) 128)

-- the piece up to the first blank character comes first
piece : (w x rest : List ℕ) (more : Bool) → IsSplitAtFirstMatch (FindsBy is_blank) w x more rest
    → slice_split is_blank w ≡ x ∷ cond more (slice_split is_blank rest) []
piece w x rest more (fits, (None, found, cut)) =
    slice_split_none is_blank w (lacks_blank w found)
    ∙ (λ i. sym cut.0 i ∷ cond (sym cut.1 i) (slice_split is_blank rest) [])
piece w x rest more (fits, (Some (i, j), (before, (c, blank, at)), cut)) =
    let low : c < 128 = blank_is_ascii c blank in
    let long = len_utf8_ascii c low in
    let ends : j ≡ i + 1 = at.ends ∙ ap (λ n. i + n) long in
    let parts = cut (omega arith) in
    let whole : w ≡ take i w ++ c ∷ drop j w = sym (take-append-drop i w)
    ∙ ap (λ after. take i w ++ after) (drop_at_char c w i j at low) in
    ap (slice_split is_blank) whole
    ∙ slice_split_at is_blank (take i w) c (drop j w) (lacks_blank (take i w) before) blank
    ∙ (λ k. sym parts.0 k ∷ cond (sym parts.1 k) (slice_split is_blank (sym parts.2 k)) [])

-- the pieces of a text that is cut at a pattern which finds blank characters; `matches` is the
-- pattern's `matches_by`
pub yields_pieces : {P : Type 0} (matches : P → (ℕ → Bool) → Type 0) {s : _} (bs : List ℕ)
    → split_text s ≡ bs → split_has_more s ≡ true → matches (split_pattern s) is_blank
    → YieldsList
    (split_steps (λ p w r. (k : ℕ → Bool) → matches p k → FindsBy k w r)
    (λ p q. (k : ℕ → Bool) → matches p k → matches q k)) (λ x. x.now) s
    (slice_split is_blank bs)
yields_pieces {P} matches {s} bs text more pattern =
    let finds =
    λ (p : P) (w : List ℕ) (r : Option (ℕ × ℕ)). (k : ℕ → Bool) → matches p k
    → FindsBy k w r in
    let keeps = λ (p : P) (q : P). (k : ℕ → Bool) → matches p k → matches q k in
    let pieces = slice_split is_blank in
    let shown = λ (t : _). cond (split_has_more t) (pieces (split_text t)) [] in
    subst (YieldsList (split_steps finds keeps) (λ x. x.now) s)
    (λ i. cond (more i) (pieces (text i)) [])
    (YieldsList-from_shown_while (split_steps finds keeps) (λ x. x.now) shown
    (λ t. matches (split_pattern t) is_blank)
    (λ t u h k. ap (λ b. length (cond b (pieces (split_text t)) [])) (sym k.0))
    (λ t x u h k. (
      k.1.0 is_blank h,
      ap (λ b. cond b (pieces (split_text t)) []) (sym k.0)
          ∙ piece (split_text t) x.now (split_text u) (split_has_more u)
          (k.1.1.0, (k.1.1.1.0, k.1.1.1.1 is_blank h, k.1.1.1.2)),
    ))
    s pattern)

-- the pattern of a space and a tab finds blank characters
pub blank_pattern : (c : ℕ) → char_set_contains (32 ∷ 9 ∷ []) c ≡ is_blank c
blank_pattern c = grind (arith, nat_tests)

own : IsNumeralModel (λ ds. all_ascii_digits ds ≡ true) (digits_value 10)
own = numerals_by_value _ tells_all_ascii_digits

some_bytes : (bs : List ℕ) → 0 < length bs → has_bytes bs ≡ true
some_bytes bs h = grind (arith, nat_tests)

bytes_some : (bs : List ℕ) → has_bytes bs ≡ true → 0 < length bs
bytes_some bs h = grind (arith, nat_tests)

chosen : (some digits small : Bool) (n : ℕ) → digits ≡ true → some ≡ true → small ≡ true
    → Some n ≡ (if (some && digits) && small then Some n else None)
chosen true true true n d s l = refl
chosen false digits small n d s l = absurd (cc)
chosen true false small n d s l = absurd (cc)
chosen true true false n d s l = absurd (cc)

refused : (some digits small : Bool) (n : ℕ) → (digits ≡ true → some ≡ true → small ≡ true → ⊥)
    → None ≡ (if (some && digits) && small then Some n else None)
refused true true true n h = absurd (h refl refl refl)
refused false digits small n h = refl
refused true false small n h = refl
refused true true false n h = refl

-- what `parse` gives of a text that begins with no plus
pub parses_decimal : {E : Type 0} (bs : List ℕ) (r : Result ℕ E) → ParsesUnsigned 64 10 bs r
    → get_or bs 0 0 ≢ 43 → result_ok r ≡ decimal_of bs
unfolding decimal_of
parses_decimal {E} bs (Ok x) h plain =
    let k = parse_plain own {E = E} 64 bs (Ok x) h plain in
    ap Some k.1 ∙ chosen (has_bytes bs) (all_ascii_digits bs) (nat_lt (digits_value 10 bs) (2 ^ 64))
    (digits_value 10 bs) k.0.0 (some_bytes bs k.0.1) (lt-ltb _ _ k.0.2)
parses_decimal {E} bs (Err e) h plain =
    let k = parse_plain own {E = E} 64 bs (Err e) h plain in
    refused (has_bytes bs) (all_ascii_digits bs) (nat_lt (digits_value 10 bs) (2 ^ 64))
    (digits_value 10 bs) (λ d s l. k (d, bytes_some bs s, ltb-true _ _ l))

-- a text that begins with a plus is no decimal
pub plus_is_no_decimal : (bs : List ℕ) → get_or bs 0 0 ≡ 43 → None ≡ decimal_of bs
unfolding decimal_of
plus_is_no_decimal [] h = refl
plus_is_no_decimal (b ∷ bs) h = subst (λ c. None ≡ decimal_of (c ∷ bs)) (sym h)
    (refused (has_bytes (43 ∷ bs)) (all_ascii_digits (43 ∷ bs))
    (nat_lt (digits_value 10 (43 ∷ bs)) (2 ^ 64)) (digits_value 10 (43 ∷ bs))
    (λ d s l. absurd (cc)))
