-- Cutting a text at its spaces, and the numbers that words write.
use Rattle.std.proofs.Common.{◌≡◌, ◌∙◌, refl, sym, subst, ℕ, ◌<◌, ◌≤◌, ◌&&◌, ◌^◌, Bool, true, false}
use Rattle.std.proofs.Common.{List, [], ◌∷◌, length, Option, Some, None, Bor, arith, lit<, nat_lt}
use Rattle.std.proofs.Common.{if◌then◌else◌}
use Rattle.std.specs.Prelude.{nat_le, unwrap_or}
use Rattle.std.specs.List.{position_or_len, before_first, after_first}
use Rattle.std.specs.Str.{all_ascii_digits}
use Rattle.std.specs.Str.Parse.{digits_value}
use Rattle.std.proofs.lemmas.Bool.{lt-ltb, le-leb, leb-true}
use Rattle.std.proofs.lemmas.Bool.Decides.{nat_tests}
use Rattle.std.proofs.lemmas.List.Splits.{slice_split_first, slice_split_none}
use Rattle.std.proofs.lemmas.List.Splits.{join_with_byte-slice_split}
use Rattle.std.proofs.lemmas.List.Sums.{fails_before_first}
use Rattle.std.proofs.lemmas.Option.{MatchOption-at_some, MatchOption-at_none}
use Rattle.std.proofs.lemmas.Str.Parse.{IsNumeralModel, numerals_by_value, tells_all_ascii_digits}
use Rattle.std.proofs.lemmas.Str.Parse.{digits_value_short}
use Rattle.std.proofs.lemmas.Str.Pattern.{IsSplitOnceResult, split_once_first}
use Rattle.mark_types.specs.text_lines.Fields.{is_decimal, decimal_of}
use Rattle.console_lang.specs.Words.{is_space, words_between_spaces, text_of_words, number_of}
use Rattle.console_lang.specs.Handed.{words_in}

-- what `split_once` tells of a text with a space
pub cut_at : (text : List ℕ) (r : Option (Bor (List ℕ) × Bor (List ℕ))) (word behind : Bor (List ℕ))
    → IsSplitOnceResult 32 text r → r ≡ Some (word, behind)
    → words_between_spaces text ≡ word.now ∷ words_between_spaces behind.now
cut_at text r word behind is at =
    let parts = MatchOption-at_some (position_or_len is_space text ≡ length text)
    (λ x. (position_or_len is_space text < length text) × (x.0.now ≡ before_first is_space text)
    × (x.1.now ≡ after_first is_space text))
    (word, behind) at (split_once_first 32 text r is (lit< tt)) in
    slice_split_first is_space text 0 parts.0 ∙ (λ i. sym parts.1 i ∷ words_between_spaces (sym parts.2 i))

-- a text in which no space is found is one word
pub uncut : (text : List ℕ) (r : Option (Bor (List ℕ) × Bor (List ℕ))) → IsSplitOnceResult 32 text r
    → r ≡ None → words_between_spaces text ≡ text ∷ []
uncut text r is at =
    let whole = MatchOption-at_none (position_or_len is_space text ≡ length text)
    (λ x. (position_or_len is_space text < length text) × (x.0.now ≡ before_first is_space text)
    × (x.1.now ≡ after_first is_space text))
    at (split_once_first 32 text r is (lit< tt)) in
    slice_split_none is_space text
    (λ k d l. fails_before_first is_space text k d (subst (λ n. k < n) (sym whole) l))

-- the text of the words that are left is what is left of the line
pub text_left : (rest : Option (Bor (List ℕ))) (empty : Bor (List ℕ)) → empty.now ≡ []
    → (unwrap_or rest empty).now ≡ text_of_words (words_in rest)
text_left None empty none = none
text_left (Some text) empty none = sym (join_with_byte-slice_split 32 text.now)

own : IsNumeralModel (λ ds. all_ascii_digits ds ≡ true) (digits_value 10)
own = numerals_by_value _ tells_all_ascii_digits

pub digits_of : (word : List ℕ) → is_decimal word ≡ true → all_ascii_digits word ≡ true
digits_of word is = grind (arith, nat_tests)

below : (word : List ℕ) → length word ≤ 9 → is_decimal word ≡ true → digits_value 10 word < 10 ^ 9
below word short is = digits_value_short own word 9 (digits_of word is) short

alike : (decimal small short : Bool) (n : ℕ) → short ≡ true → (decimal ≡ true → small ≡ true)
    → (if decimal && small then Some n else None) ≡ (if decimal && short then Some n else None)
alike true true true n is fits = refl
alike true false true n is fits = absurd (cc (fits refl))
alike false small true n is fits = refl
alike decimal small false n is fits = absurd (cc)

-- of a word that is short enough the decimal is the number
pub short_number : (word : List ℕ) → length word ≤ 9 → decimal_of word ≡ number_of word
unfolding decimal_of number_of
short_number word short =
    alike (is_decimal word) (nat_lt (digits_value 10 word) (2 ^ 64)) (nat_le (length word) 9)
    (digits_value 10 word) (le-leb _ _ short)
    (λ is. lt-ltb _ _ (omega (arith, below word short is)))

none_long : (decimal short : Bool) (n : ℕ) → short ≡ false
    → (if decimal && short then Some n else None) ≡ None
none_long true false n is = refl
none_long false short n is = refl
none_long true true n is = absurd (cc)

-- a word that is too long writes none
pub long_word : (word : List ℕ) → 9 < length word → number_of word ≡ None
unfolding number_of
long_word word long =
    none_long (is_decimal word) (nat_le (length word) 9) (digits_value 10 word)
    (grind (arith, nat_tests))

pub value_of : (decimal short : Bool) (n value : ℕ) → (if decimal && short then Some n else None)
    ≡ Some value → (decimal ≡ true) × (short ≡ true) × (n ≡ value)
value_of true true n value is = (refl, refl, cc)
value_of true false n value is = absurd (cc)
value_of false short n value is = absurd (cc)

-- a number of nine digits fits 32 bits
pub small_number : (word : List ℕ) (value : ℕ) → number_of word ≡ Some value → value < 2 ^ 32
unfolding number_of
small_number word value is =
    let parts =
    value_of (is_decimal word) (nat_le (length word) 9) (digits_value 10 word) value is in
    omega (arith, below word (leb-true _ _ parts.1) parts.0, parts.2)
