-- The words that a word covers, as a list and as a rule.
use Rattle.std.proofs.Common.{◌≡◌, ◌≢◌, ◌↔◌, ℕ, Bool, true, false, not, cond, ◌||◌, ◌⊎◌, inl, inr}
use Rattle.std.proofs.Common.{List, [], ◌∷◌, ◌++◌, filter, AllPairs, IsTrue, Some, slice_get, refl}
use Rattle.std.proofs.Common.{sym, ap, ◌∙◌, arith}
use Rattle.std.proofs.lemmas.Bool.{false≢true, or_right, or_left, or_cases}
use Rattle.std.proofs.lemmas.List.Folds.{list_any-append}
use Rattle.std.proofs.lemmas.List.Elements.{filter_passes}
use Rattle.std.proofs.lemmas.List.Kept.{AllPairs-cons, AllPairs-filter}
use Rattle.std.proofs.lemmas.Slice.Eq.{bytes_eq-Decides}
use Rattle.spell_types.specs.Cases.{begins_upper, has_lower, first_lowered, all_lowered}
use Rattle.spell_types.specs.Cases.{rest_lowered, is_same_word, is_among, without_repeats}
use Rattle.spell_types.specs.Cases.{covered_by, spellings_of_capital, spellings_of_capitals}
use Rattle.spell_types.specs.Cases.{spellings_of_sharps, sharp_lowered, sharp_kept}
use Rattle.spell_types.specs.Cases.{IsOne, Covers}
use Rattle.letter_case.proofs.Repeats.{same-≡}
use Rattle.spell_types.specs.declared.limits.TheConstants.{MOST_PAIRS}

pub ≡-same : (word other : List ℕ) → word ≡ other → is_same_word word other ≡ true
≡-same word other same = (bytes_eq-Decides word other).1 same

-- leaving out the words like one word takes no other one away
among-filter : (word other : List ℕ) → is_same_word word other ≡ false → (words : List (List ℕ))
    → is_among (filter (λ w. not (is_same_word word w)) words) other ≡ is_among words other
among-filter word other differs [] = refl
among-filter word other differs (w ∷ words) =
    let rest = among-filter word other differs words in
    elim (is_same_word word w) as
    (λ b. is_same_word word w ≡ b
    → is_among (cond (not b) (w ∷ filter (λ w. not (is_same_word word w)) words)
    (filter (λ w. not (is_same_word word w))
    words)) other ≡ (is_same_word w other || is_among words other)) [
      | true ↦ λ same. rest
          ∙ sym (ap (λ b. b || is_among words other)
          (sym (ap (λ v. is_same_word v other) (same-≡ word w same)) ∙ differs))
      | false ↦ λ _. ap (λ b. is_same_word w other || b) rest
    ] refl

-- a list holds the same words without its repeats
pub among-without_repeats : (words : List (List ℕ)) (other : List ℕ)
    → is_among (without_repeats words) other ≡ is_among words other
among-without_repeats [] other = refl
among-without_repeats (word ∷ words) other =
    elim (is_same_word word other) as
    (λ b. is_same_word word other ≡ b
    → (b || is_among (filter (λ w. not (is_same_word word w)) (without_repeats words)) other) ≡
    (b || is_among words other)) [
      | true ↦ λ _. refl
      | false ↦ λ differs. among-filter word other differs (without_repeats words)
          ∙ among-without_repeats words other
    ] refl

differs_from : (word other : List ℕ) → not (is_same_word word other) ≡ true → word ≢ other
differs_from word other differs same = false≢true (sym (ap not (≡-same word other same)) ∙ differs)

-- without repeats no two words are the same
pub once-without_repeats : (words : List (List ℕ))
    → AllPairs (λ one other. one ≢ other) (without_repeats words)
once-without_repeats [] = λ i j d below within. absurd (omega arith)
once-without_repeats (word ∷ words) =
    let kept = λ (w : List ℕ). not (is_same_word word w) in
    AllPairs-cons (λ one other. one ≢ other) word (filter kept (without_repeats words))
    (λ k d within. differs_from word _ (filter_passes kept (without_repeats words) k d within))
    (AllPairs-filter (λ one other. one ≢ other) kept (without_repeats words)
    (once-without_repeats words))

lone : (word other : List ℕ) → is_among (word ∷ []) other ≡ true → other ≡ word
lone word other among =
    elim (or_cases (is_same_word word other) false among) [
      | inl same ↦ sym (same-≡ word other same)
      | inr never ↦ absurd (false≢true never)
    ]

abbrev AsCapital : List ℕ → List ℕ → Type 0
AsCapital written word = IsTrue (begins_upper written) × (word ≡ first_lowered written)

abbrev AsCapitals : List ℕ → List ℕ → Type 0
AsCapitals written word =
    IsTrue (not (has_lower written)) ×
    ((word ≡ all_lowered written) ⊎ (word ≡ rest_lowered written))

from_capital : (written word : List ℕ) (b : Bool) → begins_upper written ≡ b
    → is_among (cond b (first_lowered written ∷ []) []) word ≡ true → AsCapital written word
from_capital written word true upper among = (upper, lone (first_lowered written) word among)
from_capital written word false upper among = absurd (false≢true among)

to_capital : (written word : List ℕ) (b : Bool) → begins_upper written ≡ b → AsCapital written word
    → is_among (cond b (first_lowered written ∷ []) []) word ≡ true
to_capital written word true upper rule =
    or_left _ false (≡-same (first_lowered written) word (sym rule.1))
to_capital written word false upper rule = absurd (false≢true (sym upper ∙ rule.0))

from_capitals : (written word : List ℕ) (b : Bool) → has_lower written ≡ b
    → is_among (cond b [] (all_lowered written ∷ rest_lowered written ∷ [])) word ≡ true
    → AsCapitals written word
from_capitals written word true lower among = absurd (false≢true among)
from_capitals written word false lower among = (
  ap not lower,
  elim (or_cases (is_same_word (all_lowered written) word) _ among) [
    | inl same ↦ inl (sym (same-≡ (all_lowered written) word same))
    | inr more ↦ inr (lone (rest_lowered written) word more)
  ],
)

to_capitals : (written word : List ℕ) (b : Bool) → has_lower written ≡ b → AsCapitals written word
    → is_among (cond b [] (all_lowered written ∷ rest_lowered written ∷ [])) word ≡ true
to_capitals written word true lower rule = absurd (false≢true (sym (ap not lower) ∙ rule.0))
to_capitals written word false lower rule =
    elim rule.1 [
      | inl all ↦ or_left _ _ (≡-same (all_lowered written) word (sym all))
      | inr rest ↦ or_right _ _ (or_left _ false (≡-same (rest_lowered written) word (sym rest)))
    ]

abbrev AsSharps : Bool → List ℕ → List ℕ → Type 0
AsSharps sharps written word =
    IsTrue sharps × (IsTrue (not (has_lower written))
    × (IsOne (sharp_lowered MOST_PAIRS written) word ⊎ IsOne (sharp_kept MOST_PAIRS written) word))

module _ (written word : List ℕ) where
  abbrev both : List (List ℕ)
  both = sharp_lowered MOST_PAIRS written ++ sharp_kept MOST_PAIRS written

  from_sharps : (sharps b : Bool) → has_lower written ≡ b
      → is_among (cond b [] (cond sharps both [])) word ≡ true → AsSharps sharps written word
  from_sharps sharps true lower among = absurd (false≢true among)
  from_sharps false false lower among = absurd (false≢true among)
  from_sharps true false lower among = (
    refl,
    (
      ap not lower,
      or_cases (is_among (sharp_lowered MOST_PAIRS written) word)
          (is_among (sharp_kept MOST_PAIRS written) word)
          (sym (list_any-append (λ other. is_same_word other word)
          (sharp_lowered MOST_PAIRS written)
          (sharp_kept MOST_PAIRS written)) ∙ among),
    ),
  )

  to_sharps : (sharps b : Bool) → has_lower written ≡ b → AsSharps sharps written word
      → is_among (cond b [] (cond sharps both [])) word ≡ true
  to_sharps sharps true lower rule = absurd (false≢true (sym (ap not lower) ∙ rule.1.0))
  to_sharps false false lower rule = absurd (false≢true rule.0)
  to_sharps true false lower rule =
      list_any-append (λ other. is_same_word other word) (sharp_lowered MOST_PAIRS written)
      (sharp_kept MOST_PAIRS written) ∙ either rule.1.1
    where
      either : IsOne (sharp_lowered MOST_PAIRS written) word
          ⊎ IsOne (sharp_kept MOST_PAIRS written) word
          → (is_among (sharp_lowered MOST_PAIRS written) word || is_among
          (sharp_kept MOST_PAIRS written) word) ≡ true
      either (inl one) = or_left _ _ one
      either (inr two) = or_right _ _ two

among-covered_by : (sharps : Bool) (written word : List ℕ)
    → is_among (covered_by sharps written) word
    ≡ (is_same_word written word ||
    (is_among (spellings_of_capital written) word ||
    (is_among (spellings_of_capitals written) word || is_among
    (spellings_of_sharps sharps written) word)))
unfolding covered_by
among-covered_by sharps written word =
    among-without_repeats
    (written ∷ (spellings_of_capital written ++
    (spellings_of_capitals written ++ spellings_of_sharps sharps written))) word
    ∙ ap (λ b. is_same_word written word || b)
    (list_any-append (λ other. is_same_word other word) (spellings_of_capital written)
    (spellings_of_capitals written ++ spellings_of_sharps sharps written))
    ∙ ap (λ b. is_same_word written word || (is_among (spellings_of_capital written) word || b))
    (list_any-append (λ other. is_same_word other word) (spellings_of_capitals written)
    (spellings_of_sharps sharps written))

-- the words in the list are those that the rule names
pub covered-members : (sharps : Bool) (written word : List ℕ)
    → IsTrue (is_among (covered_by sharps written) word) ↔ Covers sharps written word
covered-members sharps written word = (
  λ among. there
      (or_cases same (one || (two || three)) (sym (among-covered_by sharps written word) ∙ among)),
  λ rule. among-covered_by sharps written word ∙ back rule,
)
  where
    same : Bool
    same = is_same_word written word

    one : Bool
    one = is_among (spellings_of_capital written) word

    two : Bool
    two = is_among (spellings_of_capitals written) word

    three : Bool
    three = is_among (spellings_of_sharps sharps written) word

    third : (two ≡ true) ⊎ (three ≡ true) → AsCapitals written word ⊎ AsSharps sharps written word
    third (inl is) = inl (from_capitals written word (has_lower written) refl is)
    third (inr is) = inr (from_sharps written word sharps (has_lower written) refl is)

    second : (one ≡ true) ⊎ ((two || three) ≡ true)
        → AsCapital written word ⊎ (AsCapitals written word ⊎ AsSharps sharps written word)
    second (inl is) = inl (from_capital written word (begins_upper written) refl is)
    second (inr is) = inr (third (or_cases two three is))

    there : (same ≡ true) ⊎ ((one || (two || three)) ≡ true) → Covers sharps written word
    there (inl is) = inl (sym (same-≡ written word is))
    there (inr is) = inr (second (or_cases one (two || three) is))

    back : Covers sharps written word → (same || (one || (two || three))) ≡ true
    back (inl is) = or_left same (one || (two || three)) (≡-same written word (sym is))
    back (inr (inl is)) =
        or_right same (one || (two || three))
        (or_left one (two || three) (to_capital written word (begins_upper written) refl is))
    back (inr (inr (inl is))) =
        or_right same (one || (two || three))
        (or_right one (two || three)
        (or_left two three (to_capitals written word (has_lower written) refl is)))
    back (inr (inr (inr is))) =
        or_right same (one || (two || three))
        (or_right one (two || three)
        (or_right two three (to_sharps written word sharps (has_lower written) refl is)))

pub covered-first : (sharps : Bool) (written : List ℕ)
    → slice_get (covered_by sharps written) 0 ≡ Some written
unfolding covered_by
covered-first sharps written = refl

pub covered-once : (sharps : Bool) (written : List ℕ)
    → AllPairs (λ one other. one ≢ other) (covered_by sharps written)
unfolding covered_by
covered-once sharps written =
    once-without_repeats
    (written ∷ (spellings_of_capital written ++
    (spellings_of_capitals written ++ spellings_of_sharps sharps written)))
