-- The ends of a word are those of each text that ends it.
use Rattle.std.proofs.Common.{◌≡◌, ◌∙◌, ◌⊎◌, inl, inr, refl, sym, ap, ap₂, ℕ, zero, suc, ◌+◌, ◌-◌}
use Rattle.std.proofs.Common.{◌<◌, ◌≤◌, Bool, true, false, true≢false, List, length, take, drop}
use Rattle.std.proofs.Common.{get_or, length-take, length-drop, nat_eq, arith}
use Rattle.std.specs.List.{starts_with, ends_with}
use Rattle.std.proofs.lemmas.Bool.{cases_lt}
use Rattle.std.proofs.lemmas.List.{get_or-take, get_or-drop}
use Rattle.std.proofs.lemmas.Slice.Eq.{bytes_eq-Decides}
use Rattle.key_filter.specs.declared.KeyFilter.{KeyFilter}
use Rattle.key_filter.specs.Filter.{may_have}
use Rattle.spell_types.specs.declared.rules.Side.{Side}
use Rattle.spell_types.specs.declared.rules.Side.TheVariants.{Prefix, Suffix}
use Rattle.affix_tables.specs.Ends.{char_at, key_with, key_at, HasEnds, KeepsKeys}
use Rattle.affix_tables.specs.declared.TheConstants.{START}

-- whether the text stands at the side's end of the word
abbrev pub has_at : Side → List ℕ → List ℕ → Bool
has_at Prefix word text = starts_with nat_eq word text
has_at Suffix word text = ends_with nat_eq word text

pub key-none : (side : Side) (text : List ℕ) → START ≡ key_at side text 0
unfolding key_at
key-none side text = refl

pub key-more : (side : Side) (text : List ℕ) (count : ℕ)
    → key_at side text (count + 1) ≡ key_with (key_at side text count) (char_at side text count)
unfolding key_at
key-more side text count =
    let one : count + 1 ≡ suc count = omega arith in
    ap (key_at side text) one

pub key-next : (side : Side) (text : List ℕ) (count key c next : ℕ) → key ≡ key_at side text count
    → c ≡ char_at side text count → next ≡ key_with key c → next ≡ key_at side text (count + 1)
key-next side text count key c next before at is =
    is ∙ ap₂ key_with before at ∙ sym (key-more side text count)

is-cut : (side : Side) (word text : List ℕ) → has_at side word text ≡ true
    → length text ≤ length word
is-cut Prefix word text has =
    omega (
      arith,
      ap length ((bytes_eq-Decides text (take (length text) word)).0 has),
      length-take (length text) word,
    )
is-cut Suffix word text has =
    omega (
      arith,
      ap length ((bytes_eq-Decides text (drop (length word - length text) word)).0 has),
      length-drop (length word - length text) word,
    )

same-char : (side : Side) (word text : List ℕ) (number : ℕ) → has_at side word text ≡ true
    → number < length text → char_at side text number ≡ char_at side word number
same-char Prefix word text number has within =
    ap (λ t. get_or t number 0) ((bytes_eq-Decides text (take (length text) word)).0 has)
    ∙ get_or-take (length text) word number 0 within
same-char Suffix word text number has within =
    let fits : length text ≤ length word = is-cut Suffix word text has in
    let place : (length word - length text) + (length text - (number + 1))
    ≡ length word - (number + 1) = omega (arith, fits, within) in
    ap (λ t. get_or t (length text - (number + 1)) 0)
    ((bytes_eq-Decides text (drop (length word - length text) word)).0 has)
    ∙ get_or-drop (length word - length text) word (length text - (number + 1)) 0
    ∙ ap (λ i. get_or word i 0) place

same-key : (side : Side) (word text : List ℕ) (count : ℕ) → has_at side word text ≡ true
    → count ≤ length text → key_at side text count ≡ key_at side word count
unfolding key_at
same-key side word text zero has within = refl
same-key side word text (suc count) has within =
    ap₂ key_with (same-key side word text count has (omega (arith, within)))
    (same-char side word text count has (omega (arith, within)))

-- where a word's end has no key, no text that ends the word goes on
pub reached : (side : Side) (ends : KeyFilter) (word text : List ℕ) (count : ℕ)
    → (count < length word → may_have ends (key_at side word (count + 1)) ≡ false)
    → HasEnds side text ends → has_at side word text ≡ true → length text ≤ count
reached side ends word text count over all has = by (cases_lt count (length text))
  where
    by : (count < length text) ⊎ (length text ≤ count) → length text ≤ count
    by (inl longer) =
        let fits : length text ≤ length word = is-cut side word text has in
        let here : may_have ends (key_at side text (count + 1)) ≡ true =
        all (count + 1) (omega arith) (omega (arith, longer)) in
        absurd (true≢false
        (sym here ∙ ap (may_have ends)
        (same-key side word text (count + 1) has (omega (arith, longer)))
        ∙ over (omega (arith, longer, fits))))
    by (inr within) = within

-- ---- the keys of a text, one after another
pub record AreAdded (side : Side) (text : List ℕ) (count key : ℕ) (before now : KeyFilter) : Type
    0 where
  pub key_is : key ≡ key_at side text count
  pub has : (shorter : ℕ) → 0 < shorter → shorter ≤ count → may_have now (key_at side text shorter)
      ≡ true
  pub keeps : KeepsKeys before now

pub added-none : (side : Side) (text : List ℕ) (ends : KeyFilter)
    → AreAdded side text 0 START ends ends
added-none side text ends = record {
  key_is = key-none side text;
  has = λ shorter some within. absurd (omega (arith, some, within));
  keeps = λ key there. there;
}

pub added-more : (side : Side) (text : List ℕ) (count key next : ℕ) (before now then : KeyFilter)
    → AreAdded side text count key before now → next ≡ key_with key (char_at side text count)
    → may_have then next ≡ true → KeepsKeys now then → AreAdded side text (count + 1) next before
    then
added-more side text count key next before now then so is there kept = record {
  key_is = next-is;
  has = λ shorter some within. by shorter some (cases_lt shorter (count + 1)) within;
  keeps = λ other was. kept other (so.keeps other was);
}
  where
    next-is : next ≡ key_at side text (count + 1)
    next-is = is ∙ ap (λ k. key_with k (char_at side text count)) so.key_is
        ∙ sym (key-more side text count)

    by : (shorter : ℕ) → 0 < shorter → (shorter < count + 1) ⊎ (count + 1 ≤ shorter)
        → shorter ≤ count + 1 → may_have then (key_at side text shorter) ≡ true
    by shorter some (inl less) within =
        kept (key_at side text shorter) (so.has shorter some (omega (arith, less)))
    by shorter some (inr all) within =
        let same : shorter ≡ count + 1 = omega (arith, all, within) in
        ap (λ n. may_have then (key_at side text n)) same
        ∙ ap (may_have then) (sym next-is)
        ∙ there
