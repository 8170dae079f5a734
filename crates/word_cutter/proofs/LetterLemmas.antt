-- Separators are passed, and letters between two of them are a word.
use Rattle.std.proofs.Common.{◌≡◌, ℕ, ◌+◌, ◌-◌, ◌≤◌, Bool, true, false, not, ◌||◌, subst, List, []}
use Rattle.std.proofs.Common.{◌∷◌, ◌++◌, length, Some, refl, sym, ap, ◌∙◌, arith, append_assoc}
use Rattle.std.proofs.Common.{encode_utf8, drop}
use Rattle.std.specs.List.{AllByRecursion}
use Rattle.std.specs.Char.{is_ascii_alphabetic, len_utf8}
use Rattle.std.specs.Str.{IsUtf8, chars}
use Rattle.std.proofs.lemmas.Str.{IsUtf8-past_char, chars_past_char, encode_ascii, len_utf8_ascii}
use Rattle.mark_types.specs.Characters.{is_apostrophe, is_word_character}
use Rattle.mark_types.specs.Words.{Placed, first_of, characters_of}
use Rattle.word_cutter.specs.Runs.{IsBehind, LeavesLess, words_from, words_after}
use Rattle.word_cutter.specs.Runs.{words_from_found}
use Rattle.word_cutter.specs.declared.Rest.{Rest}
use Rattle.word_cutter.specs.declared.FoundWord.{FoundWord}
use Rattle.word_cutter.proofs.CharacterLemmas.{ascii-below, letter-ascii, letter-belongs}
use Rattle.word_cutter.proofs.CharacterLemmas.{separator-outside}
use Rattle.word_cutter.proofs.CutLemmas.{IsFirst, IsFound, Walks, first-size, first-back, back-on}
use Rattle.word_cutter.proofs.CutLemmas.{words_behind, walk-begins, walk-on, walk-over, walk-found}
use Rattle.word_cutter.proofs.CutLemmas.{walk-leaves-less}

-- What the walk over separators keeps: no run is begun.
pub record Skips (wordchars : List ℕ) (rest : Rest) (text : List ℕ) (before : ℕ) : Type 0 where
  pub at : ℕ
  pub walks : Walks wordchars rest text at before at false []

pub skip-begins : (wordchars : List ℕ) (rest : Rest)
    → Skips wordchars rest rest.text.now rest.before
skip-begins wordchars rest =
    record { at = rest.at; walks = walk-begins wordchars rest [] refl }

pub skip-on : (wordchars : List ℕ) (rest : Rest) (text behind : List ℕ) (before c : ℕ)
    → Skips wordchars rest text before → IsFirst text c behind
    → not (is_word_character wordchars c || is_apostrophe c) ≡ true
    → Skips wordchars rest behind c
skip-on wordchars rest text behind before c skips first separates =
    record {
      at = skips.at + len_utf8 c;
      walks = walk-over wordchars rest text behind skips.at before skips.at c false [] []
          skips.walks first
          (separator-outside wordchars before c (first_of (chars behind)) separates) refl refl;
    }

no-run : (run : List Placed) → [] ≡ characters_of run → run ≡ []
no-run [] none = refl
no-run (first ∷ more) none = absurd cc

-- what is left behind the separators
pub skip-ends : (wordchars : List ℕ) (rest left : Rest) (text : List ℕ) (before : ℕ)
    → Skips wordchars rest text before → left.text.now ≡ text
    → left.at ≡ rest.at + (length rest.text.now - length text) → left.before ≡ before
    → (words_after wordchars left ≡ words_after wordchars rest) × IsBehind rest left
unfolding words_after words_from
skip-ends wordchars rest left text before skips text_is at_is before_is =
    let walks = skips.walks in
    let none = no-run walks.run walks.is_run.characters_are in
    let size = walks.size in
    let later = walks.later in
    let place : left.at ≡ skips.at = omega arith in
    let far = ap length text_is in (
      rw (text_is, before_is, place)
          (ap (λ run. words_behind wordchars run skips.at before (chars text)) (sym none)
          ∙ walks.words),
      record {
        later = omega arith;
        same_end = omega arith;
        behind = text_is ∙ walks.back
            ∙ ap (λ place. drop (place - rest.at) rest.text.now) (sym place);
        utf8 = λ is_text. subst IsUtf8 (sym text_is) (walks.utf8 is_text);
      },
    )

-- what a walk keeps, behind some character
pub record Passes (wordchars : List ℕ) (rest : Rest) (text : List ℕ) (at from : ℕ)
    (characters : List ℕ) : Type 0 where
  pub last : ℕ
  pub walks : Walks wordchars rest text at last from true characters

-- an ASCII letter is the first character of a text
first-letter : (c : ℕ) (behind : List ℕ) → is_ascii_alphabetic c ≡ true → IsUtf8 (c ∷ behind)
    → IsFirst (c ∷ behind) c behind
first-letter c behind letter utf8 =
    let whole : c ∷ behind ≡ encode_utf8 c ++ behind =
    ap (λ bytes. bytes ++ behind) (sym (encode_ascii c (ascii-below c letter))) in
    record { characters = chars_past_char (c ∷ behind) behind c utf8 whole; whole = whole }

-- an ASCII letter that belongs to the run
walk-letter : (wordchars : List ℕ) (rest : Rest) (c : ℕ) (behind : List ℕ) (at before from : ℕ)
    (is_word : Bool) (characters : List ℕ)
    → Walks wordchars rest (c ∷ behind) at before from is_word characters
    → is_ascii_alphabetic c ≡ true → IsUtf8 (c ∷ behind)
    → Walks wordchars rest behind (at + 1) c from true (characters ++ c ∷ [])
walk-letter wordchars rest c behind at before from is_word characters walks is utf8 =
    let letter = letter-ascii c (ascii-below c is) ∙ is in
    subst (λ n. Walks wordchars rest behind (at + n) c from true (characters ++ c ∷ []))
    (len_utf8_ascii c (ascii-below c is))
    (walk-on wordchars rest (c ∷ behind) behind at before from c is_word true characters
    (characters ++ c ∷ []) walks (first-letter c behind is utf8)
    (letter-belongs wordchars before c (first_of (chars behind)) letter)
    (rw letter (or-true is_word)) refl)
  where
    or-true : (b : Bool) → true ≡ (b || true)
    or-true true = refl
    or-true false = refl

-- ASCII letters
abbrev pub AreLetters : List ℕ → Type 0
AreLetters letters = AllByRecursion (λ c. is_ascii_alphabetic c ≡ true) letters

utf8-behind : (c : ℕ) (behind : List ℕ) → is_ascii_alphabetic c ≡ true → IsUtf8 (c ∷ behind)
    → IsUtf8 behind
utf8-behind c behind is utf8 =
    IsUtf8-past_char (c ∷ behind) behind c utf8 (first-letter c behind is utf8).whole

pub utf8-behind_letters : (letters left : List ℕ) → AreLetters letters
    → IsUtf8 (letters ++ left) → IsUtf8 left
utf8-behind_letters [] left are utf8 = utf8
utf8-behind_letters (c ∷ letters) left are utf8 =
    utf8-behind_letters letters left are.1 (utf8-behind c (letters ++ left) are.0 utf8)

walk-letters : (wordchars : List ℕ) (rest : Rest) (c : ℕ) (letters left : List ℕ)
    (at before from : ℕ) (is_word : Bool) (characters : List ℕ)
    → Walks wordchars rest (c ∷ letters ++ left) at before from is_word characters
    → AreLetters (c ∷ letters) → IsUtf8 (c ∷ letters ++ left)
    → Passes wordchars rest left (at + length (c ∷ letters)) from (characters ++ c ∷ letters)
walk-letters wordchars rest c [] left at before from is_word characters walks are utf8 =
    record {
      last = c;
      walks = walk-letter wordchars rest c left at before from is_word characters walks are.0 utf8;
    }
walk-letters wordchars rest c (next ∷ more) left at before from is_word characters walks are utf8 =
    let place : at + 1 + length (next ∷ more) ≡ at + length (c ∷ next ∷ more) = omega arith in
    rw (← place, ← (append_assoc characters (c ∷ []) (next ∷ more)))
    (walk-letters wordchars rest next more left (at + 1) c from true (characters ++ c ∷ [])
    (walk-letter wordchars rest c (next ∷ more ++ left) at before from is_word characters walks
    are.0 utf8)
    are.1 (utf8-behind c (next ∷ more ++ left) are.0 utf8))

-- what is left of a paragraph begins with these ASCII letters
pub record IsLed (rest : Rest) (letters left : List ℕ) : Type 0 where
  pub some : 1 ≤ length letters
  pub are : AreLetters letters
  pub whole : rest.text.now ≡ letters ++ left
  pub utf8 : IsUtf8 rest.text.now

pass-letters : (wordchars : List ℕ) (rest : Rest) (letters left : List ℕ)
    → IsLed rest letters left
    → Passes wordchars rest left (rest.at + length letters) rest.at letters
pass-letters wordchars rest [] left led = let some = led.some in absurd (omega arith)
pass-letters wordchars rest (c ∷ letters) left led =
    walk-letters wordchars rest c letters left rest.at rest.before rest.at false []
    (subst (λ text. Walks wordchars rest text rest.at rest.before rest.at false []) led.whole
    (walk-begins wordchars rest [] refl))
    led.are (subst IsUtf8 led.whole led.utf8)

-- letters behind which a separator stands are the first word
pub letters-found : (wordchars : List ℕ) (rest : Rest) (letters left behind : List ℕ) (c : ℕ)
    (found : FoundWord)
    → IsLed rest letters left → IsFirst left c behind
    → not (is_word_character wordchars c || is_apostrophe c) ≡ true
    → IsFound rest.at (rest.at + length letters) behind (rest.at + length letters + len_utf8 c) c
    found
    → (words_from_found wordchars letters (Some found) ≡ words_after wordchars rest)
    × LeavesLess rest found
letters-found wordchars rest letters left behind c found led first separates is =
    let at = rest.at + length letters in
    let passes = pass-letters wordchars rest letters left led in
    let walks = passes.walks in
    let width = first-size left behind c first in
    let later : rest.at ≤ rest.at + length letters = omega arith in (
      walk-found wordchars rest left behind at passes.last rest.at c true letters found walks first
          (separator-outside wordchars passes.last c (first_of (chars behind)) separates) refl is,
      walk-leaves-less wordchars rest left behind at passes.last rest.at (at + len_utf8 c) c true
          letters found walks refl is (omega arith) (omega arith)
          (back-on rest left behind at c later walks.back (first-back left behind c first))
          (λ is_text. IsUtf8-past_char left behind c (walks.utf8 is_text) first.whole),
    )
