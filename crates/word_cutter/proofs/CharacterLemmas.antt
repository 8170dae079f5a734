-- ASCII characters are told without the tables of Unicode.
use Rattle.std.proofs.Common.{◌≡◌, ℕ, ◌<◌, ◌&&◌, ◌||◌, ◌==◌, not, Bool, true, false, List, refl, ap}
use Rattle.std.proofs.Common.{sym, ◌∙◌, arith, nat_eq, bit_and, get_or}
use Rattle.std.proofs.lemmas.Bool.Decides.{nat_tests}
use Rattle.std.specs.Bool.{beq}
use Rattle.std.specs.Char.{is_ascii_alphabetic}
use Rattle.std.specs.List.{list_any}
use Rattle.ucd_table.proofs.Facts.{Stepped-below, same_from_beq}
use Rattle.ucd_table.proofs.TrieCheck.{all_below, all_below-at}
use Rattle.ucd_category.specs.GeneralCategory.{general_category}
use Rattle.ucd_category.specs.GeneralCategoryGroup.{in_group}
use Rattle.ucd_category.specs.declared.GeneralCategoryGroup.TheVariants.{Mark}
use Rattle.ucd_category.proofs.Computing.{ucd_category}
use Rattle.ucd_category.proofs.GeneralCategoryLemmas.{general_category_stepped}
use Rattle.ucd_derived.specs.Binary.{is_alphabetic}
use Rattle.ucd_derived.proofs.BinaryLemmas.{is_alphabetic_stepped}
use Rattle.ucd_derived.proofs.Computing.{ucd_derived}
use Rattle.mark_types.specs.Characters.{is_apostrophe, is_combining_mark, is_word_character}
use Rattle.mark_types.specs.Words.{belongs}
use Rattle.word_cutter.specs.declared.characters.TheConstants.{CLASSES}

pub letter-ascii : (c : ℕ) → c < 128 → is_alphabetic c ≡ is_ascii_alphabetic c
unfolding ucd_derived
letter-ascii c below =
    same_from_beq _ _
    (Stepped-below is_alphabetic is_alphabetic_stepped (λ x v. beq v (is_ascii_alphabetic x)) 128
    refl c below)

pub mark-ascii : (c : ℕ) → c < 128 → is_combining_mark c ≡ false
unfolding ucd_category is_combining_mark
mark-ascii c below =
    same_from_beq _ _
    (Stepped-below general_category general_category_stepped (λ x v. beq (in_group Mark v) false)
    128 refl c below)

or-false : (b : Bool) → b ≡ (b || false)
or-false true = refl
or-false false = refl

pub letter-or-mark-ascii : (c : ℕ) → c < 128
    → is_ascii_alphabetic c ≡ (is_alphabetic c || is_combining_mark c)
letter-or-mark-ascii c below =
    or-false (is_ascii_alphabetic c) ∙ ap (λ b. b || false) (sym (letter-ascii c below))
    ∙ ap (λ b. is_alphabetic c || b) (sym (mark-ascii c below))

pub ascii-below : (c : ℕ) → is_ascii_alphabetic c ≡ true → c < 128
ascii-below c letter = grind (arith, nat_tests)

-- a letter is none of the characters that never count as one of a word
letter-other : (c d : ℕ) → is_alphabetic d ≡ false → is_alphabetic c ≡ true → (c == d) ≡ false
letter-other c d none letter = grind (arith, nat_tests)

quote-no-letter : is_alphabetic 0x2019 ≡ false
unfolding ucd_derived
quote-no-letter = refl

letter-word : (wordchars : List ℕ) (c : ℕ) → is_alphabetic c ≡ true
    → is_word_character wordchars c ≡ true
unfolding is_word_character
letter-word wordchars c letter =
    rw (
      letter-other c 0x27 (letter-ascii 0x27 (omega arith)) letter,
      letter-other c 0x2019 quote-no-letter letter,
      letter-other c 10 (letter-ascii 10 (omega arith)) letter,
      letter,
    ) refl

pub letter-belongs : (wordchars : List ℕ) (before c after : ℕ) → is_alphabetic c ≡ true
    → belongs wordchars before c after ≡ true
unfolding belongs
letter-belongs wordchars before c after letter = rw (letter-word wordchars c letter) refl

-- a separator belongs to no word
pub separator-outside : (wordchars : List ℕ) (before c after : ℕ)
    → not (is_word_character wordchars c || is_apostrophe c) ≡ true
    → belongs wordchars before c after ≡ false
unfolding belongs
separator-outside wordchars before c after is =
    let neither = neither-of (is_word_character wordchars c) (is_apostrophe c) is in
    rw (neither.0, neither.1) refl
  where
    neither-of : (a b : Bool) → not (a || b) ≡ true → (a ≡ false) × (b ≡ false)
    neither-of true b is = absurd cc
    neither-of false b is = (refl, grind arith)

-- whether the table has this class for a byte
abbrev pub has_class : ℕ → ℕ → Bool
has_class class byte = not (nat_eq (bit_and (get_or CLASSES byte 0) class) 0)

pub letter-class : (byte : ℕ) → byte < 256 → has_class 1 byte ≡ is_ascii_alphabetic byte
unfolding all_below
letter-class byte below =
    same_from_beq _ _
    (all_below-at (λ b. beq (has_class 1 b) (is_ascii_alphabetic b)) 256 byte refl below)

pub joining-class : (byte : ℕ) → byte < 256
    → has_class 2 byte ≡ (is_ascii_alphabetic byte || byte == 0x27)
unfolding all_below
joining-class byte below =
    same_from_beq _ _
    (all_below-at (λ b. beq (has_class 2 b) (is_ascii_alphabetic b || b == 0x27)) 256 byte refl
    below)

-- of an ASCII character the two classes say, with WORDCHARS, whether it is a separator
pub separator-ascii : (wordchars : List ℕ) (c : ℕ) → c < 128
    → not (is_word_character wordchars c || is_apostrophe c)
    ≡ (not (is_ascii_alphabetic c || c == 0x27)
    && (c == 10 || not (list_any (λ w. w == c) wordchars)))
unfolding is_word_character
separator-ascii wordchars c below =
    rw (letter-ascii c below, mark-ascii c below) (grind (arith, nat_tests))
