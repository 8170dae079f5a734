-- The case of ASCII characters, by their codes alone.
use Rattle.std.proofs.Common.{◌≡◌, ◌∙◌, sym, ap, refl, ℕ, ◌<◌, Bool, true, false, cond, arith}
use Rattle.std.specs.Char.{is_ascii_uppercase, is_ascii_lowercase, to_ascii_lowercase}
use Rattle.std.proofs.lemmas.Bool.Decides.{nat_tests}
use Rattle.spell_types.specs.Cases.{is_upper, is_lower, low}
use Rattle.ucd_table.proofs.Computing.{tables}
use Rattle.ucd_table.proofs.Facts.{Stepped-below, same_from_beq}
use Rattle.unicode.proofs.BinaryLemmas.{is_uppercase_stepped, is_lowercase_stepped}
use Rattle.unicode.proofs.CaseFoldingLemmas.{simple_fold-ascii}
use Rattle.unicode.specs.Binary.{is_uppercase, is_lowercase}
use Rattle.unicode.specs.CaseFolding.{simple_fold}
use mathlib.Core.Bool.{beq}

pub upper-ascii : (c : ℕ) → c < 128 → is_ascii_uppercase c ≡ is_upper c
unfolding tables is_uppercase_stepped is_upper
upper-ascii c ascii =
    sym (same_from_beq _ _
    (Stepped-below is_uppercase is_uppercase_stepped
    (λ x v. beq v (is_ascii_uppercase x)) 128 refl c ascii))

pub lower-ascii : (c : ℕ) → c < 128 → is_ascii_lowercase c ≡ is_lower c
unfolding tables is_lowercase_stepped is_lower
lower-ascii c ascii =
    sym (same_from_beq _ _
    (Stepped-below is_lowercase is_lowercase_stepped
    (λ x v. beq v (is_ascii_lowercase x)) 128 refl c ascii))

pub low-ascii : (c : ℕ) → c < 128 → to_ascii_lowercase c ≡ low c
unfolding low
low-ascii c ascii = by (is_ascii_uppercase c) refl (upper-ascii c ascii) (simple_fold-ascii c ascii)
  where
    kept : is_ascii_uppercase c ≡ false → to_ascii_lowercase c ≡ c
    kept is = grind (arith, nat_tests)

    by : (b : Bool) → is_ascii_uppercase c ≡ b → is_ascii_uppercase c ≡ is_upper c
        → simple_fold c ≡ to_ascii_lowercase c
        → to_ascii_lowercase c ≡ cond (is_upper c) (simple_fold c) c
    by true is same fold = sym fold ∙ sym (ap (λ b. cond b (simple_fold c) c) (sym same ∙ is))
    by false is same fold = kept is ∙ sym (ap (λ b. cond b (simple_fold c) c) (sym same ∙ is))
