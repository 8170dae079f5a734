-- That a line may be cut behind the spaces at its front and before those at its end.
use Rattle.std.proofs.Common.{◌≡◌, ℕ, ◌+◌, ◌-◌, ◌<◌, ◌≤◌, true, List, length, sym, ap, ◌∙◌, subst}
use Rattle.std.proofs.Common.{arith, get_or}
use mathlib.Core.Logic.{⊎_elim}
use Rattle.std.specs.List.{prefix_len, slice_index}
use Rattle.std.specs.Str.{IsCharBoundary, IsUtf8}
use Rattle.std.proofs.lemmas.Bool.{cases_lt}
use Rattle.std.proofs.lemmas.Bool.Decides.{nat_tests}
use Rattle.std.proofs.lemmas.List.Sums.{prefix_len_passes}
use Rattle.std.proofs.lemmas.Str.{IsCharBoundary-before_ascii, IsCharBoundary-after_ascii}
use Rattle.std.proofs.lemmas.Str.{IsCharBoundary-end}
use Rattle.personal_words.specs.Items.{is_space}

-- behind spaces a text may be cut, and before spaces
pub cut-behind_spaces : (text bytes : List ℕ) (place : ℕ) → IsUtf8 text → bytes ≡ text
    → place ≡ prefix_len is_space bytes → place ≤ length bytes → 0 < place
    → IsCharBoundary text place
cut-behind_spaces text bytes place utf8 same is within some =
    let before : (place - 1) + 1 ≡ place = omega (arith, some) in
    let inside : place - 1 < length text = omega (arith, some, within, ap length same) in
    let space : is_space (get_or text (place - 1) 0) ≡ true =
    ap (λ t. is_space (get_or t (place - 1) 0)) (sym same)
    ∙ prefix_len_passes is_space bytes (place - 1) 0 (omega (arith, some, is)) in
    subst (IsCharBoundary text) before
    (IsCharBoundary-after_ascii text (place - 1) utf8 inside
    (low (get_or text (place - 1) 0) space))
  where
    low : (c : ℕ) → is_space c ≡ true → c < 128
    low c space = grind (arith, nat_tests)

pub cut-before_spaces : (text bytes : List ℕ) (place : ℕ) → bytes ≡ text → place ≤ length text
    → (place < length bytes → slice_index bytes place ≡ 32)
    → IsCharBoundary text place
cut-before_spaces text bytes place same within begins =
    ⊎_elim
    (λ (inside : place < length text). IsCharBoundary-before_ascii text place inside
    (omega (
      arith,
      sym (ap (λ t. slice_index t place) same)
          ∙ begins (omega (arith, inside, ap length same)),
    )))
    (λ (past : length text ≤ place). subst (IsCharBoundary text) (omega (arith, past, within))
    (IsCharBoundary-end text))
    (cases_lt place (length text))
