-- No number begins with anything but a digit.
use Rattle.std.proofs.Common.{◌≡◌, ◌∙◌, refl, sym, ap, ℕ, Bool, true, false, cond, ◌&&◌, List, []}
use Rattle.std.proofs.Common.{◌∷◌, length, nat_lt}
use Rattle.std.specs.Char.{is_ascii_digit}
use Rattle.std.specs.List.{list_all, slice_split, onto_first}
use Rattle.spell_types.specs.Numbers.{is_separator, is_group, is_number}
use Rattle.word_verdict.specs.Accepting.{begins_with_digit}

pub no_digit : (word : List ℕ) → begins_with_digit word ≡ false → false ≡ is_number word
unfolding is_number
no_digit [] none = refl
no_digit (c ∷ rest) none = by (is_separator c) (slice_split is_separator rest)
  where
    nothing : (a b : Bool) → false ≡ ((a && false) && b)
    nothing true b = refl
    nothing false b = refl

    other : (text : List ℕ) (more : Bool) → false ≡ (is_group (c ∷ text) && more)
    other text more = nothing (nat_lt 0 (length (c ∷ text))) more
        ∙ ap (λ d. (nat_lt 0 (length (c ∷ text)) && (d && list_all is_ascii_digit text)) && more)
        (sym none)

    by : (b : Bool) (parts : List (List ℕ))
        → false ≡ list_all is_group (cond b ([] ∷ parts) (onto_first c parts))
    by true parts = refl
    by false [] = other [] true
    by false (text ∷ parts) = other text (list_all is_group parts)
