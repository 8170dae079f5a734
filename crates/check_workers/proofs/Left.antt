-- The words that are left behind some that were judged.
use Rattle.std.proofs.Common.{◌≡◌, ◌∙◌, ap, ℕ, ◌-◌, ◌<◌, true, List, [], ◌∷◌, length, drop, arith}
use Rattle.std.proofs.Common.{length-drop}
use Rattle.mark_types.specs.Words.{Word}
use Rattle.word_cutter.specs.Runs.{has_some}

some-long : (words : List Word) → has_some words ≡ true → 0 < length words
some-long [] some = absurd (cc)
some-long (word ∷ words) some = omega arith

fewer : (all taken left : ℕ) → left ≡ all - taken → 0 < left → 0 < taken → left < all
fewer all taken left is some more = omega (arith, is, some, more)

-- where words are left behind some, they are fewer
pub fewer-left : (taken : ℕ) (words left : List Word) → 0 < taken → left ≡ drop taken words
    → has_some left ≡ true → length left < length words
fewer-left taken words left more is some =
    fewer (length words) taken (length left) (ap length is ∙ length-drop taken words)
    (some-long left some) more
