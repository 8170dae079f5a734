-- Laws of texts.
use Rattle.std.proofs.Common.{◌≡◌, ℕ, List, [], ◌∷◌, length}
use Rattle.std.specs.Str.{chars}
use Rattle.std.proofs.lemmas.Str.{chars-nil}

-- a text without bytes has no characters
pub chars-empty : (bytes : List ℕ) → length bytes ≡ 0 → chars bytes ≡ []
chars-empty [] none = chars-nil
chars-empty (byte ∷ bytes) none = absurd (cc)
