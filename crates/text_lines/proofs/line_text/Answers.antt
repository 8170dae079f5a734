-- The bytes of a line that is inside are UTF-8, so they are not refused.
use Rattle.std.proofs.Common.{Result, Ok, Err, List, ℕ, refl}
use Rattle.std.specs.Result.{MatchResult, IsOk}
use Rattle.std.specs.Str.{IsUtf8}
use Rattle.std.proofs.lemmas.Str.{IsUtf8-from_is_utf8}
use Rattle.text_lines.proofs.line_text.Goals as goal

taken : {T E : Type 0} (P : T → Type 0) (Q : E → Type 0) (bytes : List ℕ) (read : Result T E)
    → MatchResult read P (λ e. ¬ (IsUtf8 bytes) × Q e) → IsUtf8 bytes → IsOk read
taken P Q bytes (Ok text) cases utf8 = refl
taken P Q bytes (Err e) cases utf8 = absurd (cases.0 utf8)

pub unwrap-requires : goal.unwrap-requires
unwrap-requires c =
    taken _ _ _ c.from_utf8.result c.from_utf8.ensures.cases (IsUtf8-from_is_utf8 _ c.requires.utf8)
