-- A circumflex at the front of a line.
use Rattle.std.proofs.Common.{◌≡◌, ◌≢◌, refl, sym, ap, subst, ℕ, ◌+◌, ◌==◌, ◌||◌, Bool, true, false}
use Rattle.std.proofs.Common.{List, [], ◌∷◌, length, drop, cond, arith}
use Rattle.std.proofs.lemmas.Bool.{eqb-true}
use Rattle.pipe_mode.specs.Answers.{passed_over}

pub behind-text : (line rest : List ℕ) → line ≡ 94 ∷ rest → rest ≡ drop (passed_over line) line
behind-text line rest is = subst (λ line. rest ≡ drop (passed_over line) line) (sym is) refl

pub behind-length : (line rest : List ℕ) → line ≡ 94 ∷ rest
    → passed_over line + length rest ≡ length line
behind-length line rest is =
    subst (λ line. passed_over line + length rest ≡ length line) (sym is) (omega arith)

pub none-passed : (line : List ℕ) → ((rest : List ℕ) → line ≢ 94 ∷ rest) → passed_over line ≡ 0
none-passed [] differs = refl
none-passed (c ∷ rest) differs = by (94 == c) refl
  where
    by : (same : Bool) → (94 == c) ≡ same → passed_over (c ∷ rest) ≡ 0
    by true is = absurd (differs rest (ap (λ first. first ∷ rest) (sym (eqb-true 94 c is))))
    by false is = ap (λ same. cond (same || false) 1 0) is
