-- What a read does to the bytes that a source tells.
use Rattle.std.specs.Prelude.{◌≡◌, ℕ, ◌↔◌, List, [], ◌++◌, Option, Some, None, IfSome, IsSomeAnd}

-- the bytes that were left before are those taken and then those left now
abbrev pub Takes : Option (List ℕ) → Option (List ℕ) → List ℕ → Type 0
Takes None now taken = Unit {0}
Takes (Some before) now taken = IsSomeAnd now (λ rest. before ≡ taken ++ rest)

-- a count of bytes is 0 exactly where nothing was left
abbrev pub IsEndOf : Option (List ℕ) → ℕ → Type 0
IsEndOf before count = IfSome before (λ bytes. (count ≡ 0) ↔ (bytes ≡ []))

-- bytes are what an input tells, if it tells any
abbrev pub IsToldBytes : Option (List ℕ) → List ℕ → Type 0
IsToldBytes None bytes = Unit {0}
IsToldBytes (Some told) bytes = bytes ≡ told
