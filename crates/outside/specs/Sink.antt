-- What a put does to the bytes that a sink tells.
use Rattle.std.specs.Prelude.{◌≡◌, ℕ, List, ◌++◌, take, Option, Some, None, IsSomeAnd}

-- `bytes` now stand behind what was written before the call. A sink that stops telling claims
-- nothing.
abbrev pub Appends : Option (List ℕ) → Option (List ℕ) → List ℕ → Type 0
Appends before None bytes = Unit {0}
Appends before (Some now) bytes = IsSomeAnd before (λ written. now ≡ written ++ bytes)

-- some front of `bytes` does
abbrev pub AppendsFront : Option (List ℕ) → Option (List ℕ) → List ℕ → Type 0
AppendsFront before now bytes = (taken : ℕ) × Appends before now (take taken bytes)
