-- Hashes of texts.
use Rattle.std.specs.Prelude.{◌≡◌, ℕ, ◌+◌, ◌*◌, ◌%◌, ◌^◌, List, fold}
use Rattle.entry_table.specs.declared.hashed.TheConstants.{START, FACTOR}
use Rattle.entry_table.specs.declared.hashed.Hashed.{Hashed}

-- the hash of a text, taken on from the hash of what stands before it
unfoldable pub folded : ℕ → List ℕ → ℕ
folded hash text = fold (λ h c. ((h * FACTOR) % 2 ^ 64 + c) % 2 ^ 64) hash text

-- the hash of a word
abbrev pub hash_of : List ℕ → ℕ
hash_of word = folded START word

-- a text with its own hash
abbrev pub IsHashed : Hashed → Type 0
IsHashed hashed = hashed.hash ≡ hash_of hashed.text.now
