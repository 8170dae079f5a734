-- Laws of hashes.
use Rattle.std.proofs.Common.{◌≡◌, refl, ℕ, ◌+◌, ◌*◌, ◌%◌, ◌^◌, List, [], ◌++◌}
use Rattle.std.proofs.lemmas.List.Sums.{fold-append}
use Rattle.entry_table.specs.declared.hashed.TheConstants.{FACTOR}
use Rattle.entry_table.specs.Hashes.{folded}

-- the hash of a text is taken on over what stands behind it
pub folded-append : (hash : ℕ) (front back : List ℕ)
    → folded hash (front ++ back) ≡ folded (folded hash front) back
unfolding folded
folded-append hash front back =
    fold-append (λ h c. ((h * FACTOR) % 2 ^ 64 + c) % 2 ^ 64) hash front back

-- nothing changes a hash that is taken on over nothing
pub folded-none : (hash : ℕ) → folded hash [] ≡ hash
unfolding folded
folded-none hash = refl
