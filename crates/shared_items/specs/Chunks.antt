-- Chunks of a list, each with how many items there are up to its end.
use Rattle.std.specs.Prelude.{◌≡◌, ℕ, ◌+◌, ◌<◌, ◌≤◌, List, length, take, drop, slice_index_or}
use Rattle.std.specs.List.{flat_map}
use Rattle.shared_items.specs.declared.Counted.{Counted}

-- the items of chunks, one behind the other
abbrev pub items_of : {T : Type 0} → List (Counted T) → List T
items_of chunks = flat_map (λ counted. counted.chunk) chunks

-- each chunk is kept with the number of items up to its end
abbrev pub AreCounted : {T : Type 0} → List (Counted T) → Type 0
AreCounted {T} chunks = (k : ℕ) (d : Counted T) → k < length chunks
    → (slice_index_or chunks k d).end ≡ length (items_of (take (k + 1) chunks))

-- the items of the chunk with a place; none past the end
abbrev pub chunk_at : {T : Type 0} → List (Counted T) → ℕ → List T
chunk_at chunks place = items_of (take 1 (drop place chunks))

-- the item with a place stands in the chunk with that index
pub record HasItem {T : Type 0} (chunks : List (Counted T)) (place index : ℕ) : Type 0 where
  pub chunk : index < length chunks
  pub after : length (items_of (take index chunks)) ≤ place
  pub before : place < length (items_of (take (index + 1) chunks))
