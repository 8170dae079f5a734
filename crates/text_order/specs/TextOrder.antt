-- Rows of texts and values, in the order of their texts.
use Rattle.std.specs.Prelude.{ℕ, ◌+◌, List, nat_eq, slice_get}
use Rattle.std.specs.Cmp.Lexicographic.{pointwise, slice_cmp}
use Rattle.std.specs.List.{filter, starts_with}
use Rattle.std.specs.List.Sorted.{IsSortedBy}
use Rattle.std.specs.Option.{option_map_or}
use Rattle.std.specs.Ordering.{is_lt, nat_cmp}
use Rattle.std.specs.declared.alloc.Global.{Global}
use Rattle.std.specs.declared.vec.Vec.{Vec}

-- a text, and the value that it has
abbrev pub Row : Type 0 → Type 0
Row V = Vec ℕ Global × V

-- the rows stand in the order of their texts' characters, where a text comes before those that it
-- begins
abbrev pub AreInOrder : {V : Type 0} → List (Row V) → Type 0
AreInOrder rows = IsSortedBy (λ row other. is_lt (slice_cmp nat_cmp row.0.items other.0.items)) rows

-- the rows whose texts begin so
abbrev pub beginning : {V : Type 0} → List ℕ → List (Row V) → List (Row V)
beginning front rows = filter (λ row. starts_with nat_eq row.0.items front) rows

-- the rows with this text
abbrev pub having : {V : Type 0} → List ℕ → List (Row V) → List (Row V)
having text rows = filter (λ row. pointwise nat_eq row.0.items text) rows

-- the code of the character at a place of a text, and one more; 0 where the text has none there
abbrev pub next_at : ℕ → List ℕ → ℕ
next_at place text = option_map_or (λ c. c + 1) (slice_get text place) 0

abbrev pub next_in : {V : Type 0} → ℕ → Row V → ℕ
next_in place row = next_at place row.0.items
