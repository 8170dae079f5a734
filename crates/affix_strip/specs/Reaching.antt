-- Which places of a word may be reached.
use Rattle.std.specs.Prelude.{◌≡◌, ℕ, ◌-◌, ◌<◌, ◌≤◌, Bool, true, false, List, length, take, drop}
use Rattle.std.specs.Prelude.{get_or}

-- whether the place may be reached
abbrev pub is_reached : List Bool → ℕ → Bool
is_reached reached place = get_or reached place false

-- the piece of a word between two places
abbrev pub piece_between : List ℕ → ℕ → ℕ → List ℕ
piece_between word from to = take (to - from) (drop from word)

-- each place that may be reached still may, and what is told of the places before this one stays
pub record KeepsReached (from : ℕ) (before now : List Bool) : Type 0 where
  pub long : length now ≡ length before
  pub same : (place : ℕ) → place < from → is_reached now place ≡ is_reached before place
  pub kept : (place : ℕ) → is_reached before place ≡ true → is_reached now place ≡ true

-- all places from this one on may be reached too
pub record ReachesAll (from : ℕ) (before now : List Bool) : Type 0 where
  pub kept : KeepsReached from before now
  pub all : (place : ℕ) → from ≤ place → place < length now → is_reached now place ≡ true
