-- Words that are accepted in pieces.
use Rattle.std.specs.Prelude.{◌≡◌, ℕ, zero, suc, ◌+◌, ◌-◌, ◌<◌, Bool, true, false, not, ◌&&◌, ◌||◌}
use Rattle.std.specs.Prelude.{List, [], ◌∷◌, ◌++◌, length, map, take, drop, nat_eq, nat_lt}
use Rattle.std.specs.Prelude.{Contains, if◌then◌else◌}
use Rattle.std.specs.List.{list_any, list_all, filter, range_with_len, starts_with, ends_with}
use Rattle.spell_types.specs.declared.breaks.Anchored.{Anchored}

-- whether the text stands at this place of the word, with something before it and something behind
-- it
abbrev pub parts_at : List ℕ → List ℕ → ℕ → Bool
parts_at text word place =
    nat_lt 0 place
    && (nat_lt (place + length text) (length word) && starts_with nat_eq (drop place word) text)

-- what is left before and behind the text at a place
abbrev pub parted_at : List ℕ → List ℕ → ℕ → List (List ℕ)
parted_at text word place = take place word ∷ drop (place + length text) word ∷ []

-- the pieces that a text parts the word into, for each place where it does
abbrev pub parted : List ℕ → List ℕ → List (List (List ℕ))
parted text word =
    map (parted_at text word) (filter (parts_at text word) (range_with_len 0 (length word)))

-- the one piece that is left behind a text at the front, if something is left
abbrev pub behind_front : List ℕ → List ℕ → List (List (List ℕ))
behind_front text word =
    if nat_lt (length text) (length word) && starts_with nat_eq word text
    then (drop (length text) word ∷ []) ∷ [] else []

-- the one piece that is left before a text at the end, if something is left
abbrev pub before_end : List ℕ → List ℕ → List (List (List ℕ))
before_end text word =
    if nat_lt (length text) (length word) && ends_with nat_eq word text
    then (take (length word - length text) word ∷ []) ∷ [] else []

-- the ways in which a pattern of this text breaks the word: anywhere, at the front, or at the end;
-- one with both anchors breaks nothing
abbrev pub ways_by : Bool → Bool → List ℕ → List ℕ → List (List (List ℕ))
ways_by false false text word = parted text word
ways_by true false text word = behind_front text word
ways_by false true text word = before_end text word
ways_by true true text word = []

-- each way to break the word once, by its pieces
abbrev pub ways_to_break : List Anchored → List ℕ → List (List (List ℕ))
ways_to_break [] word = []
ways_to_break (b ∷ more) word = ways_by b.front b.back b.text word ++ ways_to_break more word

-- A word is broken if it is a base; or if it is not barred, and broken once each of its pieces is
-- broken. Each piece is shorter than its word, so that the word's length bounds how often it is
-- broken.
abbrev pub is_broken_within : (List ℕ → Bool) → (List ℕ → Bool) → List Anchored → ℕ → List ℕ → Bool
is_broken_within base barred breaks zero word = base word
is_broken_within base barred breaks (suc bound) word =
    base word
    || (not (barred word) && list_any (list_all (is_broken_within base barred breaks bound))
    (ways_to_break breaks word))

unfoldable pub is_broken : (List ℕ → Bool) → (List ℕ → Bool) → List Anchored → List ℕ → Bool
is_broken base barred breaks word = is_broken_within base barred breaks (length word) word

-- The same as a relation, the least one: a finite tree of breaks.
pub data IsBroken (base barred : List ℕ → Bool) (breaks : List Anchored) : List ℕ → Type 0 where
  whole : (word : List ℕ) → base word ≡ true → IsBroken base barred breaks word
  between : (word front rest : List ℕ) (b : Anchored) → barred word ≡ false → Contains breaks b
      → b.front ≡ false → b.back ≡ false
      → word ≡ front ++ b.text ++ rest → 0 < length front → 0 < length rest
      → IsBroken base barred breaks front → IsBroken base barred breaks rest
      → IsBroken base barred breaks word
  behind : (word rest : List ℕ) (b : Anchored) → barred word ≡ false → Contains breaks b
      → b.front ≡ true → b.back ≡ false
      → word ≡ b.text ++ rest → 0 < length rest → IsBroken base barred breaks rest
      → IsBroken base barred breaks word
  before : (word front : List ℕ) (b : Anchored) → barred word ≡ false → Contains breaks b
      → b.front ≡ false → b.back ≡ true
      → word ≡ front ++ b.text → 0 < length front → IsBroken base barred breaks front
      → IsBroken base barred breaks word
