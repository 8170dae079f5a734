-- The least of numbers, where they are there.
use Rattle.std.specs.Prelude.{ℕ, ◌+◌, ◌≤◌, ◌^◌, ◌-◌, ◌⊎◌, nat_le, min, List, [], ◌∷◌, slice_get}
use Rattle.std.specs.Prelude.{Option, None, Some, option_and_then, if◌then◌else◌}
use Rattle.std.specs.Option.{option_map}

abbrev pub least_of_two : Option ℕ → Option ℕ → Option ℕ
least_of_two None other = other
least_of_two (Some number) None = Some number
least_of_two (Some number) (Some other) = if nat_le number other then Some number else Some other

-- the least of those that are there
abbrev pub fewest : List (Option ℕ) → Option ℕ
fewest [] = None
fewest (number ∷ more) = least_of_two number (fewest more)

-- one more, as far as numbers go
abbrev pub one_more : Option ℕ → Option ℕ
one_more number = option_map (λ n. min (n + 1) (2 ^ 64 - 1)) number

-- the number at a place, if there is one
abbrev pub number_at : List (Option ℕ) → ℕ → Option ℕ
number_at numbers place = option_and_then (λ number. number) (slice_get numbers place)

-- it is the least number for which this holds, or there is none
abbrev pub IsFewest : (ℕ → Type 0) → Option ℕ → Type 0
IsFewest holds None = (count : ℕ) → ¬ (holds count)
IsFewest holds (Some number) = holds number × ((count : ℕ) → holds count → number ≤ count)

-- it holds of one of them
abbrev pub OneOf : {X : Type 0} → (X → Type 0) → List X → Type 0
OneOf holds [] = ⊥
OneOf holds (x ∷ more) = holds x ⊎ OneOf holds more
