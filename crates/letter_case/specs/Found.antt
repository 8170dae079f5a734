-- The words found so far.
use Rattle.std.specs.Prelude.{ℕ, Bool, false, ◌&&◌, nat_lt, List, [], ◌∷◌, ◌++◌, map, if◌then◌else◌}
use Rattle.std.specs.List.{flat_map}
use Rattle.spell_types.specs.Cases.{is_among, is_pair}

-- the words with this one at the end, unless it is there already
abbrev pub with_word : List (List ℕ) → List ℕ → List (List ℕ)
with_word words word = if is_among words word then words else words ++ word ∷ []

-- each of these fronts with each of these rests behind it
abbrev pub behind_each : List (List ℕ) → List (List ℕ) → List (List ℕ)
behind_each fronts rests = flat_map (λ front. map (λ rest. front ++ rest) rests) fronts

-- a front with ß behind it, and with two characters
abbrev pub with_pair : ℕ → ℕ → List ℕ → List (List ℕ)
with_pair c d front = (front ++ 223 ∷ []) ∷ (front ++ c ∷ d ∷ []) ∷ []

-- whether a word begins with a pair SS
abbrev pub begins_pair : List ℕ → Bool
begins_pair [] = false
begins_pair (c ∷ []) = false
begins_pair (c ∷ d ∷ rest) = is_pair c d

-- whether a word begins with a pair SS, and one may be written as ß
abbrev pub is_pair_next : ℕ → List ℕ → Bool
is_pair_next left word = nat_lt 0 left && begins_pair word
