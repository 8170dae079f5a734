-- Where a text is parted from its flags.
use Rattle.std.specs.Prelude.{◌≡◌, ℕ, ◌==◌, ◌&&◌, not, Bool, List, [], ◌∷◌, Option, None, Some}
use Rattle.std.specs.Prelude.{take, if◌then◌else◌}
use Rattle.std.specs.List.{prefix_len}

abbrev pub is_slash : ℕ → Bool
is_slash c = c == 47

abbrev pub is_backslash : ℕ → Bool
is_backslash c = c == 92

-- neither of them
abbrev pub is_plain : ℕ → Bool
is_plain c = not (is_slash c) && not (is_backslash c)

-- the text before its first slash that no backslash precedes, with a slash for each slash that one
-- precedes
abbrev pub before_slash : List ℕ → List ℕ
before_slash [] = []
before_slash (c ∷ []) = if is_slash c then [] else c ∷ []
before_slash (c ∷ next ∷ more) =
    if is_slash c then []
    else (if is_backslash c && is_slash next then next ∷ before_slash more
    else c ∷ before_slash (next ∷ more))

-- that is the text up to its first slash or backslash, as no backslash stands before the slash
abbrev pub IsWordPlain : List ℕ → Type 0
IsWordPlain text = before_slash text ≡ take (prefix_len is_plain text) text

-- what stands behind that slash, if there is one
abbrev pub behind_slash : List ℕ → Option (List ℕ)
behind_slash [] = None
behind_slash (c ∷ []) = if is_slash c then Some [] else None
behind_slash (c ∷ next ∷ more) =
    if is_slash c then Some (next ∷ more)
    else (if is_backslash c && is_slash next then behind_slash more else behind_slash (next ∷ more))
