-- Which condition a text is.
use Rattle.std.specs.Prelude.{ℕ, zero, suc, ◌+◌, ◌==◌, Bool, List, [], ◌∷◌, take, nat_eq, Option}
use Rattle.std.specs.Prelude.{Some, option_and_then, if◌then◌else◌}
use Rattle.std.specs.Cmp.Lexicographic.{pointwise}
use Rattle.std.specs.List.{position}
use Rattle.std.specs.Option.{option_map}
use Rattle.std.specs.Str.{chars}
use Rattle.spell_types.specs.declared.rules.Piece.{Piece}
use Rattle.spell_types.specs.declared.rules.Piece.TheVariants.{Any, One, Among, NotAmong}

-- `[`
abbrev pub opens_set : ℕ → Bool
opens_set c = c == 91

-- `]`
abbrev pub closes_set : ℕ → Bool
closes_set c = c == 93

-- `.` is any character, and each other character is itself
abbrev pub plain_piece : ℕ → Piece
plain_piece c = if c == 46 then Any else One c

-- what the characters inside a bracket are: none of those behind a `^` at their front, or else one
-- of them
abbrev pub bracket_piece : List ℕ → Piece
bracket_piece [] = Among []
bracket_piece (c ∷ more) = if c == 94 then NotAmong more else Among (c ∷ more)

-- what is read of a bracket: inside are the characters before the first `]`, which belongs to it
abbrev pub bracket : List ℕ → Option (Piece × ℕ)
bracket behind =
    option_map (λ place. (bracket_piece (take place behind), place + 1)) (position closes_set behind)

-- the piece that begins with a character, and how many of the characters behind it belong to it
abbrev pub first_piece : ℕ → List ℕ → Option (Piece × ℕ)
first_piece c behind = if opens_set c then bracket behind else Some (plain_piece c, 0)

-- the piece, and behind it those that the rest is
abbrev pub followed_by : Piece → Option (List Piece) → Option (List Piece)
followed_by piece rest = option_map (λ pieces. piece ∷ pieces) rest

-- the pieces of the text from the place behind its first characters, so many of which belong to a
-- piece already
abbrev pub pieces_behind : ℕ → List ℕ → Option (List Piece)
pieces_behind read [] = Some []
pieces_behind (suc read) (c ∷ text) = pieces_behind read text
pieces_behind zero (c ∷ text) =
    option_and_then (λ found. followed_by found.0 (pieces_behind found.1 text)) (first_piece c text)

-- the pieces that the characters of a text are, from its front to its end
unfoldable pub pieces_of : List ℕ → Option (List Piece)
pieces_of text = pieces_behind 0 text

-- The condition that a text is, if it is one. The text `.` is the empty condition.
unfoldable pub condition_of : List ℕ → Option (List Piece)
condition_of text = if pointwise nat_eq text (46 ∷ []) then Some [] else pieces_of (chars text)
