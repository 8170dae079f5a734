-- Pieces of a word by their places, and the ways to break them.
use Rattle.std.specs.Prelude.{◌≡◌, ℕ, ◌+◌, ◌-◌, Bool, true, false, ◌&&◌, List, [], ◌∷◌, length, map}
use Rattle.std.specs.Prelude.{take, drop, slice_range, nat_eq, nat_lt, nat_le, Some, if◌then◌else◌}
use Rattle.std.specs.List.{filter, flat_map, range_with_len, starts_with, ends_with}
use Rattle.std.specs.BTreeMap.{get}
use Rattle.std.specs.Ordering.{nat_cmp, ordering_then}
use Rattle.std.specs.declared.cmp.Ordering.{Ordering}
use Rattle.spell_types.specs.declared.breaks.Anchored.{Anchored}
use Rattle.spell_types.specs.Breaks.{is_broken, parts_at}
use Rattle.break_points.specs.declared.Judged.{Judged}
use Rattle.break_points.specs.declared.table.Stretch.{Stretch}
use Rattle.break_points.specs.declared.table.Table.{Table}
use Rattle.break_points.specs.declared.ways.Way.{Way}
use Rattle.break_points.specs.declared.ways.Way.TheVariants.{Between, Behind, Before}
use Rattle.break_points.specs.Judging.{is_base_by, is_barred_by}

-- whether a word is accepted as it stands or in pieces
abbrev pub is_broken_as_judged : (List ℕ → Judged) → List Anchored → List ℕ → Bool
is_broken_as_judged judged breaks word = is_broken (is_base_by judged) (is_barred_by judged) breaks word

-- the same of a piece of a word
abbrev pub is_broken_piece : (List ℕ → Judged) → List Anchored → List ℕ → Stretch → Bool
is_broken_piece judged breaks word piece =
    is_broken_as_judged judged breaks (slice_range word piece.from piece.to)

-- the order of the table's keys
abbrev pub place_cmp : ℕ × ℕ → ℕ × ℕ → Ordering
place_cmp a b = ordering_then (nat_cmp a.0 b.0) (nat_cmp a.1 b.1)

-- what stands in the table is right
unfoldable pub IsTableRight : (Stretch → Bool) → Table → Type 0
IsTableRight right table = (piece : Stretch) (answer : Bool)
    → get place_cmp table.answers (piece.from, piece.to) ≡ Some answer → answer ≡ right piece

-- whether all that a way leaves of a piece passes a test
abbrev pub all_left : (List ℕ → Bool) → List ℕ → Way → Bool
all_left test piece (Between end start) = test (take end piece) && test (drop start piece)
all_left test piece (Behind start) = test (drop start piece)
all_left test piece (Before end) = test (take end piece)

-- whether each thing that a way leaves of a piece is shorter than it
abbrev pub is_shorter : List ℕ → Way → Bool
is_shorter piece (Between end start) =
    nat_lt end (length piece) && (nat_lt 0 start && nat_le start (length piece))
is_shorter piece (Behind start) = nat_lt 0 start && nat_le start (length piece)
is_shorter piece (Before end) = nat_lt end (length piece)

-- whether a text is taken off a piece and something is left
abbrev pub is_less : List ℕ → List ℕ → Bool
is_less text piece = nat_lt 0 (length text) && nat_lt (length text) (length piece)

abbrev pub parting : List ℕ → ℕ → Way
parting text place = Between place (place + length text)

abbrev pub behind_ways : List ℕ → List ℕ → List Way
behind_ways text piece =
    if is_less text piece && starts_with nat_eq piece text then Behind (length text) ∷ [] else []

abbrev pub before_ways : List ℕ → List ℕ → List Way
before_ways text piece =
    if is_less text piece && ends_with nat_eq piece text then Before (length piece - length text)
    ∷ [] else []

-- the ways by a text with or without anchors, but for one that takes nothing off
abbrev pub ways_with : Bool → Bool → List ℕ → List ℕ → List Way
ways_with false false text piece =
    map (parting text) (filter (parts_at text piece) (range_with_len 0 (length piece)))
ways_with true false text piece = behind_ways text piece
ways_with false true text piece = before_ways text piece
ways_with true true text piece = []

abbrev pub ways_at : Anchored → List ℕ → List Way
ways_at pattern piece = ways_with pattern.front pattern.back pattern.text piece

abbrev pub ways_of : List Anchored → List ℕ → List Way
ways_of breaks piece = flat_map (λ pattern. ways_at pattern piece) breaks
