-- Where the texts of patterns stand in a word, and how they break its pieces.
use Rattle.std.specs.Prelude.{ℕ, ◌+◌, ◌-◌, ◌<◌, ◌≤◌, ◌==◌, Bool, true, false, ◌&&◌, List, length}
use Rattle.std.specs.Prelude.{take, drop, nat_lt, Contains, Option, None, Some, if◌then◌else◌}
use Rattle.std.specs.List.{All}
use Rattle.std.specs.Option.{option_map_or}
use Rattle.spell_types.specs.declared.breaks.Anchored.{Anchored}
use Rattle.break_points.specs.declared.occurrences.Occurrence.{Occurrence}
use Rattle.break_points.specs.declared.table.Stretch.{Stretch}
use Rattle.break_points.specs.declared.ways.Way.{Way}
use Rattle.break_points.specs.declared.ways.Way.TheVariants.{Between, Behind, Before}
use Rattle.break_points.specs.Patterns.{BreakPattern}

abbrev pub occurrence_of : ℕ → ℕ → BreakPattern → Occurrence
occurrence_of place len p = record { place = place; len = len; front = p.1.0; back = p.1.1 }

-- the text of one of the patterns stands there
pub record IsOccurrence (breaks : List Anchored) (word : List ℕ) (occurrence : Occurrence) : Type
    0 where
  pub within : occurrence.place + occurrence.len ≤ length word
  pub among : Contains breaks
      (record {
        text = take occurrence.len (drop occurrence.place word);
        front = occurrence.front;
        back = occurrence.back;
      })

-- these are the texts of patterns that stand in the word
pub record AreOccurrences (breaks : List Anchored) (word : List ℕ)
    (occurrences : List Occurrence) : Type 0 where
  pub sound : All (IsOccurrence breaks word) occurrences
  pub whole : (occurrence : Occurrence) → occurrence.place < length word
      → IsOccurrence breaks word occurrence → Contains occurrences occurrence

-- how a text at a place, with or without anchors, breaks what stands from one place up to another,
-- if it leaves less of it
abbrev pub way_with : Bool → Bool → ℕ → ℕ → ℕ → ℕ → Option Way
way_with false false from to place len =
    if nat_lt from place && (nat_lt place to && nat_lt len (to - place))
    then Some (Between (place - from) (place - from + len)) else None
way_with true false from to place len =
    if (place == from) && (nat_lt 0 len && nat_lt len (to - from)) then Some (Behind len) else None
way_with false true from to place len =
    if nat_lt from place && (nat_lt place to && (len == to - place))
    then Some (Before (place - from)) else None
way_with true true from to place len = None

abbrev pub way_by : Occurrence → Stretch → Option Way
way_by occurrence piece =
    way_with occurrence.front occurrence.back piece.from piece.to occurrence.place occurrence.len

-- whether there is a way, and all that it leaves passes a test
abbrev pub way_passes : (Way → Bool) → Option Way → Bool
way_passes test way = option_map_or test way false
