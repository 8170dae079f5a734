-- The patterns that begin as the text does so far; and the texts are there that are shorter.
use Rattle.std.proofs.Common.{◌≡◌, ◌<◌, map, take}
use Rattle.std.specs.List.{All, Contains}
use Rattle.text_order.specs.TextOrder.{beginning}
use Rattle.break_points.specs.declared.occurrences.Occurrence.{Occurrence}
use Rattle.break_points.specs.Patterns.{anchored_of}
use Rattle.break_points.specs.Occurrences.{IsOccurrence}
use Rattle.break_points.proofs.occurrences.add_occurrences.Given as goal

abbrev pub invariant-loop-len : goal.invariant-loop-len
invariant-loop-len l = record {
  alike : l.alike ≡ beginning (take l.len l.text) l.patterns;
  kept : (occurrence : Occurrence) → Contains l.fn.occurrences.items occurrence
      → Contains l.occurrences.items occurrence;
  sound : All (IsOccurrence (map anchored_of l.patterns) l.word) l.fn.occurrences.items
      → All (IsOccurrence (map anchored_of l.patterns) l.word) l.occurrences.items;
  whole : (occurrence : Occurrence) → occurrence.place ≡ l.place → occurrence.len < l.len
      → IsOccurrence (map anchored_of l.patterns) l.word occurrence
      → Contains l.occurrences.items occurrence;
}
