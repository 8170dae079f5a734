-- The texts are there that stand before the loop's place.
use Rattle.std.proofs.Common.{◌<◌, map}
use Rattle.std.specs.List.{All, Contains}
use Rattle.break_points.specs.declared.occurrences.Occurrence.{Occurrence}
use Rattle.break_points.specs.Patterns.{anchored_of}
use Rattle.break_points.specs.Occurrences.{IsOccurrence}
use Rattle.break_points.proofs.occurrences.occurrences_in.Given as goal

abbrev pub invariant-loop-place : goal.invariant-loop-place
invariant-loop-place l = record {
  sound : All (IsOccurrence (map anchored_of l.patterns) l.word) l.occurrences.items;
  whole : (occurrence : Occurrence) → occurrence.place < l.place
      → IsOccurrence (map anchored_of l.patterns) l.word occurrence
      → Contains l.occurrences.items occurrence;
}
