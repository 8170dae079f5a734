-- So far the patterns of the rows before the loop's place are there.
use Rattle.std.proofs.Common.{◌≡◌, map}
use Rattle.std.specs.List.{All, range_with_len}
use Rattle.conversions.specs.Patterns.{ConversionPattern, IsPatternOf}
use Rattle.conversions.proofs.table.patterns_of.Given as goal

abbrev pub invariant-loop-place : goal.invariant-loop-place
invariant-loop-place l = record {
  right : All (IsPatternOf l.table) l.patterns.items;
  places : map (λ (p : ConversionPattern). p.1) l.patterns.items ≡ range_with_len 0 l.place;
}
