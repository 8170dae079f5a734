-- The patterns that begin as the text does so far, and the best of those that are no longer.
use Rattle.std.proofs.Common.{◌≡◌, take}
use Rattle.std.specs.Option.{option_copied}
use Rattle.text_order.specs.TextOrder.{beginning}
use Rattle.conversions.specs.Patterns.{BestUpTo}
use Rattle.conversions.proofs.table.best_pattern.Given as goal

abbrev pub invariant-loop-depth : goal.invariant-loop-depth
invariant-loop-depth l = record {
  alike : l.alike ≡ beginning (take l.depth l.text) l.patterns;
  best : BestUpTo l.patterns l.text l.depth (option_copied l.best);
}
