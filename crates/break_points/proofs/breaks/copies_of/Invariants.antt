-- So far the patterns before the loop's are copied.
use Rattle.std.proofs.Common.{◌≡◌, map, take}
use Rattle.break_points.specs.Patterns.{anchored_of}
use Rattle.break_points.proofs.breaks.copies_of.Given as goal

abbrev pub invariant-loop-pattern : goal.invariant-loop-pattern
invariant-loop-pattern l = map anchored_of l.patterns.items ≡ take l.pattern-index l.breaks
