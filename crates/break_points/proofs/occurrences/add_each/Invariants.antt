-- So far the texts of the patterns before the loop's are there.
use Rattle.std.proofs.Common.{◌≡◌, ◌++◌, map, take}
use Rattle.break_points.specs.Occurrences.{occurrence_of}
use Rattle.break_points.proofs.occurrences.add_each.Given as goal

abbrev pub invariant-loop-pattern : goal.invariant-loop-pattern
invariant-loop-pattern l = l.occurrences.items ≡ l.initial.occurrences.items
    ++ map (occurrence_of l.place l.len) (take l.pattern-index l.patterns)
