-- What was found so far is the earliest fault of the headers before the loop's place, and the total
-- is what they announce, or both are past the limit.
use Rattle.std.proofs.Common.{◌≡◌, [], take}
use Rattle.aff_lines.specs.Faults.{least_of}
use Rattle.aff_reader.specs.ClassLines.{each_after, Knows}
use Rattle.aff_reader.specs.Classes.{announced, limit_faults}
use Rattle.aff_reader.proofs.TurnLemmas.{IsTotal}
use Rattle.aff_reader.proofs.classes.many_fault.Given as goal

abbrev pub invariant-loop-line : goal.invariant-loop-line
invariant-loop-line l = record {
  known : Knows l.kind (take l.line-index l.rows) l.classes;
  total : IsTotal l.limit l.total (announced l.kind (take l.line-index l.rows));
  least : l.found
      ≡ least_of (each_after (limit_faults l.kind l.limit) [] (take l.line-index l.rows));
}
