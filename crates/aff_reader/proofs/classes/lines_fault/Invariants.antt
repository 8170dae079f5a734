-- What was found so far is the earliest fault of the lines before the loop's place.
use Rattle.std.proofs.Common.{◌≡◌, [], take}
use Rattle.std.specs.Option.{option_copied}
use Rattle.aff_lines.specs.Faults.{least_of}
use Rattle.aff_reader.specs.ClassLines.{each_after, Knows}
use Rattle.aff_reader.specs.Classes.{line_faults}
use Rattle.aff_reader.proofs.classes.lines_fault.Given as goal

abbrev pub invariant-loop-line : goal.invariant-loop-line
invariant-loop-line l = record {
  known : Knows l.kind (take l.line-index l.rows) l.classes;
  least : l.found
      ≡ least_of (each_after (line_faults l.kind (option_copied l.aliases) l.rows) []
      (take l.line-index l.rows));
}
