-- So far the lines before the loop's place are known.
use Rattle.std.proofs.Common.{take}
use Rattle.aff_reader.specs.ClassLines.{Knows}
use Rattle.aff_reader.proofs.classes.read_classes.Given as goal

abbrev pub invariant-loop-line : goal.invariant-loop-line
invariant-loop-line l = Knows l.kind (take l.line-index l.rows) l.classes
