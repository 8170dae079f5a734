-- So far the replacement's characters before the loop's place are written.
use Rattle.std.proofs.Common.{◌≡◌, ◌++◌, take}
use Rattle.conversions.proofs.table.convert_front.Given as goal

abbrev pub invariant-loop-c : goal.invariant-loop-c
invariant-loop-c l = l.made ≡ l.initial.made ++ take l.c-index l.c-items
