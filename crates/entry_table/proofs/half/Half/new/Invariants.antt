-- So far the entries before the loop's place are in the half.
use Rattle.std.proofs.Common.{take}
use Rattle.entry_table.specs.EntryTable.{HasHalf}
use Rattle.entry_table.proofs.half.Half.new.Given as goal

abbrev pub invariant-loop-place : goal.invariant-loop-place
invariant-loop-place l = HasHalf l.remainder (take l.place l.entries) l.half
