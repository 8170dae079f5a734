-- So far the entries before the loop's place are in the table.
use Rattle.std.proofs.Common.{take}
use Rattle.entry_table.specs.EntryTable.{HasEntries}
use Rattle.entry_table.proofs.table.EntryTable.new.Given as goal

abbrev pub invariant-loop-place : goal.invariant-loop-place
invariant-loop-place l = HasEntries (take l.place l.entries) l.table
