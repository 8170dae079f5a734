-- So far this is the table of the rules before the loop's place.
use Rattle.std.proofs.Common.{take}
use Rattle.affix_tables.specs.Tables.{IsTable}
use Rattle.affix_tables.proofs.table_of.Given as goal

abbrev pub invariant-loop-place : goal.invariant-loop-place
invariant-loop-place l = IsTable (take l.place l.rules) l.side l.table
