-- So far the key is that of the characters before the loop's number.
use Rattle.std.proofs.Common.{◌≡◌}
use Rattle.affix_tables.specs.Ends.{key_at}
use Rattle.affix_tables.proofs.key_of.Given as goal

abbrev pub invariant-loop-number : goal.invariant-loop-number
invariant-loop-number l = l.key ≡ key_at l.side l.text l.number
