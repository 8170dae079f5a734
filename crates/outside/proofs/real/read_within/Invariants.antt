-- So far no more bytes came than are allowed.
use Rattle.std.proofs.Common.{◌≤◌, length}
use Rattle.outside.proofs.real.read_within.Given as goal

abbrev pub invariant-loop : goal.invariant-loop
invariant-loop g l = length l.bytes.items ≤ l.limit
