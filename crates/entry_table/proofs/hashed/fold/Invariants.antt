-- So far the characters before the loop's place are in the hash.
use Rattle.std.proofs.Common.{◌≡◌, take}
use Rattle.entry_table.specs.Hashes.{folded}
use Rattle.entry_table.proofs.hashed.fold.Given as goal

abbrev pub invariant-loop-c : goal.invariant-loop-c
invariant-loop-c l = l.folded ≡ folded l.hash (take l.c-index l.characters)
