-- The characters that are left go into the hash of those before.
use Rattle.std.proofs.Common.{◌≡◌, IsUtf8, chars}
use Rattle.std.specs.Str.Iter.{chars_rest}
use Rattle.entry_table.specs.Hashes.{folded, hash_of}
use Rattle.entry_table.proofs.hashed.hash_of.Given as goal

abbrev pub invariant-loop-c : goal.invariant-loop-c
invariant-loop-c l = IsUtf8 (chars_rest l.c-iterator)
    × (folded l.folded (chars (chars_rest l.c-iterator)) ≡ hash_of (chars l.fn.text))
