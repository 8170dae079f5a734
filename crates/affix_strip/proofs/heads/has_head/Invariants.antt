-- So far no front with as many characters is one of the heads.
use Rattle.std.proofs.Common.{◌≡◌, take}
use Rattle.entry_table.specs.Hashes.{hash_of}
use Rattle.affix_strip.specs.Heads.{NoneHeads}
use Rattle.affix_strip.proofs.heads.has_head.Given as goal

abbrev pub invariant-loop-count : goal.invariant-loop-count
invariant-loop-count l = record {
  hash : l.key ≡ hash_of (take l.count l.word);
  none : NoneHeads l.heads l.word l.count;
}
