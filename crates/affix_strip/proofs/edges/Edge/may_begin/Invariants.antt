-- So far no front with as many characters has the hash of what a rule adds.
use Rattle.std.proofs.Common.{◌≡◌, take}
use Rattle.entry_table.specs.Hashes.{hash_of}
use Rattle.affix_strip.proofs.HeadLemmas.{NoneFronts}
use Rattle.affix_strip.proofs.edges.Edge.may_begin.Given as goal

abbrev pub invariant-loop-count : goal.invariant-loop-count
invariant-loop-count l = record {
  hash : l.key ≡ hash_of (take l.count l.text);
  none : NoneFronts l.self l.text l.count;
}
