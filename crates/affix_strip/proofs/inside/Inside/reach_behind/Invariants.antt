-- So far it is told of the words behind as many characters.
use Rattle.std.proofs.Common.{◌≡◌, take}
use Rattle.entry_table.specs.Hashes.{hash_of}
use Rattle.affix_strip.proofs.ReachingLemmas.{ReachesBehindTo}
use Rattle.affix_strip.proofs.inside.Inside.reach_behind.Given as goal

abbrev pub invariant-loop-count : goal.invariant-loop-count
invariant-loop-count l = record {
  hash : l.key ≡ hash_of (take l.count l.text);
  reaches : ReachesBehindTo l.self.known l.fronts l.self.ends l.text l.at l.count
      l.initial.reached l.reached;
}
