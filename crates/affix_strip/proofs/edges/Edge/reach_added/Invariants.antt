-- So far it is told of the places behind as many characters.
use Rattle.std.proofs.Common.{◌≡◌, take}
use Rattle.entry_table.specs.Hashes.{hash_of}
use Rattle.affix_strip.proofs.ReachingLemmas.{ReachesAddedTo}
use Rattle.affix_strip.proofs.edges.Edge.reach_added.Given as goal

abbrev pub invariant-loop-count : goal.invariant-loop-count
invariant-loop-count l = record {
  hash : l.key ≡ hash_of (take l.count l.text);
  reaches : ReachesAddedTo l.self l.text l.at l.whole l.count l.initial.reached l.reached;
}
