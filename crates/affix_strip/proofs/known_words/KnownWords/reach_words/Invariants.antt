-- So far it is told of the words of which fewer characters are kept.
use Rattle.std.proofs.Common.{◌≡◌, take}
use Rattle.entry_table.specs.Hashes.{hash_of}
use Rattle.affix_strip.proofs.ReachingLemmas.{ReachesWordsBelow}
use Rattle.affix_strip.proofs.known_words.KnownWords.reach_words.Given as goal

abbrev pub invariant-loop-count : goal.invariant-loop-count
invariant-loop-count l = record {
  hash : l.key ≡ hash_of (take l.count l.text);
  reaches : ReachesWordsBelow l.self l.ends l.text l.at l.count l.initial.reached l.reached;
}
