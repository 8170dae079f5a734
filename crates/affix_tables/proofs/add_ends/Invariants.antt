-- So far the keys of the ends up to the loop's number are there.
use Rattle.affix_tables.proofs.EndLemmas.{AreAdded}
use Rattle.affix_tables.proofs.add_ends.Given as goal

abbrev pub invariant-loop-number : goal.invariant-loop-number
invariant-loop-number l = AreAdded l.side l.text l.number l.key l.initial.ends l.ends
