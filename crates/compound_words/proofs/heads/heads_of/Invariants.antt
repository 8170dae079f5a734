-- So far they are enough for the rests before the loop's place.
use Rattle.compound_words.proofs.HeadLemmas.{AreHeadsTo}
use Rattle.compound_words.proofs.heads.heads_of.Given as goal

abbrev pub invariant-loop-place : goal.invariant-loop-place
invariant-loop-place l = AreHeadsTo l.rests l.heads l.place
