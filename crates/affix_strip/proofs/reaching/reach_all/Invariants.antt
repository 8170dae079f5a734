-- So far the places before the loop's may be reached.
use Rattle.affix_strip.proofs.ReachingLemmas.{ReachesUpTo}
use Rattle.affix_strip.proofs.reaching.reach_all.Given as goal

abbrev pub invariant-loop-place : goal.invariant-loop-place
invariant-loop-place l = ReachesUpTo l.fn.from l.place l.initial.reached l.reached
