-- So far it is told where parts lead from the places before the loop's.
use Rattle.compound_words.specs.Rests.{asked_by, patterns_of}
use Rattle.compound_words.proofs.ReachLemmas.{AreReachedBelow}
use Rattle.compound_words.proofs.reach.reach_all.Given as goal

abbrev pub invariant-loop-from : goal.invariant-loop-from
invariant-loop-from l =
    AreReachedBelow (asked_by l.search) (patterns_of l.search) l.word l.reached l.from
