-- The forms with a second suffix before the loop's place are there.
use Rattle.std.proofs.Common.{take}
use Rattle.form_lister.specs.Walks.{Adds, AtSome}
use Rattle.form_lister.proofs.WalkLemmas.{Ends}
use Rattle.form_lister.proofs.walk.Walk.add_pair_seconds.Given as goal

abbrev pub invariant-loop-second : goal.invariant-loop-second
invariant-loop-second l =
    Adds l.self (AtSome (Ends l.entry l.prefix l.first) (take l.second-index l.seconds))
    l.initial.found l.found
