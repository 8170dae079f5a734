-- The forms with a second suffix before the loop's place are there.
use Rattle.std.proofs.Common.{take}
use Rattle.form_lister.specs.Walks.{Adds, AtSome, HasSuffixes}
use Rattle.form_lister.proofs.walk.Walk.add_seconds.Given as goal

abbrev pub invariant-loop-second : goal.invariant-loop-second
invariant-loop-second l =
    Adds l.self (AtSome (HasSuffixes l.entry l.first) (take l.second-index l.seconds))
    l.initial.found l.found
