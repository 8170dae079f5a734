-- The forms with a first suffix before the loop's place are there.
use Rattle.std.proofs.Common.{take}
use Rattle.form_lister.specs.Walks.{Adds, AtSome, HasPair}
use Rattle.form_lister.proofs.walk.Walk.add_pairs.Given as goal

abbrev pub invariant-loop-first : goal.invariant-loop-first
invariant-loop-first l =
    Adds l.self (AtSome (HasPair l.entry l.prefix) (take l.first-index l.firsts))
    l.initial.found l.found
