-- The forms with a prefix before the loop's place are there.
use Rattle.std.proofs.Common.{take}
use Rattle.form_lister.specs.Walks.{Adds, AtSome}
use Rattle.form_lister.proofs.WalkLemmas.{Whole}
use Rattle.form_lister.proofs.walk.Walk.add_prefixes.Given as goal

abbrev pub invariant-loop-prefix : goal.invariant-loop-prefix
invariant-loop-prefix l =
    Adds l.self (AtSome (Whole l.entry l.first l.second) (take l.prefix-index l.prefixes))
    l.initial.found l.found
