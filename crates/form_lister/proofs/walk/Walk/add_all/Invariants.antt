-- The forms of the entries before the loop's place are there.
use Rattle.form_lister.specs.Walks.{Adds}
use Rattle.form_lister.proofs.WalkLemmas.{IsBelow}
use Rattle.form_lister.proofs.walk.Walk.add_all.Given as goal

abbrev pub invariant-loop-entry : goal.invariant-loop-entry
invariant-loop-entry l = Adds l.self (IsBelow l.entry) l.initial.found l.found
