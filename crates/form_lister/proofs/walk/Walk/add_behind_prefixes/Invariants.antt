-- The forms behind a prefix before the loop's place are there.
use Rattle.std.proofs.Common.{take}
use Rattle.form_lister.specs.Walks.{Adds, AtSome, IsOfEntryAndPrefix}
use Rattle.form_lister.proofs.walk.Walk.add_behind_prefixes.Given as goal

abbrev pub invariant-loop-prefix : goal.invariant-loop-prefix
invariant-loop-prefix l =
    Adds l.self (AtSome (IsOfEntryAndPrefix l.self.stems.now l.entry) (take l.prefix-index l.prefixes))
    l.initial.found l.found
