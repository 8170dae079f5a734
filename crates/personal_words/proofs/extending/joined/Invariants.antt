-- What stands there so far and what is left are all of them.
use Rattle.std.proofs.Common.{◌≡◌, ◌++◌}
use Rattle.personal_words.proofs.extending.joined.Given as goal

abbrev pub invariant-loop-entry : goal.invariant-loop-entry
invariant-loop-entry l =
    l.joined ++ l.entry-iterator.rest.items ≡ l.fn.entries ++ l.fn.more.items
