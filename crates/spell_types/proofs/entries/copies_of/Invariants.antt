-- The sets before the loop's place are copied.
use Rattle.std.proofs.Common.{◌≡◌, take}
use Rattle.spell_types.proofs.entries.copies_of.Given as goal

abbrev pub invariant-loop-set : goal.invariant-loop-set
invariant-loop-set l = l.made.items ≡ take l.set-index l.sets
