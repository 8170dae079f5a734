-- The flags of the sets before the loop's place are there.
use Rattle.std.proofs.Common.{◌≡◌, take}
use Rattle.std.specs.List.{flat_map}
use Rattle.spell_types.proofs.entries.flags_in.Given as goal

abbrev pub invariant-loop-set : goal.invariant-loop-set
invariant-loop-set l = l.flags.items ≡ flat_map (λ set. set) (take l.set-index l.sets)
