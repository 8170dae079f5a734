-- The whole text is accepted where the rest at the loop's place is.
use Rattle.std.proofs.Common.{◌≡◌, drop}
use Rattle.spell_types.specs.Conditions.{accepts_each}
use Rattle.spell_types.proofs.attaching.accepts_each.Given as goal

abbrev pub invariant-loop-place : goal.invariant-loop-place
invariant-loop-place l =
    accepts_each l.pieces l.text ≡ accepts_each (drop l.place l.pieces) (drop l.place l.text)
