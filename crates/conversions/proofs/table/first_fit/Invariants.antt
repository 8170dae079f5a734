-- The word stays as it is up to the loop's place.
use Rattle.std.proofs.Common.{◌≡◌, ◌++◌, take, drop}
use Rattle.spell_types.specs.Conversions.{converted}
use Rattle.conversions.proofs.table.first_fit.Given as goal

abbrev pub invariant-loop-start : goal.invariant-loop-start
invariant-loop-start l =
    converted l.table l.word ≡ take l.start l.word ++ converted l.table (drop l.start l.word)
