-- The fronts that are made so far, with each way to lower the rest behind them, are those of the
-- whole word.
use Rattle.std.proofs.Common.{◌≡◌, length}
use Rattle.spell_types.specs.Cases.{sharp_lowered}
use Rattle.letter_case.specs.Found.{behind_each}
use Rattle.letter_case.proofs.sharps.lowered_behind.Given as goal

abbrev pub invariant-loop-rest : goal.invariant-loop-rest
invariant-loop-rest l =
    behind_each l.made.items (sharp_lowered l.left l.rest) ≡ behind_each l.fn.fronts.items
    (sharp_lowered l.pairs l.word)

abbrev pub decreases-loop-rest : goal.decreases-loop-rest
decreases-loop-rest l = length l.rest
