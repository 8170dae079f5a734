-- The places of the rows that have a flag before the loop's place are there.
use Rattle.std.proofs.Common.{take}
use Rattle.std.specs.List.Sorted.{IsNonDecreasingBy}
use Rattle.form_lister.specs.Choices.{HasPlaces}
use Rattle.form_lister.proofs.choices.places_with.Given as goal

abbrev pub invariant-loop-flag : goal.invariant-loop-flag
invariant-loop-flag l = IsNonDecreasingBy (λ row. row.flag) l.rows
    → HasPlaces l.rows (take l.flag-index l.flags) l.allowed.items
