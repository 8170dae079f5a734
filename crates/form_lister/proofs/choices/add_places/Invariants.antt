-- The places of the rows before the loop's place are added.
use Rattle.std.proofs.Common.{◌≡◌, ◌++◌, Some, map, take}
use Rattle.form_lister.proofs.choices.add_places.Given as goal

abbrev pub invariant-loop-row : goal.invariant-loop-row
invariant-loop-row l =
    l.places.items ≡ l.initial.places.items ++ map (λ row. Some row.place) (take l.row-index l.rows)
