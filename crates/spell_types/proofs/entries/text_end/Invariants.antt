-- No row before the loop's place ends later, and where all rows end the text may be cut here.
use Rattle.std.proofs.Common.{◌≡◌, ℕ, ◌<◌, ◌≤◌, List, slice_get, Some}
use Rattle.spell_types.specs.declared.entries.Row.{Row}
use Rattle.spell_types.specs.Rows.{IsEndIn}
use Rattle.spell_types.proofs.entries.text_end.Given as goal

abbrev pub invariant-loop-row : goal.invariant-loop-row
invariant-loop-row l =
    ((place : ℕ) (row : Row) → place < l.row-index → slice_get l.rows place ≡ Some row
    → row.to ≤ l.end)
    × ((text : List ℕ)
    → ((place : ℕ) (row : Row) → slice_get l.rows place ≡ Some row → IsEndIn text row.to)
    → IsEndIn text l.end)
