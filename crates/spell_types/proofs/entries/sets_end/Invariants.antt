-- No row before the loop's place has a later set, and there are no more sets than rows have.
use Rattle.std.proofs.Common.{◌≡◌, ℕ, ◌+◌, ◌<◌, ◌≤◌, slice_get, Some}
use Rattle.spell_types.specs.declared.entries.Row.{Row}
use Rattle.spell_types.proofs.entries.sets_end.Given as goal

abbrev pub invariant-loop-row : goal.invariant-loop-row
invariant-loop-row l =
    ((place : ℕ) (row : Row) → place < l.row-index → slice_get l.rows place ≡ Some row
    → row.set + 1 ≤ l.end)
    × ((count : ℕ)
    → ((place : ℕ) (row : Row) → slice_get l.rows place ≡ Some row → row.set + 1 ≤ count)
    → l.end ≤ count)
