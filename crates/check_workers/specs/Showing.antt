-- How a paragraph stands, by what is shown of it.
use Rattle.std.specs.Prelude.{Bool, false, not}
use Rattle.board_share.specs.edit_core.Views.{ShownMarks, Marked, Unmarked}

-- whether it is parked
abbrev pub is_parked_in : ShownMarks → Bool
is_parked_in (Marked marks) = false
is_parked_in (Unmarked parked held_by) = parked

-- whether it is neither finished nor parked
abbrev pub is_open_in : ShownMarks → Bool
is_open_in (Marked marks) = false
is_open_in (Unmarked parked held_by) = not parked
