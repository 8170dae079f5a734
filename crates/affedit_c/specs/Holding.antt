-- What a pointer owns that may have a value behind it.
use Rattle.std.specs.Prelude.{Option, None, Some}
use Rattle.std.specs.Box.Ownership.{box_owns}
use mir.Syntax.{Ty}
use base.Fml.{Fml, ftrue}
use denote.RattleType.{RattleType}
use denote.RawPtr.{Ptr}

-- the value, if there is one, and the right to free its memory
abbrev pub may_own : (Ty → Ptr → Fml) → (R : RattleType) → Ptr → Option R.Denot → Fml
may_own may_free R at None = ftrue
may_own may_free R at (Some value) = box_owns may_free R at value
