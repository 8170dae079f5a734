-- The flags of a set, by what it is kept as.
use Rattle.std.specs.Prelude.{List, [], Option, None, Some}
use Rattle.std.specs.declared.alloc.Global.{Global}
use Rattle.std.specs.declared.sync.Arc.{Arc}
use Rattle.std.specs.declared.vec.Vec.{Vec}
use Rattle.std.specs.Arc.{arc_value}
use Rattle.spell_types.specs.declared.flags.Flag.{Flag}

abbrev pub kept_flags : Option (Arc (Vec Flag Global) Global) → List Flag
kept_flags None = []
kept_flags (Some flags) = (arc_value flags).items
