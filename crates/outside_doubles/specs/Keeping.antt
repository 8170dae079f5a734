-- What a sink in memory tells.
use Rattle.std.specs.Prelude.{ℕ, List, Option, Some, None, Bool, if◌then◌else◌}

-- the bytes that were added, as long as each piece was
abbrev pub kept_while : Bool → List ℕ → Option (List ℕ)
kept_while is_whole bytes = if is_whole then Some bytes else None
