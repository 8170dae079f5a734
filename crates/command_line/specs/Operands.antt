-- What options say.
use Rattle.std.specs.Prelude.{ℕ, List, Option}

-- what options say: how many workers there are, and which personal list is named, if one is
pub record OptionValues : Type 0 where
  pub workers : ℕ
  pub own : Option (List ℕ)
