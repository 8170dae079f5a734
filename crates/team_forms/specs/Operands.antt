-- What the operands of `team` say.
use Rattle.std.specs.Prelude.{ℕ, List}

-- the files that the words of `team` name
pub record TeamNamed : Type 0 where
  pub aff : List ℕ
  pub dic : List ℕ
  pub script : List ℕ
