-- The names of the files of a dictionary.
use Rattle.std.specs.Prelude.{ℕ, List, Option}

-- the files of a dictionary, by their names, and that of a personal list, if one is named
pub record DictionaryNamed : Type 0 where
  pub aff : List ℕ
  pub dic : List ℕ
  pub own : Option (List ℕ)
