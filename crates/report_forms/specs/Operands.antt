-- What the operands of `check`, `forms` and `make` say.
use Rattle.std.specs.Prelude.{ℕ, List, Option, nat_le, ◌&&◌, Some, None, if◌then◌else◌}
use Rattle.file_loading.specs.Operands.{DictionaryNamed}

-- the files that the words of `check` name
pub record CheckedFiles : Type 0 where
  pub dictionary : DictionaryNamed
  pub document : List ℕ

-- the files of the dictionary whose forms the words of `forms` ask for, by their names
pub record ListedFiles : Type 0 where
  pub aff : List ℕ
  pub dic : List ℕ

-- what the words of `make` ask for: a dictionary and a text of this size, whose words are drawn
-- from this start on
pub record StartAndSize : Type 0 where
  pub start : ℕ
  pub size : ℕ

-- the greatest size that is made
abbrev pub size_limit : ℕ
size_limit = 50000

abbrev pub of_numbers : Option ℕ → Option ℕ → Option StartAndSize
of_numbers (Some start) (Some size) =
    if nat_le 1 size && nat_le size size_limit then Some (record { start = start; size = size })
    else None
of_numbers _ _ = None
