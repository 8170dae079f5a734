-- Entries whose words stand in one text, and whose sets of flags stand apart.
use Rattle.std.specs.Prelude.{ℕ, ◌≤◌, ◌<◌, List, [], length, take, get_or, slice_range}
use Rattle.std.specs.Str.{IsUtf8, chars}
use Rattle.spell_types.specs.declared.Entry.{Entry}
use Rattle.spell_types.specs.declared.entries.Row.{Row}
use Rattle.spell_types.specs.declared.flags.Flag.{Flag}

-- the entry of a row
abbrev pub entry_in : List ℕ → List (List Flag) → Row → Entry
entry_in text sets row =
    record { word = chars (slice_range text row.from row.to); flags = get_or sets row.set [] }

-- the text may be cut at this place, between characters
pub record IsEndIn (text : List ℕ) (end : ℕ) : Type 0 where
  pub within : end ≤ length text
  pub utf8 : IsUtf8 (take end text)

-- the word of the row is a part of the text, cut between characters, and its set is there
pub record IsRowIn (text : List ℕ) (sets : List (List Flag)) (row : Row) : Type 0 where
  pub ordered : row.from ≤ row.to
  pub within : row.to ≤ length text
  pub front : IsUtf8 (take row.from text)
  pub through : IsUtf8 (take row.to text)
  pub set : row.set < length sets
