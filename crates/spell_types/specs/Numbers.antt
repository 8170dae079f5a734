-- Numbers, and words with dots behind them.
use Rattle.std.specs.Prelude.{ℕ, ◌-◌, Bool, ◌&&◌, ◌||◌, ◌==◌, List, length, take, nat_lt}
use Rattle.std.specs.List.{list_all, slice_split, suffix_len}
use Rattle.std.specs.Char.{is_ascii_digit}

-- what stands between the groups of a number: a dot, a comma or a dash
abbrev pub is_separator : ℕ → Bool
is_separator c = c == 46 || (c == 44 || c == 45)

-- one ASCII digit or more
abbrev pub is_group : List ℕ → Bool
is_group text = nat_lt 0 (length text) && list_all is_ascii_digit text

-- groups of digits, with one separator between neighbours
unfoldable pub is_number : List ℕ → Bool
is_number word = list_all is_group (slice_split is_separator word)

abbrev pub is_dot : ℕ → Bool
is_dot c = c == 46

-- the word without the dots at its end
unfoldable pub undotted : List ℕ → List ℕ
undotted word = take (length word - suffix_len is_dot word) word
