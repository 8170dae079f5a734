-- How a written word is converted before it is looked up, and which of its characters are left out.
use Rattle.std.specs.Prelude.{◌≡◌, ℕ, ◌-◌, ◌<◌, ◌≤◌, zero, suc, Bool, not, IsTrue, ◌&&◌, ◌==◌, List}
use Rattle.std.specs.Prelude.{[], ◌∷◌, ◌++◌, length, filter, nat_eq, nat_lt, Option, Some, None}
use Rattle.std.specs.Prelude.{if◌then◌else◌}
use Rattle.std.specs.List.{AllByRecursion, list_all, starts_with}
use Rattle.spell_types.specs.declared.conversions.Conversion.{Conversion}

-- whether the row's pattern stands at the front of the text, character by character; no row without
-- a pattern fits
abbrev pub fits : List ℕ → Conversion → Bool
fits text row = nat_lt 0 (length row.from) && starts_with nat_eq text row.from

-- the row, or the other one if there is one and its pattern is longer
abbrev pub longer_of : Conversion → Option Conversion → Conversion
longer_of row None = row
longer_of row (Some other) = if nat_lt (length row.from) (length other.from) then other else row

-- the row with the longest pattern, the first of equally long ones
abbrev pub longest : List Conversion → Option Conversion
longest [] = None
longest (row ∷ more) = Some (longer_of row (longest more))

-- the row of the table that replaces its pattern at the front of the text: the longest of those
-- that fit
unfoldable pub best_fit : List Conversion → List ℕ → Option Conversion
best_fit table text = longest (filter (fits text) table)

-- what is written for a pattern, before the conversion of what follows it
abbrev pub replaced : Option Conversion → ℕ → List ℕ
replaced None c = c ∷ []
replaced (Some row) c = row.to

-- how many characters behind its first one a pattern has
abbrev pub more_read : Option Conversion → ℕ
more_read None = 0
more_read (Some row) = length row.from - 1

-- the text converted from the place behind its first characters, so many of which a pattern has
-- read already
abbrev pub converted_behind : List Conversion → ℕ → List ℕ → List ℕ
converted_behind table read [] = []
converted_behind table (suc read) (c ∷ text) = converted_behind table read text
converted_behind table zero (c ∷ text) =
    let found = best_fit table (c ∷ text) in
    replaced found c ++ converted_behind table (more_read found) text

-- The word converted: from left to right, at each place the best fitting row writes its replacement
-- for its pattern, and where none fits the character is kept. Neither is read again.
unfoldable pub converted : List Conversion → List ℕ → List ℕ
converted table word = converted_behind table 0 word

-- whether a character differs from each of those to ignore
abbrev pub is_kept : List ℕ → ℕ → Bool
is_kept ignore c = list_all (λ other. not (other == c)) ignore

-- the word without the characters to ignore
abbrev pub without_ignored : List ℕ → List ℕ → List ℕ
without_ignored ignore word = filter (is_kept ignore) word

-- What a best fitting row is: it stands in the table and fits, each fitting row before it is
-- shorter, and none behind it is longer.
pub record IsBestFit (table : List Conversion) (text : List ℕ) (row : Conversion) : Type 0 where
  pub before : List Conversion
  pub behind : List Conversion
  pub whole : table ≡ before ++ row ∷ behind
  pub fitting : IsTrue (fits text row)
  pub shorter_before : AllByRecursion
      (λ other. IsTrue (fits text other) → length other.from < length row.from) before
  pub no_longer_behind : AllByRecursion
      (λ other. IsTrue (fits text other) → length other.from ≤ length row.from) behind

-- no row of the table fits
abbrev pub NoneFits : List Conversion → List ℕ → Type 0
NoneFits table text = AllByRecursion (λ other. ¬ (IsTrue (fits text other))) table
