-- The patterns of a table in order, and the best of them at the front of a text.
use Rattle.std.specs.Prelude.{◌≡◌, ℕ, ◌<◌, ◌≤◌, List, length, map, take, slice_get, Contains}
use Rattle.std.specs.Prelude.{MatchOption, Option, None, Some}
use Rattle.std.specs.Cmp.Lexicographic.{slice_cmp}
use Rattle.std.specs.List.{All}
use Rattle.std.specs.List.Sorted.{IsSorted}
use Rattle.std.specs.Option.{option_map}
use Rattle.std.specs.Ordering.{nat_cmp, ordering_then}
use Rattle.std.specs.declared.cmp.Ordering.{Ordering}
use Rattle.spell_types.specs.declared.conversions.Conversion.{Conversion}
use Rattle.text_order.specs.TextOrder.{Row}

-- a pattern, and the place of its row
abbrev pub ConversionPattern : Type 0
ConversionPattern = Row ℕ

-- the order of patterns by their characters, and of equal ones by their places
abbrev pub pattern_cmp : ConversionPattern → ConversionPattern → Ordering
pattern_cmp p q = ordering_then (slice_cmp nat_cmp p.0.items q.0.items) (nat_cmp p.1 q.1)

abbrev pub ArePatternsSorted : List ConversionPattern → Type 0
ArePatternsSorted patterns = IsSorted pattern_cmp patterns

-- the pattern is that of the row at its place
abbrev pub IsPatternOf : List Conversion → ConversionPattern → Type 0
IsPatternOf table p = option_map (λ row. row.from) (slice_get table p.1) ≡ Some p.0.items

-- these are the patterns of the table, each with its place, in order
pub record ArePatternsOf (table : List Conversion) (patterns : List ConversionPattern) : Type 0 where
  pub sorted : ArePatternsSorted patterns
  pub right : All (IsPatternOf table) patterns
  pub whole : (place : ℕ) → place < length table → Contains (map (λ p. p.1) patterns) place

-- the pattern stands at the front of the text, and has some characters, and no more than so many
pub record FitsUpTo (text : List ℕ) (most : ℕ) (pattern : List ℕ) : Type 0 where
  pub some : 0 < length pattern
  pub upto : length pattern ≤ most
  pub front : take (length pattern) text ≡ pattern

-- it is the longest of the patterns that do, and the first of its equals
pub record IsBestUpTo (patterns : List ConversionPattern) (text : List ℕ) (most : ℕ) (best : ConversionPattern) : Type
    0 where
  pub among : Contains patterns best
  pub fit : FitsUpTo text most best.0.items
  pub longest : (p : ConversionPattern) → Contains patterns p → FitsUpTo text most p.0.items
      → length p.0.items ≤ length best.0.items
  pub first : (p : ConversionPattern) → Contains patterns p → p.0.items ≡ best.0.items
      → best.1 ≤ p.1

-- the best one that was found, or none where none fits
abbrev pub BestUpTo : List ConversionPattern → List ℕ → ℕ → Option ConversionPattern → Type 0
BestUpTo patterns text most found =
    MatchOption found ((p : ConversionPattern) → Contains patterns p → ¬ (FitsUpTo text most p.0.items))
    (IsBestUpTo patterns text most)

-- what was made, or the word itself where nothing was
abbrev pub or_word : Option (List ℕ) → List ℕ → List ℕ
or_word None word = word
or_word (Some made) word = made
