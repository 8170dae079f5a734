-- The groups of the rules that add one text, by what they strip off.
use Rattle.std.specs.Prelude.{◌≡◌, ◌↔◌, ℕ, List, [], slice_get, nat_eq, Option, Some, Contains}
use Rattle.std.specs.Cmp.Lexicographic.{pointwise}
use Rattle.std.specs.List.{IsDistinct}
use Rattle.std.specs.List.Sorted.{IsStrictlyIncreasing}
use Rattle.std.specs.Map.{keys_of}
use Rattle.std.specs.Option.{option_map_or}
use Rattle.std.specs.declared.alloc.Global.{Global}
use Rattle.std.specs.declared.vec.Vec.{Vec}
use Rattle.spell_types.specs.declared.rules.Rule.{Rule}
use Rattle.spell_types.specs.declared.rules.Side.{Side}

-- what its rules strip off, and their places
abbrev pub Group : Type 0
Group = Vec ℕ Global × Vec ℕ Global

-- what the rules of a group strip off, if there is one
abbrev pub strip_in : Option Group → List ℕ
strip_in group = option_map_or (λ g. g.0.items) group []

-- the places of a group, if there is one
abbrev pub places_in : Option Group → List ℕ
places_in group = option_map_or (λ g. g.1.items) group []

-- each text that is stripped off has one group
abbrev pub AreApart : List Group → Type 0
AreApart groups = IsDistinct (λ key other. pointwise nat_eq key.items other.items) (keys_of groups)

-- a place stands in a group of rules that strip this off
pub record HasPlace (groups : List Group) (strip : List ℕ) (place : ℕ) : Type 0 where
  pub group : Group
  pub among : Contains groups group
  pub strips : group.0.items ≡ strip
  pub has : Contains group.1.items place

-- these are the groups of the rules of a side that add a text
pub record AreGroups (rules : List Rule) (side : Side) (added : List ℕ) (groups : List Group) : Type
    0 where
  pub members : (strip : List ℕ) (place : ℕ) → HasPlace groups strip place
      ↔ ((rule : Rule) × (slice_get rules place ≡ Some rule) × (rule.side ≡ side)
      × (rule.add ≡ added) × (rule.strip ≡ strip))
  pub rising : (group : Group) → Contains groups group → IsStrictlyIncreasing group.1.items
  pub apart : AreApart groups
