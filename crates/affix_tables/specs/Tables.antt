-- What tables hold.
use Rattle.std.specs.Prelude.{◌≡◌, ℕ, ◌+◌, ◌-◌, ◌≤◌, min, true, ◌&&◌, List, [], ◌∷◌, ◌++◌, length}
use Rattle.std.specs.Prelude.{take, drop, nat_eq, slice_get, Some, if◌then◌else◌}
use Rattle.std.specs.Cmp.Lexicographic.{pointwise}
use Rattle.std.specs.List.{flat_map, range_with_len}
use Rattle.std.specs.List.Sorted.{IsPermutation}
use Rattle.std.specs.Map.{lookup}
use Rattle.std.specs.Option.{option_map_or}
use Rattle.std.specs.declared.alloc.Global.{Global}
use Rattle.std.specs.declared.vec.Vec.{Vec}
use Rattle.indexmap.specs.IndexMap.{IndexMap}
use Rattle.spell_types.specs.declared.rules.Rule.{Rule}
use Rattle.spell_types.specs.declared.rules.Side.{Side}
use Rattle.spell_types.specs.declared.rules.Side.TheVariants.{Prefix, Suffix}
use Rattle.spell_types.specs.Derivations.{is_same_side}
use Rattle.affix_tables.specs.declared.SideTable.{SideTable}
use Rattle.affix_tables.specs.declared.AffixTables.{AffixTables}
use Rattle.affix_tables.specs.Ends.{HasEnds, HasText}
use Rattle.affix_tables.specs.Groups.{Group}
use Rattle.affix_tables.specs.Places.{adds_on, exchanges, places_where}

-- the places that these entries have at a text; none where it is not among them
abbrev pub places_at : List (Vec ℕ Global × Vec ℕ Global) → List ℕ → List ℕ
places_at entries text =
    option_map_or (λ places. places.items) (lookup (λ key. pointwise nat_eq text key.items) entries)
    []

-- the groups that these entries have at a text; none where it is not among them
abbrev pub groups_at : {S : Type 0} → List (Vec ℕ Global × IndexMap (Vec ℕ Global) (Vec ℕ Global) S)
    → List ℕ → List Group
groups_at entries text =
    option_map_or (λ groups. groups.entries)
    (lookup (λ key. pointwise nat_eq text key.items) entries) []

-- the places of all groups, group by group
abbrev pub all_places : List Group → List ℕ
all_places groups = flat_map (λ group. group.1.items) groups

-- the place is added at the end of the group of the rules that add and strip off these texts, and
-- to no other
pub record Puts {S : Type 0}
    (before now : List (Vec ℕ Global × IndexMap (Vec ℕ Global) (Vec ℕ Global) S))
    (added stripped : List ℕ) (place : ℕ) : Type 0 where
  pub at_strip : (text strip : List ℕ) → places_at (groups_at now text) strip
      ≡ places_at (groups_at before text) strip
      ++ (if pointwise nat_eq text added && pointwise nat_eq strip stripped then place ∷ [] else [])
  pub at_text : (text : List ℕ)
      → IsPermutation (all_places (groups_at now text))
      (all_places (groups_at before text)
      ++ (if pointwise nat_eq text added then place ∷ [] else []))

-- the table of the rules of a side: at each text the rules that add it, in groups by what they
-- strip off; no rule of the side adds more characters than the bound, and all that they add, and
-- its ends, have their keys
pub record IsTable (rules : List Rule) (side : Side) (table : SideTable) : Type 0 where
  pub at_strip : (text strip : List ℕ) → places_at (groups_at table.by_text.entries text) strip
      ≡ places_where (exchanges side text strip) rules
  pub at_text : (text : List ℕ) → IsPermutation (all_places (groups_at table.by_text.entries text))
      (places_where (adds_on side (pointwise nat_eq text)) rules)
  pub bounded : (place : ℕ) (rule : Rule) → slice_get rules place ≡ Some rule
      → is_same_side side rule.side ≡ true → length rule.add ≤ table.longest
  pub ends : (place : ℕ) (rule : Rule) → slice_get rules place ≡ Some rule
      → is_same_side side rule.side ≡ true → HasEnds side rule.add table.ends
  pub texts : (place : ℕ) (rule : Rule) → slice_get rules place ≡ Some rule
      → is_same_side side rule.side ≡ true → HasText side rule.add table.texts

-- the tables of these rules
pub record IsTableOf (rules : List Rule) (tables : AffixTables) : Type 0 where
  pub suffixes : IsTable rules Suffix tables.suffixes
  pub prefixes : IsTable rules Prefix tables.prefixes

-- the places at the endings of a word that have fewer than so many characters, by their lengths
abbrev pub endings_below : SideTable → List ℕ → ℕ → List ℕ
endings_below table word count =
    flat_map (λ n. all_places (groups_at table.by_text.entries (drop (length word - n) word)))
    (range_with_len 0 count)

-- the same of its fronts
abbrev pub fronts_below : SideTable → List ℕ → ℕ → List ℕ
fronts_below table word count =
    flat_map (λ n. all_places (groups_at table.by_text.entries (take n word)))
    (range_with_len 0 count)

-- The places at all endings of a word that have no more characters than some rule adds. They are
-- not in order.
abbrev pub ending_places : SideTable → List ℕ → List ℕ
ending_places table word = endings_below table word (min table.longest (length word) + 1)

-- the same of its fronts
abbrev pub front_places : SideTable → List ℕ → List ℕ
front_places table word = fronts_below table word (min table.longest (length word) + 1)
