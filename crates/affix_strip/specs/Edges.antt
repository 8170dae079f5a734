-- What some rules of a side add, by hashes of these texts.
use Rattle.std.specs.Prelude.{◌≡◌, ℕ, ◌+◌, ◌<◌, ◌≤◌, Bool, true, ◌&&◌, ◌||◌, List, [], ◌++◌}
use Rattle.std.specs.Prelude.{length, take}
use Rattle.std.specs.Prelude.{slice_get, Some}
use Rattle.key_filter.specs.Filter.{may_have}
use Rattle.spell_types.specs.declared.rules.Rule.{Rule}
use Rattle.spell_types.specs.declared.rules.Side.{Side}
use Rattle.spell_types.specs.Derivations.{is_same_side}
use Rattle.spell_types.specs.Flags.{has}
use Rattle.affix_strip.specs.declared.edges.Edge.{Edge}
use Rattle.affix_strip.specs.declared.edges.Those.{Those}
use Rattle.affix_strip.specs.declared.edges.Those.TheVariants.{All, Carrying}
use Rattle.entry_table.specs.Hashes.{hash_of}
use Rattle.affix_strip.specs.Reaching.{KeepsReached, is_reached}

-- whether a rule is one of those, whatever its side
abbrev pub is_rule_among : Those → Rule → Bool
is_rule_among All rule = true
is_rule_among (Carrying flag) rule = has rule.carried flag

-- whether it is one of those of the side
abbrev pub is_wanted : Side → Those → Rule → Bool
is_wanted side those rule = is_same_side side rule.side && is_rule_among those rule

-- the rule leaves a word as it is
abbrev pub IsSilent : Rule → Type 0
IsSilent rule = (rule.add ≡ []) × (rule.strip ≡ [])

-- what an affix adds is noted, and whether it strips something off
pub record IsNotedChange (edge : Edge) (add : List ℕ) (strips : ℕ) : Type 0 where
  pub within : length add ≤ edge.longest
  pub shortens : length add ≡ 0 → 0 < strips → edge.shortens ≡ true
  pub plain : 0 < length add → strips ≡ 0 → may_have edge.plain (hash_of add) ≡ true
  pub exchanged : 0 < length add → 0 < strips → may_have edge.exchanged (hash_of add) ≡ true
  pub exchanges : 0 < length add → 0 < strips → edge.exchanges ≡ true

-- what the rule adds is noted
abbrev pub IsNoted : Edge → Rule → Type 0
IsNoted edge rule = IsNotedChange edge rule.add (length rule.strip)

-- what was noted still is
abbrev pub KeepsNoted : Edge → Edge → Type 0
KeepsNoted before now = (rule : Rule) → IsNoted before rule → IsNoted now rule

-- what those rules of the side add is noted
abbrev pub IsEdge : List Rule → Side → Those → Edge → Type 0
IsEdge rules side those edge =
    (place : ℕ) (rule : Rule) → slice_get rules place ≡ Some rule → is_wanted side those rule ≡ true
    → IsNoted edge rule

-- none of the rules may begin the text, but those that leave it as it is
abbrev pub NoneBegin : Edge → List ℕ → Type 0
NoneBegin edge text = (rule : Rule) (rest : List ℕ) → IsNoted edge rule → text ≡ rule.add ++ rest
    → IsSilent rule

-- whether the text with this hash may be added, by an affix that strips something off, or behind
-- a whole word
abbrev pub adds : Edge → Bool → ℕ → Bool
adds edge whole key =
    (whole && may_have edge.plain key) || (edge.exchanges && may_have edge.exchanged key)

-- The places may be reached too that stand behind what may be added at the front of a text, which
-- is the rest of a word from a place on.
pub record ReachesAdded (edge : Edge) (text : List ℕ) (at : ℕ) (whole : Bool)
    (before now : List Bool) : Type 0 where
  pub kept : KeepsReached at before now
  pub told : (count : ℕ) → 0 < count → count ≤ edge.longest → count < length text
      → adds edge whole (hash_of (take count text)) ≡ true → is_reached now (at + count) ≡ true

-- The places before the end of a text may be reached too to which an affix leads that begins there;
-- one that strips nothing off stands behind a whole word. The text is the rest of a word from a
-- place on.
pub record ReachesEndings (edge : Edge) (text : List ℕ) (at : ℕ) (whole : Bool)
    (before now : List Bool) : Type 0 where
  pub kept : KeepsReached at before now
  pub told : (add more : List ℕ) (strips : ℕ) → IsNotedChange edge add strips
      → (strips ≡ 0 → whole ≡ true) → text ≡ add ++ more → 0 < length more
      → is_reached now (at + length add) ≡ true
