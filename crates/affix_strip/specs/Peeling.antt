-- Words without the affixes of groups of rules.
use Rattle.std.specs.Prelude.{◌≡◌, ℕ, ◌-◌, Bool, true, false, ◌&&◌, List, ◌++◌, length, take, drop}
use Rattle.std.specs.Prelude.{nat_eq, slice_get, Contains, Some}
use Rattle.std.specs.List.{starts_with, ends_with}
use Rattle.std.specs.Option.{option_map_or}
use Rattle.spell_types.specs.declared.Affixes.{Affixes}
use Rattle.spell_types.specs.declared.rules.Piece.{Piece}
use Rattle.spell_types.specs.declared.rules.Rule.{Rule}
use Rattle.spell_types.specs.declared.rules.Side.{Side}
use Rattle.spell_types.specs.declared.rules.Side.TheVariants.{Prefix, Suffix}
use Rattle.spell_types.specs.Attaching.{may_strip}
use Rattle.spell_types.specs.Conditions.{fits_front, fits_back}
use Rattle.affix_tables.specs.Groups.{Group}

-- a rule of the side stands at the place
abbrev pub IsOn : List Rule → Side → ℕ → Rule → Type 0
IsOn rules side place rule = (slice_get rules place ≡ Some rule) × (rule.side ≡ side)

-- what is kept of a word, with a text at the side's end
abbrev pub join : Side → List ℕ → List ℕ → List ℕ
join Prefix kept text = text ++ kept
join Suffix kept text = kept ++ text

-- whether the word has the text at the side's end
abbrev pub has_at : Side → List ℕ → List ℕ → Bool
has_at Prefix word text = starts_with nat_eq word text
has_at Suffix word text = ends_with nat_eq word text

-- so many characters at the side's end of a word
abbrev pub cut_off : Side → List ℕ → ℕ → List ℕ
cut_off Prefix word count = take count word
cut_off Suffix word count = drop (length word - count) word

-- the others
abbrev pub kept_behind_cut : Side → List ℕ → ℕ → List ℕ
kept_behind_cut Prefix word count = drop count word
kept_behind_cut Suffix word count = take (length word - count) word

-- a word that is cut so many characters from the side's end
pub record IsCutAtSide (side : Side) (word : List ℕ) (count : ℕ) (added kept : List ℕ) : Type 0 where
  pub off : added ≡ cut_off side word count
  pub left : kept ≡ kept_behind_cut side word count

-- a word without an affix, and the places of the rules that may have added it
abbrev pub Peeled : Type 0
Peeled = List ℕ × List ℕ

-- what a group leaves of a word, of which so much is kept
abbrev pub peeled_by : Side → List ℕ → Group → Peeled
peeled_by side kept group = (join side kept group.0.items, group.1.items)

-- the rule with a place is one of the side that may have added what the word has there, and leaves
-- this in place of it
pub record Leaves (rules : List Rule) (side : Side) (word : List ℕ) (place : ℕ)
    (rest : List ℕ) : Type 0 where
  pub rule : Rule
  pub on : IsOn rules side place rule
  pub fits : has_at side word rule.add ≡ true
  pub is : join side (kept_behind_cut side word (length rule.add)) rule.strip ≡ rest

-- the place is among those of a word that is peeled
pub record IsPeeled (found : List Peeled) (place : ℕ) : Type 0 where
  pub peeled : Peeled
  pub among : Contains found peeled
  pub has : Contains peeled.1 place

-- the word without each affix that rules of the side may have added
pub record ArePeeled (rules : List Rule) (side : Side) (word : List ℕ) (found : List Peeled) : Type
    0 where
  pub sound : (peeled : Peeled) (place : ℕ) → Contains found peeled → Contains peeled.1 place
      → Leaves rules side word place peeled.0
  pub all : (place : ℕ) (rule : Rule) → IsOn rules side place rule
      → has_at side word rule.add ≡ true → IsPeeled found place

-- whether a condition fits the side's end of a word
abbrev pub fits_on : Side → List Piece → List ℕ → Bool
fits_on Prefix condition word = fits_front condition word
fits_on Suffix condition word = fits_back condition word

-- whether the rule may be attached to what it leaves
abbrev pub may_undo : Bool → Side → List ℕ → Rule → Bool
may_undo full_strip side rest rule =
    may_strip full_strip rule rest && fits_on side rule.condition rest

-- the same of the rule with a place
abbrev pub may_undo_at : Affixes → Side → List ℕ → ℕ → Bool
may_undo_at affixes side rest place =
    option_map_or (may_undo affixes.options.full_strip side rest) (slice_get affixes.rules place)
    false
