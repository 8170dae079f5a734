-- What the tables of a dictionary hold.
use Rattle.std.specs.Prelude.{◌≡◌, ℕ, Bool, true, false, ◌&&◌, List, [], map, slice_get, Some}
use Rattle.std.specs.Prelude.{if◌then◌else◌}
use Rattle.std.specs.List.{list_any}
use Rattle.std.specs.Option.{option_map_or}
use Rattle.spell_types.specs.declared.Entry.{Entry}
use Rattle.spell_types.specs.declared.Lexicon.{Lexicon}
use Rattle.spell_types.specs.declared.flags.Flag.{Flag}
use Rattle.spell_types.specs.declared.rules.Rule.{Rule}
use Rattle.spell_types.specs.declared.rules.Side.TheVariants.{Suffix}
use Rattle.spell_types.specs.Derivations.{is_same_side}
use Rattle.spell_types.specs.Flags.{has, has_flag_of}
use Rattle.affix_tables.specs.Tables.{IsTableOf}
use Rattle.entry_table.specs.EntryTable.{HasEntries}
use Rattle.affix_strip.specs.Heads.{IsHeaded}
use Rattle.affix_strip.specs.Inside.{IsInsideOfLexicon}
use Rattle.affix_strip.specs.Lengths.{IsLongest}
use Rattle.affix_strip.specs.Peeling.{may_undo_at}
use Rattle.entry_table.specs.declared.table.EntryTable.{EntryTable}
use Rattle.affix_strip.specs.declared.barring.Barring.{Barring}
use Rattle.affix_strip.specs.declared.barring.Barring.TheVariants.{Nowhere, AtEntries, AtForms}
use Rattle.affix_strip.specs.declared.walk.IndexedLexicon.{IndexedLexicon}
use Rattle.affix_strip.specs.declared.walk.Tables.{Tables}

-- the flags that the rule carries, if it is a suffix rule
abbrev pub carried_by_suffix : Rule → List Flag
carried_by_suffix rule = if is_same_side Suffix rule.side then rule.carried else []

-- the set has each flag of a class that a suffix rule carries
pub record HasCarried (rules : List Rule) (set : List Flag) : Type 0 where
  pub flags : (place own : ℕ) (rule other : Rule) → slice_get rules place ≡ Some rule
      → rule.side ≡ Suffix → slice_get rules own ≡ Some other
      → has rule.carried (Some other.flag) ≡ true → has set (Some other.flag) ≡ true

-- at the place of each rule whether it may be a second suffix: where it says no, no suffix rule
-- carries the rule's flag
pub record AreSeconds (rules : List Rule) (seconds : List Bool) : Type 0 where
  pub set : List Flag
  pub carried : HasCarried rules set
  pub are : seconds ≡ map (λ rule. has set (Some rule.flag)) rules

-- whether the entry is forbidden
abbrev pub is_forbidden_entry : Lexicon → Entry → Bool
is_forbidden_entry lexicon entry = has entry.flags lexicon.affixes.signs.forbidden

-- whether it is, and has one of the flags of classes
abbrev pub takes_affixes : Lexicon → List Flag → Entry → Bool
takes_affixes lexicon classes entry =
    is_forbidden_entry lexicon entry && has_flag_of classes entry.flags

-- it holds of each forbidden entry
abbrev pub OfForbidden : Lexicon → (Entry → Type 0) → Type 0
OfForbidden lexicon holds =
    (place : ℕ) (entry : Entry) → slice_get lexicon.entries place ≡ Some entry
    → is_forbidden_entry lexicon entry ≡ true → holds entry

-- the entry allows no affix
abbrev pub AllowsNone : List Rule → Entry → Type 0
AllowsNone rules entry = (place : ℕ) (rule : Rule) → slice_get rules place ≡ Some rule
    → has entry.flags (Some rule.flag) ≡ false

-- where the derivations of forbidden words are found
abbrev pub IsBarring : Lexicon → Barring → Type 0
IsBarring lexicon Nowhere = OfForbidden lexicon (λ entry. ⊥)
IsBarring lexicon AtEntries = OfForbidden lexicon (AllowsNone lexicon.affixes.rules)
IsBarring lexicon AtForms = Unit {0}

-- these are the tables of the dictionary, and that of its entries
pub record AreTablesOf (lexicon : Lexicon) (tables : Tables) (by_word : EntryTable) : Type 0 where
  pub rules : IsTableOf lexicon.affixes.rules tables.rules
  pub entries : HasEntries lexicon.entries by_word
  pub seconds : AreSeconds lexicon.affixes.rules tables.seconds.items
  pub has_seconds : tables.has_seconds ≡ list_any (λ may. may) tables.seconds.items
  pub barring : IsBarring lexicon tables.barring
  pub heads : IsHeaded lexicon tables.heads
  pub longest : IsLongest lexicon tables.longest
  pub inside : IsInsideOfLexicon lexicon tables.inside

-- the tables are those of the dictionary
abbrev pub IsReady : IndexedLexicon → Type 0
IsReady dictionary = AreTablesOf dictionary.lexicon dictionary.tables dictionary.by_word

-- whether the rule with a place may be a second suffix
abbrev pub may_be_outer : IndexedLexicon → ℕ → Bool
may_be_outer dictionary place =
    option_map_or (λ may. may) (slice_get dictionary.tables.seconds.items place) false

-- whether the rule with a place may be a second suffix that is attached to this
abbrev pub may_undo_outer : IndexedLexicon → List ℕ → ℕ → Bool
may_undo_outer dictionary rest place =
    may_be_outer dictionary place && may_undo_at dictionary.lexicon.affixes Suffix rest place
