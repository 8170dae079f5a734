-- Which derivations a walk from an entry comes to.
use Rattle.std.specs.Prelude.{◌≡◌, ℕ, true, List, [], slice_get, Contains, Option, Some}
use Rattle.std.specs.Prelude.{option_and_then}
use Rattle.std.specs.Option.{option_map_or}
use Rattle.spell_types.specs.declared.Lexicon.{Lexicon}
use Rattle.spell_types.specs.declared.derivations.Derivation.{Derivation}
use Rattle.spell_types.specs.declared.flags.Flag.{Flag}
use Rattle.spell_types.specs.declared.rules.Rule.{Rule}
use Rattle.spell_types.specs.declared.rules.Side.{Side}
use Rattle.spell_types.specs.declared.rules.Side.TheVariants.{Suffix}
use Rattle.spell_types.specs.Derivations.{form_of, rule_on}
use Rattle.spell_types.specs.Flags.{has}
use Rattle.spell_types.specs.Licences.{is_alone}
use Rattle.form_lister.specs.Choices.{AreByFlag}
use Rattle.form_lister.specs.Found.{AreFound, KeepsWords, HasForm}
use Rattle.form_lister.specs.declared.found.Found.{Found}
use Rattle.form_lister.specs.declared.walk.Walk.{Walk}

-- the flags of the entry with a place
abbrev pub flags_at : Lexicon → ℕ → List Flag
flags_at lexicon place = option_map_or (λ entry. entry.flags) (slice_get lexicon.entries place) []

-- the flags that the rule with a place carries, if one is named
abbrev pub carried_at : Lexicon → Option ℕ → List Flag
carried_at lexicon named =
    option_map_or (λ rule. rule.carried)
    (option_and_then (slice_get lexicon.affixes.rules) named) []

-- the rules of the walk are those of its dictionary, and what was found so far is what it seeks
pub record IsUnderWay (walk : Walk) (now : Found) : Type 0 where
  pub rules : AreByFlag walk.stems.now.affixes.rules walk.rules
  pub found : AreFound walk.stems.now walk.limit now

-- the forms of those derivations that stand alone were found, if they may be listed
abbrev pub HasFormsOf : Lexicon → (Derivation → Type 0) → Found → Type 0
HasFormsOf lexicon those found = (d : Derivation) (word : List ℕ) → those d
    → is_alone lexicon d ≡ true → form_of lexicon d ≡ Some word → HasForm lexicon word found

-- the walk goes on, no form is lost, and those of these derivations are there
pub record Adds (walk : Walk) (those : Derivation → Type 0) (before now : Found) : Type 0 where
  pub way : IsUnderWay walk now
  pub kept : KeepsWords before now
  pub all : HasFormsOf walk.stems.now those now

-- it holds of the derivation at one of the items
pub record AtSome {X : Type 0} (holds : X → Derivation → Type 0) (items : List X)
    (d : Derivation) : Type 0 where
  pub item : X
  pub among : Contains items item
  pub is : holds item d

-- each derivation
abbrev pub Each : Derivation → Type 0
Each d = Unit {0}

-- it is from this entry
abbrev pub IsFrom : ℕ → Derivation → Type 0
IsFrom entry d = d.entry ≡ entry

-- and it has this first suffix, or none
pub record HasFirst (entry : ℕ) (first : Option ℕ) (d : Derivation) : Type 0 where
  pub from : d.entry ≡ entry
  pub first_is : d.first ≡ first

-- and this second suffix, or none
pub record HasSuffixes (entry : ℕ) (first second : Option ℕ) (d : Derivation) : Type 0 where
  pub from : d.entry ≡ entry
  pub first_is : d.first ≡ first
  pub second_is : d.second ≡ second

-- it is from this entry and has this prefix and this first suffix
pub record HasPair (entry : ℕ) (prefix first : Option ℕ) (d : Derivation) : Type 0 where
  pub from : d.entry ≡ entry
  pub prefix_is : d.prefix ≡ prefix
  pub first_is : d.first ≡ first

-- a rule of the side is named, and one of the flags allows it
pub record IsAllowedBy (rules : List Rule) (side : Side) (flags : List Flag)
    (named : Option ℕ) : Type 0 where
  pub place : ℕ
  pub rule : Rule
  pub is : named ≡ Some place
  pub on : rule_on rules side place ≡ Some rule
  pub flag : has flags (Some rule.flag) ≡ true

-- it is from this entry and has this prefix, which allows its first suffix
pub record IsOfEntryAndPrefix (lexicon : Lexicon) (entry : ℕ) (prefix : Option ℕ) (d : Derivation) : Type
    0 where
  pub from : d.entry ≡ entry
  pub prefix_is : d.prefix ≡ prefix
  pub allowed : IsAllowedBy lexicon.affixes.rules Suffix (carried_at lexicon prefix) d.first
