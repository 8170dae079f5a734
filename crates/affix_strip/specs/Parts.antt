-- The words on the way from an entry to the form of its derivation, and derivations that are found
-- by them.
use Rattle.std.specs.Prelude.{◌≡◌, ◌↔◌, ◌⊎◌, ℕ, Bool, true, false, List, slice_get, Contains}
use Rattle.std.specs.Prelude.{Option, Some, option_and_then}
use Rattle.std.specs.Option.{option_map}
use Rattle.spell_types.specs.declared.Lexicon.{Lexicon}
use Rattle.spell_types.specs.declared.derivations.Derivation.{Derivation}
use Rattle.spell_types.specs.declared.rules.Side.{Side}
use Rattle.spell_types.specs.declared.rules.Side.TheVariants.{Prefix, Suffix}
use Rattle.spell_types.specs.Derivations.{affix_on, with_affix, derivation_of}
use Rattle.spell_types.specs.Licences.{is_licensed}
use Rattle.affix_strip.specs.Peeling.{Peeled, may_undo_at}

-- a word with the affix attached that is named, if one is
abbrev pub put_on : Lexicon → Side → Option ℕ → Option (List ℕ) → Option (List ℕ)
put_on lexicon side named word =
    option_and_then
    (with_affix lexicon.affixes.options.full_strip (affix_on lexicon.affixes.rules side named))
    word

-- the word of the entry, if there is one
abbrev pub stem_of : Lexicon → Derivation → Option (List ℕ)
stem_of lexicon d = option_map (λ entry. entry.word) (slice_get lexicon.entries d.entry)

-- that word with the first suffix
abbrev pub with_first : Lexicon → Derivation → Option (List ℕ)
with_first lexicon d = put_on lexicon Suffix d.first (stem_of lexicon d)

-- with both suffixes
abbrev pub with_suffixes : Lexicon → Derivation → Option (List ℕ)
with_suffixes lexicon d = put_on lexicon Suffix d.second (with_first lexicon d)

-- with all affixes
abbrev pub with_all : Lexicon → Derivation → Option (List ℕ)
with_all lexicon d = put_on lexicon Prefix d.prefix (with_suffixes lexicon d)

-- a licensed derivation that has these parts, and for which this is the word on its way
pub record Passes (lexicon : Lexicon) (parts : Derivation → Type 0)
    (way : Derivation → Option (List ℕ)) (word : List ℕ) (d : Derivation) : Type 0 where
  pub licensed : is_licensed lexicon d ≡ true
  pub has : parts d
  pub at : way d ≡ Some word

-- it holds at one of the items
pub record AtSome {X : Type 0} (holds : X → Derivation → Type 0) (items : List X)
    (d : Derivation) : Type 0 where
  pub item : X
  pub among : Contains items item
  pub is : holds item d

-- what a visitor has let pass, and at what it ends the walk
pub record Sight : Type 1 where
  pub passed : Derivation → Type 0
  pub ends : Derivation → Type 0

-- a visitor that seeks a derivation which passes a test
abbrev pub sees_by : (Derivation → Bool) → Sight
sees_by passes = record { passed = λ d. passes d ≡ false; ends = λ d. passes d ≡ true }

-- one for which this holds ends the walk
pub record IsEnd (holds : Derivation → Type 0) (sight : Sight) : Type 0 where
  pub at : Derivation
  pub sought : holds at
  pub ends : sight.ends at

-- What a visitor was shown: the walk is over, and one for which this holds ended it; or it has let
-- pass all of those, beside what it had let pass before, and no others, and ends the walk where it
-- did before.
pub record Shows (holds : Derivation → Type 0) (before now : Sight) (is_over : Bool) : Type 0 where
  pub ended : is_over ≡ true → IsEnd holds before
  pub passed : is_over ≡ false → (d : Derivation) → now.passed d ↔ (before.passed d ⊎ holds d)
  pub same : is_over ≡ false → (d : Derivation) → before.ends d ↔ now.ends d

-- each derivation
abbrev pub Any : Derivation → Type 0
Any d = Unit {0}

-- the prefix, or none, is among these, and so is the second suffix
abbrev pub Outside : List (Option ℕ) → List (Option ℕ) → Derivation → Type 0
Outside prefixes seconds d = Contains prefixes d.prefix × Contains seconds d.second

-- it is licensed, and has these affixes and one of these entries
abbrev pub From : Lexicon → Option ℕ → Option ℕ → Option ℕ → List ℕ → Derivation → Type 0
From lexicon prefix first second entries =
    AtSome (λ entry d. (d ≡ derivation_of entry prefix first second)
    × (is_licensed lexicon d ≡ true)) entries

-- it is licensed, and has one of these prefixes, this first suffix, one of these second ones and
-- one of these entries
abbrev pub FromAll : Lexicon → List (Option ℕ) → Option ℕ → List (Option ℕ) → List ℕ → Derivation
    → Type 0
FromAll lexicon prefixes first seconds entries =
    AtSome (λ prefix. AtSome (λ second. From lexicon prefix first second entries) seconds) prefixes

-- the same, where the first suffix is a rule that may be attached to what is left of the word
abbrev pub RuleFrom : Lexicon → List (Option ℕ) → List (Option ℕ) → List ℕ → List ℕ → ℕ → Derivation
    → Type 0
RuleFrom lexicon prefixes seconds rest entries first d =
    (may_undo_at lexicon.affixes Suffix rest first ≡ true)
    × FromAll lexicon prefixes (Some first) seconds entries d

-- the affix is a rule of this group that may be attached to what it leaves, and what it leaves is
-- the word on this way
abbrev pub Peels : Lexicon → Side → (Derivation → Option ℕ) → (Derivation → Type 0)
    → (Derivation → Option (List ℕ)) → Peeled → Derivation → Type 0
Peels lexicon side named parts way peeled =
    AtSome (λ place d. (may_undo_at lexicon.affixes side peeled.0 place ≡ true)
    × Passes lexicon (λ d. parts d × (named d ≡ Some place)) way peeled.0 d) peeled.1
