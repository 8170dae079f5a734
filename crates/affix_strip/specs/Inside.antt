-- Which derivations stand before another part of a compound, and what is known of all of them.
use Rattle.std.specs.Prelude.{◌≡◌, ℕ, ◌+◌, ◌-◌, ◌<◌, ◌≤◌, Bool, true, ◌&&◌, not, List, ◌++◌}
use Rattle.std.specs.Prelude.{length, take, drop, slice_get, Option, Some, IfSome}
use Rattle.std.specs.List.{list_any}
use Rattle.key_filter.specs.declared.KeyFilter.{KeyFilter}
use Rattle.key_filter.specs.Filter.{may_have}
use Rattle.spell_types.specs.declared.Affixes.{Affixes}
use Rattle.spell_types.specs.declared.Entry.{Entry}
use Rattle.spell_types.specs.declared.Lexicon.{Lexicon}
use Rattle.spell_types.specs.declared.derivations.Derivation.{Derivation}
use Rattle.spell_types.specs.declared.flags.Flag.{Flag}
use Rattle.spell_types.specs.declared.parts.Place.{Place}
use Rattle.spell_types.specs.declared.patterns.PatternStep.{PatternStep}
use Rattle.spell_types.specs.declared.rules.Rule.{Rule}
use Rattle.spell_types.specs.declared.rules.Side.TheVariants.{Prefix, Suffix}
use Rattle.spell_types.specs.Derivations.{form_of}
use Rattle.spell_types.specs.EntriesOf.{entry_flags}
use Rattle.spell_types.specs.Flags.{has, has_flag_of}
use Rattle.spell_types.specs.Licences.{is_licensed}
use Rattle.spell_types.specs.Parts.{stands_at, stands_in_rule}
use Rattle.spell_types.specs.Patterns.{fits_step}
use Rattle.affix_strip.specs.declared.edges.Edge.{Edge}
use Rattle.affix_strip.specs.declared.edges.Those.TheVariants.{All, Carrying}
use Rattle.affix_strip.specs.declared.inside.Inside.{Inside}
use Rattle.affix_strip.specs.declared.known_words.KnownWords.{KnownWords}
use Rattle.affix_strip.specs.declared.known_words.TheConstants.{MOST_OF_HEAD}
use Rattle.affix_strip.specs.Edges.{IsNotedChange, IsEdge}
use Rattle.entry_table.specs.Hashes.{hash_of}
use Rattle.affix_strip.specs.Reaching.{KeepsReached, is_reached, piece_between}

-- whether one of the steps is for parts with these flags
abbrev pub one_fits : List Flag → List PatternStep → Bool
one_fits flags steps = list_any (λ step. fits_step step flags) steps

-- whether a step of a compound rule is for the derivation's entry
abbrev pub has_step : Lexicon → Derivation → Bool
has_step lexicon d = list_any (one_fits (entry_flags lexicon d)) lexicon.affixes.patterns

-- The derivation may stand at the place: by its flags, or by a compound rule.
pub data StandsInside (lexicon : Lexicon) (place : Place) (d : Derivation) : Type 0 where
  ByFlags : stands_at lexicon d place ≡ true → StandsInside lexicon place d
  InRule : stands_in_rule lexicon d place ≡ true → has_step lexicon d ≡ true
      → StandsInside lexicon place d

-- ---- flags
-- the flag is in the set, if one is given
abbrev pub HasGiven : List Flag → Option Flag → Type 0
HasGiven set flag = IfSome flag (λ given. has set (Some given) ≡ true)

-- the flag of each step is
abbrev pub HasSteps : List Flag → List PatternStep → Type 0
HasSteps set steps = (place : ℕ) (step : PatternStep) → slice_get steps place ≡ Some step
    → has set (Some step.flag) ≡ true

abbrev pub HasPatterns : List Flag → List (List PatternStep) → Type 0
HasPatterns set patterns = (place : ℕ) (steps : List PatternStep)
    → slice_get patterns place ≡ Some steps → HasSteps set steps

-- each flag that was in the set still is
abbrev pub KeepsFlags : List Flag → List Flag → Type 0
KeepsFlags before now =
    (flag : Flag) → has before (Some flag) ≡ true → has now (Some flag) ≡ true

-- whether the rule carries a flag of the set, and the flag of its class is not there
abbrev pub lacks_carrier : List Flag → Rule → Bool
lacks_carrier set rule = has_flag_of set rule.carried && not (has set (Some rule.flag))

-- where a rule carries a flag of the set, the flag of its class is there too
abbrev pub HasCarriers : List Rule → List Flag → Type 0
HasCarriers rules set = (place : ℕ) (rule : Rule) → slice_get rules place ≡ Some rule
    → has_flag_of set rule.carried ≡ true → has set (Some rule.flag) ≡ true

-- the set has all flags that allow parts before another one, and those of compound rules
pub record HasOwnFlags (affixes : Affixes) (set : List Flag) : Type 0 where
  pub compound : HasGiven set affixes.signs.compound
  pub begin : HasGiven set affixes.signs.begin
  pub middle : HasGiven set affixes.signs.middle
  pub steps : HasPatterns set affixes.patterns

-- it has those, and the flags of all classes by which a part may get one of them
pub record HasInnerFlags (affixes : Affixes) (set : List Flag) : Type 0 where
  pub own : HasOwnFlags affixes set
  pub closed : HasCarriers affixes.rules set

-- ---- words
abbrev pub KeepsFilterKeys : KeyFilter → KeyFilter → Type 0
KeepsFilterKeys before now = (key : ℕ) → may_have before key ≡ true → may_have now key ≡ true

-- the word is there, and so are its first fronts
pub record IsKnown (known : KnownWords) (word : List ℕ) : Type 0 where
  pub there : may_have known.words (hash_of word) ≡ true
  pub fronts : (count : ℕ) → 0 < count → count ≤ length word → count ≤ MOST_OF_HEAD
      → may_have known.heads (hash_of (take count word)) ≡ true

-- what was there still is
pub record KeepsKnown (before now : KnownWords) : Type 0 where
  pub words : KeepsFilterKeys before.words now.words
  pub heads : KeepsFilterKeys before.heads now.heads

-- the words of the entries that have one of the flags are known
abbrev pub AreWordsKnown : List Entry → List Flag → KnownWords → Type 0
AreWordsKnown entries set known = (place : ℕ) (entry : Entry) → slice_get entries place ≡ Some entry
    → has_flag_of set entry.flags ≡ true → IsKnown known entry.word

-- ---- all that is known
pub record IsInsideOfLexicon (lexicon : Lexicon) (inside : Inside) : Type 0 where
  pub flags : List Flag
  pub has : HasInnerFlags lexicon.affixes flags
  pub known : AreWordsKnown lexicon.entries flags inside.known
  pub begins : IsEdge lexicon.affixes.rules Prefix All inside.begins
  pub fronts : IsEdge lexicon.affixes.rules Prefix (Carrying lexicon.affixes.signs.permit)
      inside.fronts
  pub ends : IsEdge lexicon.affixes.rules Suffix (Carrying lexicon.affixes.signs.permit) inside.ends
  pub two : lexicon.affixes.options.more_suffixes ≡ inside.has_two_suffixes

-- ---- what may be reached
-- the word with what a suffix adds in place of so many characters
abbrev pub end_exchanged : List ℕ → ℕ → List ℕ → List ℕ
end_exchanged word strips add = take (length word - strips) word ++ add

-- the word with what a prefix adds in place of so many characters
abbrev pub front_exchanged : List ℕ → ℕ → List ℕ → List ℕ
front_exchanged add strips word = add ++ drop strips word

-- The places before the end of a text may be reached too to which a known word leads that begins
-- the text, with a suffix or without. The text is the rest of a word from a place on.
pub record ReachesWords (known : KnownWords) (ends : Edge) (text : List ℕ) (at : ℕ)
    (before now : List Bool) : Type 0 where
  pub kept : KeepsReached at before now
  pub told : (word add more : List ℕ) (strips : ℕ) → IsKnown known word
      → IsNotedChange ends add strips → text ≡ end_exchanged word strips add ++ more → 0 < length more
      → is_reached now (at + length (end_exchanged word strips add)) ≡ true

-- the same, or nothing
pub record ReachesWordsIf (may : Bool) (known : KnownWords) (ends : Edge) (text : List ℕ) (at : ℕ)
    (before now : List Bool) : Type 0 where
  pub kept : KeepsReached at before now
  pub words : may ≡ true → ReachesWords known ends text at before now

-- the same of known words with a prefix or without
pub record ReachesParts (known : KnownWords) (fronts ends : Edge) (text : List ℕ) (at : ℕ)
    (before now : List Bool) : Type 0 where
  pub kept : KeepsReached at before now
  pub told : (front word add more : List ℕ) (cut strips : ℕ)
      → IsKnown known word
      → IsNotedChange fronts front cut → IsNotedChange ends add strips
      → text ≡ front_exchanged front cut (end_exchanged word strips add) ++ more → 0 < length more
      → is_reached now (at + length (front_exchanged front cut (end_exchanged word strips add))) ≡ true

-- the same of those with a prefix that adds something
pub record ReachesBehind (known : KnownWords) (fronts ends : Edge) (text : List ℕ) (at : ℕ)
    (before now : List Bool) : Type 0 where
  pub kept : KeepsReached at before now
  pub told : (front word add more : List ℕ) (cut strips : ℕ) → IsKnown known word
      → IsNotedChange fronts front cut → IsNotedChange ends add strips → 0 < length front
      → text ≡ front_exchanged front cut (end_exchanged word strips add) ++ more → 0 < length more
      → is_reached now (at + length (front_exchanged front cut (end_exchanged word strips add))) ≡ true

-- The places of a word may be reached too where a derivation ends that begins at this one, and may
-- stand there before another part.
pub record ReachesEnds (lexicon : Lexicon) (place : Place) (word : List ℕ) (from : ℕ)
    (before now : List Bool) : Type 0 where
  pub kept : KeepsReached from before now
  pub told : (to : ℕ) (d : Derivation) → from < to → to < length word
      → is_licensed lexicon d ≡ true → form_of lexicon d ≡ Some (piece_between word from to)
      → StandsInside lexicon place d → is_reached now to ≡ true
