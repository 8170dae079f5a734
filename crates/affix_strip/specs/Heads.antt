-- What the forms of forbidden words begin with.
use Rattle.std.specs.Prelude.{◌≡◌, ℕ, ◌+◌, ◌-◌, ◌≤◌, true, false, List, length, take}
use Rattle.std.specs.Prelude.{slice_get, Option, None, Some, if◌then◌else◌}
use Rattle.key_filter.specs.declared.KeyFilter.{KeyFilter}
use Rattle.key_filter.specs.Filter.{may_have}
use Rattle.spell_types.specs.declared.Entry.{Entry}
use Rattle.spell_types.specs.declared.Lexicon.{Lexicon}
use Rattle.spell_types.specs.declared.flags.Flag.{Flag}
use Rattle.spell_types.specs.declared.rules.Rule.{Rule}
use Rattle.spell_types.specs.declared.rules.Side.TheVariants.{Prefix}
use Rattle.spell_types.specs.Flags.{has, has_flag_of}
use Rattle.affix_strip.specs.declared.heads.Heads.{Heads}
use Rattle.affix_strip.specs.declared.edges.Those.TheVariants.{All}
use Rattle.affix_strip.specs.Classes.{HasClasses}
use Rattle.affix_strip.specs.Edges.{IsEdge, NoneBegin}
use Rattle.entry_table.specs.Hashes.{hash_of}

-- How many characters of a word a suffix takes off, and another one behind it, which strips off so
-- many at most. What the second strips off of what the first added is nothing of the word.
abbrev pub cut_of : List Flag → ℕ → Rule → ℕ
cut_of classes longest rule =
    length rule.strip
    + (if has_flag_of classes rule.carried then longest - length rule.add else 0)

-- no rule takes off more
abbrev pub AreCutWithin : List Rule → List Flag → ℕ → ℕ → Type 0
AreCutWithin rules classes longest most =
    (place : ℕ) (rule : Rule) → slice_get rules place ≡ Some rule
    → cut_of classes longest rule ≤ most

-- no rule strips off more
abbrev pub AreStripsWithin : List Rule → ℕ → Type 0
AreStripsWithin rules longest =
    (place : ℕ) (rule : Rule) → slice_get rules place ≡ Some rule → length rule.strip ≤ longest

-- what suffixes leave of a word that take off so many characters at most
abbrev pub shortest_head : ℕ → List ℕ → List ℕ
shortest_head most word = take (length word - most) word

-- the head of the entry's word is there, if the entry is forbidden
abbrev pub IsNotedHead : Option Flag → ℕ → KeyFilter → Entry → Type 0
IsNotedHead forbidden most heads entry =
    has entry.flags forbidden ≡ true → may_have heads (hash_of (shortest_head most entry.word)) ≡ true

abbrev pub AreHeadsOfEntries : List Entry → Option Flag → ℕ → KeyFilter → Type 0
AreHeadsOfEntries entries forbidden most heads =
    (place : ℕ) (entry : Entry) → slice_get entries place ≡ Some entry
    → IsNotedHead forbidden most heads entry

abbrev pub KeepsHeads : KeyFilter → KeyFilter → Type 0
KeepsHeads before now = (key : ℕ) → may_have before key ≡ true → may_have now key ≡ true

-- these are the heads of the forbidden words of the dictionary
pub record AreHeadsOf (lexicon : Lexicon) (heads : KeyFilter) : Type 0 where
  pub classes : List Flag
  pub has : HasClasses lexicon.affixes.rules classes
  pub longest : ℕ
  pub strips : AreStripsWithin lexicon.affixes.rules longest
  pub most : ℕ
  pub cuts : AreCutWithin lexicon.affixes.rules classes longest most
  pub are : AreHeadsOfEntries lexicon.entries lexicon.affixes.signs.forbidden most heads

-- they are, if they are there
abbrev pub MayHeads : Lexicon → Option KeyFilter → Type 0
MayHeads lexicon None = Unit {0}
MayHeads lexicon (Some heads) = AreHeadsOf lexicon heads

pub record IsHeaded (lexicon : Lexicon) (made : Heads) : Type 0 where
  pub heads : MayHeads lexicon made.heads
  pub prefixes : IsEdge lexicon.affixes.rules Prefix All made.prefixes

-- no front of up to so many characters is one of the heads
abbrev pub NoneHeads : KeyFilter → List ℕ → ℕ → Type 0
NoneHeads heads word count = (n : ℕ) → n ≤ count → may_have heads (hash_of (take n word)) ≡ false

-- the word begins with no head, and with nothing that a prefix adds
pub data IsUnheaded (heads : Heads) (word : List ℕ) : Type 0 where
  Unheaded : (filter : KeyFilter) → heads.heads ≡ Some filter
      → NoneHeads filter word (length word) → NoneBegin heads.prefixes word
      → IsUnheaded heads word
