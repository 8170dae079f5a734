-- The base that is in an extended dictionary.
use Rattle.std.specs.Prelude.{◌≡◌, ℕ, List, take, Option}
use Rattle.personal_words.specs.declared.items.OwnItem.{OwnItem}
use Rattle.personal_words.specs.Dictionaries.{IsLoadedBase}
use Rattle.personal_words.specs.Extended.{extended}
use Rattle.spell_types.specs.declared.Lexicon.{Lexicon}
use Rattle.spell_types.specs.declared.flags.Flag.{Flag}

-- so many of its first entries, and this sign of forbidden words
abbrev pub base_in : Lexicon → ℕ → Option Flag → Lexicon
base_in lexicon count forbidden = record {
  affixes = record lexicon.affixes {
    signs = record lexicon.affixes.signs { forbidden = forbidden };
  };
  entries = take count lexicon.entries;
}

-- a dictionary is its base, extended by a list
pub record IsExtended (lexicon : Lexicon) (count : ℕ) (forbidden : Option Flag) (own : List OwnItem)
    : Type 0 where
  pub lexicon_is : lexicon ≡ extended (base_in lexicon count forbidden) own
  pub base : IsLoadedBase (base_in lexicon count forbidden)
