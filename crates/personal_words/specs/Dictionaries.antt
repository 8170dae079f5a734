-- A dictionary with personal words: its base, which was loaded, and the items of a list.
use Rattle.std.specs.Prelude.{◌≤◌, List, length}
use Rattle.personal_words.specs.declared.items.OwnItem.{OwnItem}
use Rattle.personal_words.specs.Extended.{extended}
use Rattle.mark_types.specs.spell_types.Sanity.{IsSane, HasOrdinaryFlags, HaveOrdinaryFlags}
use Rattle.mark_types.specs.spell_types.declared.Lexicon.{Lexicon}

pub record OwnSeen : Type 0 where
  pub base : Lexicon
  pub own : List OwnItem

-- the dictionary in force
abbrev pub in_force : OwnSeen → Lexicon
in_force dictionary = extended dictionary.base dictionary.own

-- a dictionary as it is loaded, which may be extended
pub record IsLoadedBase (lexicon : Lexicon) : Type 0 where
  pub sane : IsSane lexicon
  pub few : length lexicon.entries ≤ 1000000
  pub affixes : HasOrdinaryFlags lexicon.affixes
  pub entries : HaveOrdinaryFlags lexicon.entries
