-- A dictionary behind a handle: its base, which was opened, and personal words.
use Rattle.std.specs.Prelude.{◌≡◌, ◌≤◌, ◌==◌, List, [], length, Option, IfSome}
use Rattle.std.specs.Prelude.{if◌then◌else◌}
use Rattle.mark_types.specs.spell_types.Sanity.{IsSane, HasOrdinaryFlags, HaveOrdinaryFlags}
use Rattle.mark_types.specs.spell_types.declared.Lexicon.{Lexicon}
use Rattle.personal_words.specs.declared.items.OwnItem.{OwnItem}
use Rattle.personal_words.specs.Extended.{extended}

pub record HandleSeen : Type 0 where
  pub base : Lexicon
  pub own : List OwnItem

-- a dictionary as it is opened: there are no personal words
abbrev pub without_words : Lexicon → HandleSeen
without_words base = record { base = base; own = [] }

-- the dictionary that words are asked of: the base, extended by the personal words if there are any
unfoldable pub handle_lexicon : HandleSeen → Lexicon
handle_lexicon seen = if length seen.own == 0 then seen.base else extended seen.base seen.own

-- a dictionary as the readers give it, which may be extended
pub record IsLoaded (base : Lexicon) : Type 0 where
  pub sane : IsSane base
  pub few : length base.entries ≤ 1000000
  pub affixes : HasOrdinaryFlags base.affixes
  pub entries : HaveOrdinaryFlags base.entries

-- a base that was loaded, and the dictionary that is asked, if it is at hand
pub record IsHandleKept (base : Lexicon) (own : List OwnItem) (asked : Option Lexicon) : Type 0 where
  pub loaded : IsLoaded base
  pub asked_is : IfSome asked (λ lexicon. lexicon ≡ handle_lexicon (record { base = base; own = own }))
