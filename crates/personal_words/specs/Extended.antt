-- A dictionary with the words of a personal list.
use Rattle.std.specs.Prelude.{ℕ, ◌^◌, ◌-◌, List, [], ◌∷◌, ◌++◌, map, find, unwrap_or, Some}
use Rattle.std.specs.Prelude.{if◌then◌else◌}
use Rattle.std.specs.Option.{option_map_or}
use Rattle.mark_types.specs.spell_types.declared.Affixes.{Affixes}
use Rattle.mark_types.specs.spell_types.declared.Entry.{Entry}
use Rattle.mark_types.specs.spell_types.declared.Lexicon.{Lexicon}
use Rattle.mark_types.specs.spell_types.declared.flags.Flag.{Flag}
use Rattle.mark_types.specs.spell_types.Cases.{is_same_word}
use Rattle.personal_words.specs.declared.items.OwnItem.{OwnItem}

-- a flag that no file can give
abbrev pub left_over : Flag
left_over = record { 0 = 2 ^ 64 - 1 }

-- the flag of forbidden words: that of the dictionary, or the one that no file gives
abbrev pub forbidding : Lexicon → Flag
forbidding lexicon = unwrap_or lexicon.affixes.signs.forbidden left_over

-- the flags of the first of these entries whose word is the model, and none where there is no such
-- entry
unfoldable pub flags_like : List Entry → List ℕ → List Flag
flags_like entries model =
    option_map_or (λ entry. entry.flags) (find (λ entry. is_same_word entry.word model) entries) []

-- A prohibited word has that flag alone, a word with a model the flags of its model, and every
-- other word none.
abbrev pub flags_of_item : Lexicon → OwnItem → List Flag
flags_of_item lexicon item = if item.prohibits then forbidding lexicon ∷ []
    else option_map_or (flags_like lexicon.entries) item.model []

abbrev pub entry_of_item : Lexicon → OwnItem → Entry
entry_of_item lexicon item = record { word = item.word; flags = flags_of_item lexicon item }

-- the affixes, with this flag as that of forbidden words
abbrev pub with_forbidden : Affixes → Flag → Affixes
with_forbidden affixes flag =
    record affixes { signs = record affixes.signs { forbidden = Some flag } }

-- the dictionary, and behind its entries one for each item
unfoldable pub extended : Lexicon → List OwnItem → Lexicon
extended lexicon own = record {
  affixes = with_forbidden lexicon.affixes (forbidding lexicon);
  entries = lexicon.entries ++ map (entry_of_item lexicon) own;
}
