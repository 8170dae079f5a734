-- What a line of a personal list says.
use Rattle.std.specs.Prelude.{ℕ, ◌-◌, Bool, true, false, ◌||◌, ◌==◌, List, [], ◌∷◌, length, take}
use Rattle.std.specs.Prelude.{drop, Option, None, if◌then◌else◌}
use Rattle.std.specs.List.{list_all, prefix_len, suffix_len}
use Rattle.std.specs.Option.{option_map, option_map_or}
use Rattle.std.specs.Str.{chars}
use Rattle.mark_types.specs.text_lines.Fields.{is_blank}
use Rattle.mark_types.specs.spell_types.declared.Affixes.{Affixes}
use Rattle.mark_types.specs.spell_types.Conversions.{without_ignored}
use Rattle.flag_sets.specs.Slashes.{is_slash, before_slash, behind_slash}
use Rattle.personal_words.specs.declared.items.OwnItem.{OwnItem}

-- A line without a field has no item.
abbrev pub is_blank_line : List ℕ → Bool
is_blank_line line = list_all is_blank line

abbrev pub is_space : ℕ → Bool
is_space c = c == 32

abbrev pub without_leading : List ℕ → List ℕ
without_leading text = drop (prefix_len is_space text) text

abbrev pub without_trailing : List ℕ → List ℕ
without_trailing text = take (length text - suffix_len is_space text) text

-- a line without the spaces at its ends
unfoldable pub trimmed : List ℕ → List ℕ
trimmed line = without_trailing (without_leading line)

abbrev pub is_star : ℕ → Bool
is_star c = c == 42

-- An item prohibits by a star at its front.
abbrev pub begins_with_star : List ℕ → Bool
begins_with_star [] = false
begins_with_star (c ∷ more) = is_star c

-- an item without that star
abbrev pub behind_star : List ℕ → List ℕ
behind_star [] = []
behind_star (c ∷ more) = if is_star c then more else c ∷ more

-- Its word stands before the slash. A slash that is the first character is one of the word.
abbrev pub word_text : List ℕ → List ℕ
word_text [] = []
word_text (c ∷ more) = if is_slash c then c ∷ before_slash more else before_slash (c ∷ more)

-- and its model behind the slash, if there is one
abbrev pub model_text : List ℕ → Option (List ℕ)
model_text [] = None
model_text (c ∷ more) = behind_slash (if is_slash c then more else c ∷ more)

-- the characters of a text, without those to ignore
abbrev pub kept_characters : List ℕ → List ℕ → List ℕ
kept_characters ignore text = without_ignored ignore (chars text)

-- an item that prohibits its word, and has no model
abbrev pub prohibiting : List ℕ → List ℕ → OwnItem
prohibiting ignore said =
    record { word = kept_characters ignore (word_text said); model = None; prohibits = true }

-- an item that adds its word
abbrev pub adding : List ℕ → List ℕ → OwnItem
adding ignore said = record {
  word = kept_characters ignore (word_text said);
  model = option_map (kept_characters ignore) (model_text said);
  prohibits = false;
}

-- what an item without spaces at its ends says
unfoldable pub item_said : List ℕ → List ℕ → OwnItem
item_said ignore text = if begins_with_star text then prohibiting ignore (behind_star text)
    else adding ignore text

-- the item of a line that is not blank
abbrev pub item_of : Affixes → List ℕ → OwnItem
item_of affixes line = item_said affixes.ignore (trimmed line)

abbrev pub is_nothing : List ℕ → Bool
is_nothing text = length text == 0

-- whether the item has no word, or its model no character
abbrev pub lacks_text : OwnItem → Bool
lacks_text item = is_nothing item.word || option_map_or is_nothing item.model false
