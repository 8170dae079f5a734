-- What every personal list meets, and what comes of one line more.
use Rattle.std.specs.Prelude.{◌≡◌, ℕ, ◌<◌, ◌≤◌, Bool, true, false, List, [], ◌∷◌, ◌++◌, length, All}
use Rattle.std.specs.Prelude.{nat_lt, Option, None, Some, Result, Ok, Err, if◌then◌else◌}
use Rattle.mark_types.specs.spell_types.declared.Affixes.{Affixes}
use Rattle.personal_words.specs.declared.faults.OwnLineFault.{OwnLineFault}
use Rattle.personal_words.specs.declared.faults.OwnLineFault.TheVariants.{Why, NoMemory}
use Rattle.personal_words.specs.declared.faults.OwnLineWhy.{OwnLineWhy}
use Rattle.personal_words.specs.declared.faults.OwnLineWhy.TheVariants.{EmptyWord, TooMany}
use Rattle.personal_words.specs.declared.items.OwnItem.{OwnItem}
use Rattle.personal_words.specs.Items.{is_blank_line, item_of, lacks_text}

-- how many items a list may have
abbrev pub item_limit : ℕ
item_limit = 10000

-- There are no more items than are allowed, and each has a word.
pub record AreOwn (items : List OwnItem) : Type 0 where
  pub few : length items ≤ item_limit
  pub words : All (λ item. 0 < length item.word) items

-- what a line adds to a list: an item, or none where it is blank; or why it is refused
unfoldable pub added : Affixes → List OwnItem → List ℕ → Result (Option OwnItem) OwnLineWhy
added affixes items line =
    if is_blank_line line then Ok None
    else (if lacks_text (item_of affixes line) then Err EmptyWord
    else (if nat_lt (length items) item_limit then Ok (Some (item_of affixes line))
    else Err TooMany))

-- whether an item was added is told, and the list has it behind its others
abbrev pub IsAdded : Result (Option OwnItem) OwnLineWhy → List OwnItem → Bool → List OwnItem
    → Type 0
IsAdded due old true new = (item : OwnItem) × (due ≡ Ok (Some item)) × (new ≡ old ++ item ∷ [])
IsAdded due old false new = (due ≡ Ok None) × (new ≡ old)

-- this is why the line is refused, or memory is wanting
abbrev pub IsOwnLineRefused : Result (Option OwnItem) OwnLineWhy → OwnLineFault → Type 0
IsOwnLineRefused due (Why why) = due ≡ Err why
IsOwnLineRefused due NoMemory = Unit {0}
