-- Which faults a personal list has, which of them is told, and what a list without faults says.
use Rattle.std.specs.Prelude.{◌≡◌, ℕ, List, [], ◌∷◌, ◌++◌, map, slice_get}
use Rattle.std.specs.Prelude.{codes, Option, None, Some, Result, Ok, Err, if◌then◌else◌}
use Rattle.std.specs.List.{flat_map, filter_map}
use Rattle.line_faults.specs.Faults as order
use Rattle.line_faults.specs.Faults.{IsFault, fault_at, unless_fault}
use Rattle.line_faults.specs.declared.Fault.{Fault as LineFault}
use Rattle.mark_types.specs.text_lines.declared.found.Line.{Line}
use Rattle.mark_types.specs.text_lines.Lines.{text_of, good_lines, bad_line}
use Rattle.mark_types.specs.spell_types.declared.Affixes.{Affixes}
use Rattle.personal_words.specs.declared.faults.OwnFault.{OwnFault}
use Rattle.personal_words.specs.declared.faults.OwnFault.TheVariants.{At, NoMemory}
use Rattle.personal_words.specs.declared.faults.OwnLineWhy.{OwnLineWhy}
use Rattle.personal_words.specs.declared.faults.OwnLineWhy.TheVariants as line
use Rattle.personal_words.specs.declared.faults.OwnWhy.{OwnWhy}
use Rattle.personal_words.specs.declared.faults.OwnWhy.TheVariants.{NotUtf8, EmptyWord, TooMany}
use Rattle.personal_words.specs.declared.items.OwnItem.{OwnItem}
use Rattle.personal_words.specs.Items.{is_blank_line, item_of, lacks_text}
use Rattle.personal_words.specs.Lists.{item_limit}

-- the place of a cause among all causes, from 1
unfoldable pub own_cause_number : OwnWhy → ℕ
own_cause_number NotUtf8 = 1
own_cause_number EmptyWord = 2
own_cause_number TooMany = 3

-- the cause as it is printed
unfoldable pub own_cause_name : OwnWhy → List ℕ
own_cause_name NotUtf8 = codes "NotUtf8"
own_cause_name EmptyWord = codes "EmptyWord"
own_cause_name TooMany = codes "TooMany"

-- the cause of one line as it is printed
unfoldable pub line_why_name : OwnLineWhy → List ℕ
line_why_name line.EmptyWord = codes "EmptyWord"
line_why_name line.TooMany = codes "TooMany"

abbrev pub OwnFaultAtLine : Type 0
OwnFaultAtLine = LineFault OwnWhy

-- ---- the lines with items

-- a line with an item, by its number and its text
pub record ListedItem : Type 0 where
  pub number : ℕ
  pub text : List ℕ

abbrev pub listed_at : ℕ → List ℕ → ListedItem
listed_at number text = record { number = number; text = text }

abbrev pub item_listed_in : List ℕ → Line → Option ListedItem
item_listed_in bytes line =
    let text = text_of bytes line in
    if is_blank_line text then None else Some (listed_at line.number text)

-- those of these lines that have an item
abbrev pub listed_items : List ℕ → List Line → List ListedItem
listed_items bytes lines = filter_map (item_listed_in bytes) lines

-- ---- which faults there are

-- The first line that is not UTF-8 is a fault.
abbrev pub bad_faults : Option ℕ → List OwnFaultAtLine
bad_faults None = []
bad_faults (Some number) = fault_at number NotUtf8 ∷ []

-- An item has to have a word, and a model that is given has to have a character.
abbrev pub item_faults : Affixes → ListedItem → List OwnFaultAtLine
item_faults affixes found =
    if lacks_text (item_of affixes found.text) then fault_at found.number EmptyWord ∷ [] else []

abbrev pub item_too_many : Option ListedItem → List OwnFaultAtLine
item_too_many None = []
item_too_many (Some found) = fault_at found.number TooMany ∷ []

-- Where there are more items than so many, the first that is one too many is a fault, and those
-- behind it are none.
abbrev pub too_many_items_faults : ℕ → List ListedItem → List OwnFaultAtLine
too_many_items_faults limit items = item_too_many (slice_get items limit)

-- the faults of items of which so many are allowed: every item is asked, also those that are too
-- many
abbrev pub items_faults : Affixes → ℕ → List ListedItem → List OwnFaultAtLine
items_faults affixes limit items =
    flat_map (item_faults affixes) items ++ too_many_items_faults limit items

-- the faults of the lines that are UTF-8
abbrev pub own_lines_faults : Affixes → List ℕ → List Line → List OwnFaultAtLine
own_lines_faults affixes bytes lines = items_faults affixes item_limit (listed_items bytes lines)

-- the faults of a file in two passes: that of a line that is not UTF-8, and then all others
abbrev pub own_passes : Affixes → List ℕ → List (List OwnFaultAtLine)
own_passes affixes bytes =
    bad_faults (bad_line bytes) ∷ own_lines_faults affixes bytes (good_lines bytes) ∷ []

-- ---- which of them is told: by line, and at one line by the place of its cause

abbrev pub least_own_fault : List OwnFaultAtLine → Option OwnFaultAtLine
least_own_fault = order.least_of own_cause_number

abbrev pub first_own_fault : List (List OwnFaultAtLine) → Option OwnFaultAtLine
first_own_fault = order.first_fault own_cause_number

abbrev pub IsLeastOwnFault : (OwnFaultAtLine → Type 0) → OwnFaultAtLine → Type 0
IsLeastOwnFault = order.IsLeast own_cause_number

-- the file has this fault in the pass with this number
abbrev pub OwnBad : Affixes → List ℕ → ℕ → OwnFaultAtLine → Type 0
OwnBad affixes bytes pass fault = IsFault (own_passes affixes bytes) pass fault

-- ---- what is read

abbrev pub item_at : Affixes → ListedItem → OwnItem
item_at affixes found = item_of affixes found.text

-- what a file with these lines says, if it has no fault
abbrev pub items_said : Affixes → List ℕ → List Line → List OwnItem
items_said affixes bytes lines = map (item_at affixes) (listed_items bytes lines)

-- the file has no fault, and these are its items
pub record OwnReads (affixes : Affixes) (bytes : List ℕ) (items : List OwnItem) : Type 0 where
  pub no_fault : (pass : ℕ) (fault : OwnFaultAtLine) → ¬ OwnBad affixes bytes pass fault
  pub says : items ≡ items_said affixes bytes (good_lines bytes)

-- the fault is the first of the file: of the first pass that has one, at the lowest line, and there
-- of the lowest cause
abbrev pub OwnRefuses : Affixes → List ℕ → OwnFault → Type 0
OwnRefuses affixes bytes (At number why) =
    (pass : ℕ) × IsLeastOwnFault (OwnBad affixes bytes pass) (fault_at number why)
OwnRefuses affixes bytes NoMemory = Unit {0}

-- ---- the same as a value

-- what is read of a line with an item, or its fault
abbrev pub item_read : Affixes → ListedItem → Result OwnItem OwnFaultAtLine
item_read affixes found =
    unless_fault (least_own_fault (item_faults affixes found)) (item_at affixes found)

-- what is read of items of which so many are allowed, or their first fault
unfoldable pub items_read : Affixes → ℕ → List ListedItem → Result (List OwnItem) OwnFaultAtLine
items_read affixes limit items =
    unless_fault (least_own_fault (items_faults affixes limit items)) (map (item_at affixes) items)

-- what is read of a file, or its first fault
unfoldable pub own_read : Affixes → List ℕ → Result (List OwnItem) OwnFaultAtLine
own_read affixes bytes =
    unless_fault (first_own_fault (own_passes affixes bytes))
    (items_said affixes bytes (good_lines bytes))

-- the fault is the one that was told in place of what is read
abbrev pub IsOwnFaultTold : {A : Type 0} → Result A OwnFaultAtLine → OwnFault → Type 0
IsOwnFaultTold read (At number why) = read ≡ Err (fault_at number why)
IsOwnFaultTold read NoMemory = Unit {0}

-- the reader gives this, or has no memory
abbrev pub IsOwnListRead : {A : Type 0} → Result A OwnFaultAtLine → Result A OwnFault → Type 0
IsOwnListRead read (Ok made) = read ≡ Ok made
IsOwnListRead read (Err fault) = IsOwnFaultTold read fault
