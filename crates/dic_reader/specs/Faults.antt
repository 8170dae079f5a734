-- Which faults a .dic file has, which of them is told, and what a file without faults says.
use Rattle.std.specs.Prelude.{◌≡◌, ℕ, ◌==◌, List, [], ◌∷◌, ◌++◌, length, map, drop, slice_get}
use Rattle.std.specs.Prelude.{codes, Option, None, Some, Result, Ok, Err, if◌then◌else◌}
use Rattle.std.specs.List.{flat_map}
use Rattle.line_faults.specs.Faults as order
use Rattle.line_faults.specs.Faults.{IsFault, fault_at, unless_fault}
use Rattle.line_faults.specs.declared.Fault.{Fault as LineFault}
use Rattle.text_lines.specs.declared.found.Line.{Line}
use Rattle.text_lines.specs.Lines.{text_of, good_lines, bad_line}
use Rattle.spell_types.specs.declared.Affixes.{Affixes}
use Rattle.spell_types.specs.declared.Entry.{Entry}
use Rattle.spell_types.specs.declared.flags.Flag.{Flag}
use Rattle.flag_sets.specs.declared.FlagFault.{FlagFault}
use Rattle.flag_sets.specs.declared.FlagFault.TheVariants.{BadAlias as NoAlias, BadFlag as NoFlag}
use Rattle.flag_sets.specs.declared.FlagFault.TheVariants.{NoMemory as Wanting}
use Rattle.dic_reader.specs.declared.faults.DicFault.{DicFault}
use Rattle.dic_reader.specs.declared.faults.DicFault.TheVariants.{At, NoMemory}
use Rattle.dic_reader.specs.declared.faults.DicWhy.{DicWhy}
use Rattle.dic_reader.specs.declared.faults.DicWhy.TheVariants.{NotUtf8, BadCount, EmptyWord}
use Rattle.dic_reader.specs.declared.faults.DicWhy.TheVariants.{BadFlag, BadAlias, TooMany}
use Rattle.dic_reader.specs.Entries.{Listed, listed, is_count, word_of_entry, flags_of_entry}

-- the place of a cause among all causes, from 1
unfoldable pub dic_cause_number : DicWhy → ℕ
dic_cause_number NotUtf8 = 1
dic_cause_number BadCount = 2
dic_cause_number EmptyWord = 3
dic_cause_number BadFlag = 4
dic_cause_number BadAlias = 5
dic_cause_number TooMany = 6

-- the cause as it is printed
unfoldable pub dic_cause_name : DicWhy → List ℕ
dic_cause_name NotUtf8 = codes "NotUtf8"
dic_cause_name BadCount = codes "BadCount"
dic_cause_name EmptyWord = codes "EmptyWord"
dic_cause_name BadFlag = codes "BadFlag"
dic_cause_name BadAlias = codes "BadAlias"
dic_cause_name TooMany = codes "TooMany"

abbrev pub DicFaultAtLine : Type 0
DicFaultAtLine = LineFault DicWhy

-- ---- which faults there are

-- The first line that is not UTF-8 is a fault.
abbrev pub bad_faults : Option ℕ → List DicFaultAtLine
bad_faults None = []
bad_faults (Some line) = fault_at line NotUtf8 ∷ []

-- A file has to have a first line, and that has to count.
abbrev pub count_faults : List ℕ → List Line → List DicFaultAtLine
count_faults bytes [] = fault_at 1 BadCount ∷ []
count_faults bytes (first ∷ later) =
    if is_count (text_of bytes first) then [] else fault_at first.number BadCount ∷ []

-- An entry has to have a word, also without the characters to ignore.
abbrev pub word_faults : Affixes → Listed → List DicFaultAtLine
word_faults affixes entry =
    if length (word_of_entry affixes entry.text) == 0 then fault_at entry.number EmptyWord ∷ [] else []

-- what is wrong with flags
abbrev pub flag_whys : Result (List Flag) FlagFault → List DicWhy
flag_whys (Ok set) = []
flag_whys (Err NoAlias) = BadAlias ∷ []
flag_whys (Err _) = BadFlag ∷ []

-- An entry's flags have to be right, whatever its word is.
abbrev pub flag_faults : Affixes → Listed → List DicFaultAtLine
flag_faults affixes entry = map (fault_at entry.number) (flag_whys (flags_of_entry affixes entry.text))

abbrev pub entry_faults : Affixes → Listed → List DicFaultAtLine
entry_faults affixes entry = word_faults affixes entry ++ flag_faults affixes entry

-- how many entries a .dic file may have
abbrev pub entry_limit : ℕ
entry_limit = 1000000

abbrev pub too_many : Option Listed → List DicFaultAtLine
too_many None = []
too_many (Some entry) = fault_at entry.number TooMany ∷ []

-- Where there are more entries than so many, the first that is one too many is a fault, and those
-- behind it are none.
abbrev pub many_faults : ℕ → List Listed → List DicFaultAtLine
many_faults limit entries = too_many (slice_get entries limit)

-- the faults of entries of which so many are allowed: every entry is asked, also those that are too
-- many
abbrev pub entries_faults : Affixes → ℕ → List Listed → List DicFaultAtLine
entries_faults affixes limit entries =
    flat_map (entry_faults affixes) entries ++ many_faults limit entries

-- the entries of all lines behind the first
abbrev pub entries_behind : List ℕ → List Line → List Listed
entries_behind bytes lines = listed bytes (drop 1 lines)

-- the faults of the lines that are UTF-8
abbrev pub lines_faults : Affixes → List ℕ → List Line → List DicFaultAtLine
lines_faults affixes bytes lines =
    count_faults bytes lines ++ entries_faults affixes entry_limit (entries_behind bytes lines)

-- the faults of a file in two passes: that of a line that is not UTF-8, and then all others
abbrev pub dic_passes : Affixes → List ℕ → List (List DicFaultAtLine)
dic_passes affixes bytes =
    bad_faults (bad_line bytes) ∷ lines_faults affixes bytes (good_lines bytes) ∷ []

-- ---- which of them is told: by line, and at one line by the place of its cause

abbrev pub least_dic_fault : List DicFaultAtLine → Option DicFaultAtLine
least_dic_fault = order.least_of dic_cause_number

abbrev pub first_dic_fault : List (List DicFaultAtLine) → Option DicFaultAtLine
first_dic_fault = order.first_fault dic_cause_number

abbrev pub IsLeastDicFault : (DicFaultAtLine → Type 0) → DicFaultAtLine → Type 0
IsLeastDicFault = order.IsLeast dic_cause_number

-- the file has this fault in the pass with this number
abbrev pub DicBad : Affixes → List ℕ → ℕ → DicFaultAtLine → Type 0
DicBad affixes bytes pass fault = IsFault (dic_passes affixes bytes) pass fault

-- ---- what is read

-- the flags of an entry, if they are right
abbrev pub or_none : Result (List Flag) FlagFault → List Flag
or_none (Ok set) = set
or_none (Err _) = []

abbrev pub entry_said : Affixes → Listed → Entry
entry_said affixes entry =
    record { word = word_of_entry affixes entry.text; flags = or_none (flags_of_entry affixes entry.text) }

-- what a file with these lines says, if it has no fault
abbrev pub entries_said : Affixes → List ℕ → List Line → List Entry
entries_said affixes bytes lines = map (entry_said affixes) (entries_behind bytes lines)

-- the file has no fault, and these are its entries
pub record DicReads (affixes : Affixes) (bytes : List ℕ) (entries : List Entry) : Type 0 where
  pub no_fault : (pass : ℕ) (fault : DicFaultAtLine) → ¬ DicBad affixes bytes pass fault
  pub says : entries ≡ entries_said affixes bytes (good_lines bytes)

-- the fault is the first of the file: of the first pass that has one, at the lowest line, and there
-- of the lowest cause
abbrev pub DicRefuses : Affixes → List ℕ → DicFault → Type 0
DicRefuses affixes bytes (At line why) =
    (pass : ℕ) × IsLeastDicFault (DicBad affixes bytes pass) (fault_at line why)
DicRefuses affixes bytes NoMemory = Unit {0}

-- ---- the same as a value

-- what is read of an entry, or its first fault
abbrev pub entry_read : Affixes → Listed → Result Entry DicFaultAtLine
entry_read affixes entry =
    unless_fault (least_dic_fault (entry_faults affixes entry)) (entry_said affixes entry)

-- what is read of entries of which so many are allowed, or their first fault
unfoldable pub entries_read : Affixes → ℕ → List Listed → Result (List Entry) DicFaultAtLine
entries_read affixes limit entries =
    unless_fault (least_dic_fault (entries_faults affixes limit entries))
    (map (entry_said affixes) entries)

-- what is read of the lines that are UTF-8, or their first fault
unfoldable pub lines_read : Affixes → List ℕ → List Line → Result (List Entry) DicFaultAtLine
lines_read affixes bytes lines =
    unless_fault (least_dic_fault (lines_faults affixes bytes lines)) (entries_said affixes bytes lines)

-- what is read of a file, or its first fault
unfoldable pub dic_read : Affixes → List ℕ → Result (List Entry) DicFaultAtLine
dic_read affixes bytes =
    unless_fault (first_dic_fault (dic_passes affixes bytes))
    (entries_said affixes bytes (good_lines bytes))

-- the fault is the one that was told in place of what is read
abbrev pub IsTold : {A : Type 0} → Result A DicFaultAtLine → DicFault → Type 0
IsTold read (At line why) = read ≡ Err (fault_at line why)
IsTold read NoMemory = Unit {0}

-- the reader gives this, or has no memory
abbrev pub AreEntriesRead : {A : Type 0} → Result A DicFaultAtLine → Result A DicFault → Type 0
AreEntriesRead read (Ok made) = read ≡ Ok made
AreEntriesRead read (Err fault) = IsTold read fault

-- what is told of a fault of flags
abbrev pub told_at : ℕ → FlagFault → DicFault
told_at number NoAlias = At number BadAlias
told_at number NoFlag = At number BadFlag
told_at number Wanting = NoMemory
