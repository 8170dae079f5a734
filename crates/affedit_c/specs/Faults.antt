-- What the bytes of files say, or the fault that C is told.
use Rattle.std.specs.Prelude.{ℕ, List, length, nat_le, Result, Ok, Err, if◌then◌else◌}
use Rattle.mark_types.specs.lists.Answers.{◌>>=◌, failing}
use Rattle.mark_types.specs.spell_types.declared.Affixes.{Affixes}
use Rattle.mark_types.specs.spell_types.declared.Entry.{Entry}
use Rattle.mark_types.specs.spell_types.declared.Lexicon.{Lexicon}
use Rattle.aff_lines.specs.Faults as aff
use Rattle.aff_reader.specs.Grammar.{aff_read}
use Rattle.dic_reader.specs.Faults as dic
use Rattle.dic_reader.specs.Faults.{dic_read}
use Rattle.personal_words.specs.Faults as own
use Rattle.personal_words.specs.Faults.{own_read}
use Rattle.personal_words.specs.declared.items.OwnItem.{OwnItem}
use Rattle.dictionary_swap.specs.declared.limits.TheConstants.{SIZE_LIMIT}
use Rattle.affedit_c.specs.Dictionaries.{HandleSeen, without_words}
use Rattle.affedit_c.specs.declared.faults.Refusal.{Refusal}
use Rattle.affedit_c.specs.declared.faults.Refusal.TheVariants.{Refused, NoMemory}
use Rattle.affedit_c.specs.declared.faults.TheConstants.{AFF_FILE, DIC_FILE, OWN_FILE}

-- a fault at a line of a file, from 1, by the number of its cause
abbrev pub refused_at_line : ℕ → ℕ → ℕ → Refusal
refused_at_line file line cause = Refused (record { line = line; file = file; cause = cause })

-- the file has too many bytes: that is at no line, and no cause
abbrev pub refused_too_long : ℕ → Refusal
refused_too_long file = refused_at_line file 0 0

abbrev pub in_aff : aff.Fault → Refusal
in_aff fault = refused_at_line AFF_FILE fault.line (aff.cause_number fault.why)

abbrev pub in_dic : dic.DicFaultAtLine → Refusal
in_dic fault = refused_at_line DIC_FILE fault.line (dic.dic_cause_number fault.why)

abbrev pub in_own : own.OwnFaultAtLine → Refusal
in_own fault = refused_at_line OWN_FILE fault.line (own.own_cause_number fault.why)

-- what is read of a file, unless it has too many bytes
abbrev pub if_short : {A : Type 0} → ℕ → List ℕ → Result A Refusal → Result A Refusal
if_short file bytes read = if nat_le (length bytes) SIZE_LIMIT then read else Err (refused_too_long file)

unfoldable pub affixes_read : List ℕ → Result Affixes Refusal
affixes_read bytes = if_short AFF_FILE bytes (failing in_aff (aff_read bytes))

unfoldable pub entries_of_bytes : Affixes → List ℕ → Result (List Entry) Refusal
entries_of_bytes affixes bytes = if_short DIC_FILE bytes (failing in_dic (dic_read affixes bytes))

-- the dictionary that the bytes of an .aff file and of a .dic file are, or its first fault: the
-- .aff file comes before the .dic file
unfoldable pub lexicon_read : List ℕ → List ℕ → Result Lexicon Refusal
lexicon_read aff dic = do
  affixes ← affixes_read aff
  entries ← entries_of_bytes affixes dic
  Ok (record { affixes = affixes; entries = entries })

-- the same without personal words
unfoldable pub dictionary_read : List ℕ → List ℕ → Result HandleSeen Refusal
dictionary_read aff dic = do
  base ← lexicon_read aff dic
  Ok (without_words base)

-- the personal words that the bytes of a list are, or its first fault
unfoldable pub list_read : List ℕ → Affixes → Result (List OwnItem) Refusal
list_read bytes affixes = if_short OWN_FILE bytes (failing in_own (own_read affixes bytes))

-- want of memory may come at any time
abbrev pub MayComeOfCalls : Refusal → Type 0
MayComeOfCalls NoMemory = Unit {0}
MayComeOfCalls _ = ⊥
