-- What is due of a dictionary, by what there is of its two files.
use Rattle.std.specs.Prelude.{ℕ, List, Option, Result, Ok}
use Rattle.outside.specs.lists.Answers.{◌>>=◌, failing}
use Rattle.outside.specs.Files.{Folder, file_due as loaded_due}
use Rattle.outside.specs.declared.faults.FileFault.{FileFault}
use Rattle.outside.specs.declared.faults.FileFault.TheVariants.{Failed as FailedFile}
use Rattle.outside.specs.declared.faults.FileFault.TheVariants.{Missing as MissingFile}
use Rattle.outside.specs.declared.faults.FileFault.TheVariants.{TooLong as LongFile}
use Rattle.outside.specs.declared.faults.FileFault.TheVariants.{NoMemory as OutOfMemory}
use Rattle.spell_types.specs.declared.Affixes.{Affixes}
use Rattle.spell_types.specs.declared.Entry.{Entry}
use Rattle.spell_types.specs.declared.Lexicon.{Lexicon}
use Rattle.aff_lines.specs.Faults.{Fault as AffLineFault}
use Rattle.aff_reader.specs.Grammar.{aff_read}
use Rattle.dic_reader.specs.Faults.{DicFaultAtLine, dic_read}
use Rattle.dictionary_swap.specs.declared.fault.LoadFault.{LoadFault}
use Rattle.dictionary_swap.specs.declared.fault.LoadFault.TheVariants.{Failed, Missing, TooLong}
use Rattle.dictionary_swap.specs.declared.fault.LoadFault.TheVariants.{Aff, Dic, NoMemory}
use Rattle.dictionary_swap.specs.declared.limits.TheConstants.{SIZE_LIMIT}

-- why a file is not loaded that may have so many bytes
abbrev pub load_fault_of : ℕ → FileFault → LoadFault
load_fault_of limit FailedFile = Failed
load_fault_of limit MissingFile = Missing
load_fault_of limit LongFile = TooLong limit
load_fault_of limit OutOfMemory = NoMemory

-- what is due of a file that may have so many bytes: nothing but its bytes
unfoldable pub load_due : ℕ → Option (List ℕ) → Result (List ℕ) LoadFault
load_due limit file = failing (load_fault_of limit) (loaded_due limit file)

abbrev pub at_aff : AffLineFault → LoadFault
at_aff fault = Aff fault.line fault.why

abbrev pub at_dic : DicFaultAtLine → LoadFault
at_dic fault = Dic fault.line fault.why

-- what is due of the bytes of an .aff file
unfoldable pub affixes_step : List ℕ → Result Affixes LoadFault
affixes_step bytes = failing at_aff (aff_read bytes)

-- what is due of the bytes of a .dic file
unfoldable pub entries_step : Affixes → List ℕ → Result (List Entry) LoadFault
entries_step affixes bytes = failing at_dic (dic_read affixes bytes)

-- what there is of the files of a dictionary: the bytes of each, if it is there
pub record DictionaryFiles : Type 0 where
  pub aff : Option (List ℕ)
  pub dic : Option (List ℕ)

-- what is due of an .aff file, and of a .dic file behind it
unfoldable pub affixes_due : Option (List ℕ) → Result Affixes LoadFault
affixes_due file = do
  bytes ← load_due SIZE_LIMIT file
  affixes_step bytes

unfoldable pub entries_due : Affixes → Option (List ℕ) → Result (List Entry) LoadFault
entries_due affixes file = do
  bytes ← load_due SIZE_LIMIT file
  entries_step affixes bytes

-- the dictionary that two files are, or its first fault: each file before its lines, and the .aff
-- file before the .dic file
unfoldable pub lexicon_due : DictionaryFiles → Result Lexicon LoadFault
lexicon_due files = do
  affixes ← affixes_due files.aff
  entries ← entries_due affixes files.dic
  Ok (record { affixes = affixes; entries = entries })

-- what a folder has of these names
abbrev pub found_in : Folder → List ℕ → List ℕ → DictionaryFiles
found_in folder aff dic = record { aff = folder aff; dic = folder dic }

-- a failure and want of memory may come at any time
abbrev pub MayComeOfLoads : LoadFault → Type 0
MayComeOfLoads Failed = Unit {0}
MayComeOfLoads NoMemory = Unit {0}
MayComeOfLoads _ = ⊥
