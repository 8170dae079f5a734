-- What is due of the files that words name: what they say, or why the call fails.
use Rattle.std.specs.Prelude.{◌≡◌, ℕ, List, [], Option, Some, None, is_some, Result, Ok}
use Rattle.std.specs.Option.{option_map}
use Rattle.outside.specs.lists.Answers.{◌>>=◌, failing}
use Rattle.outside.specs.Files.{Folder, file_due}
use Rattle.spell_types.specs.declared.Lexicon.{Lexicon}
use Rattle.spell_types.specs.declared.Affixes.{Affixes}
use Rattle.own_dictionary.specs.personal_words.declared.items.OwnItem.{OwnItem}
use Rattle.own_dictionary.specs.personal_words.Faults.{own_read}
use Rattle.own_dictionary.specs.personal_words.Dictionaries.{OwnSeen, in_force}
use Rattle.own_dictionary.specs.dictionary_swap.Loads.{DictionaryFiles, found_in, lexicon_due}
use Rattle.own_dictionary.specs.dictionary_swap.Loads.{load_fault_of}
use Rattle.own_dictionary.specs.dictionary_swap.declared.fault.LoadFault.TheVariants.{Failed}
use Rattle.file_loading.specs.Failures.{failure_of, own_failure}
use Rattle.file_loading.specs.Operands.{DictionaryNamed}
use Rattle.file_loading.specs.declared.failure.Failure.{Failure}
use Rattle.file_loading.specs.declared.failure.Failure.TheVariants.{Load, NoMemory}
use Rattle.own_dictionary.specs.dictionary_swap.declared.limits.TheConstants.{SIZE_LIMIT}

-- what there is of the files of a dictionary and, where one is named, of a personal list: the bytes
-- of each, if it is there
pub record OwnFiles : Type 0 where
  pub dictionary : DictionaryFiles
  pub own : Option (Option (List ℕ))

-- what is due of the files of a dictionary
unfoldable pub base_due : DictionaryFiles → Result Lexicon Failure
base_due files = failing failure_of (lexicon_due files)

-- what is due of a file that may have so many bytes: nothing but its bytes
unfoldable pub bytes_due_of_file : ℕ → Option (List ℕ) → Result (List ℕ) Failure
bytes_due_of_file limit file =
    failing (λ fault. failure_of (load_fault_of limit fault)) (file_due limit file)

-- what is due of the bytes of a personal list, read by these affixes: its items
unfoldable pub items_due : Affixes → List ℕ → Result (List OwnItem) Failure
items_due affixes bytes = failing own_failure (own_read affixes bytes)

-- what is due of the file of a personal list
unfoldable pub list_due : Affixes → Option (List ℕ) → Result (List OwnItem) Failure
list_due affixes file = do
  bytes ← bytes_due_of_file SIZE_LIMIT file
  items_due affixes bytes

-- where none is named, there are no items
unfoldable pub own_due : Affixes → Option (Option (List ℕ)) → Result (List OwnItem) Failure
own_due affixes None = Ok []
own_due affixes (Some file) = list_due affixes file

-- what is due of all of them: a base, and the items of a list
unfoldable pub dictionary_due : OwnFiles → Result OwnSeen Failure
dictionary_due files = do
  base ← base_due files.dictionary
  own ← own_due base.affixes files.own
  Ok (record { base = base; own = own })

-- what is due of them as one dictionary: the base extended by the list
unfoldable pub in_force_due : OwnFiles → Result Lexicon Failure
in_force_due files = do
  dictionary ← dictionary_due files
  Ok (in_force dictionary)

-- what is due of them as one dictionary without the list: the base
abbrev pub unextended_due : OwnFiles → Result Lexicon Failure
unextended_due files = base_due files.dictionary

-- what a folder has of these names
abbrev pub own_found_in : Folder → DictionaryNamed → OwnFiles
own_found_in folder names = record {
  dictionary = found_in folder names.aff names.dic;
  own = option_map folder names.own;
}

-- what there is of these names: where a folder is told, what it has of them; where none is,
-- anything, and of a list where one is named
abbrev pub IsOwnThere : Option Folder → DictionaryNamed → OwnFiles → Type 0
IsOwnThere None names there = is_some there.own ≡ is_some names.own
IsOwnThere (Some folder) names there = there ≡ own_found_in folder names

-- what there is of a file of this name: where a folder is told, what it has of it; where none is,
-- anything
abbrev pub IsFileThere : Option Folder → List ℕ → Option (List ℕ) → Type 0
IsFileThere None name file = Unit {0}
IsFileThere (Some folder) name file = file ≡ folder name

-- what there is of a personal list, if one is named
abbrev pub IsListThere : Option Folder → Option (List ℕ) → Option (Option (List ℕ)) → Type 0
IsListThere told None there = there ≡ None
IsListThere told (Some name) there =
    (file : Option (List ℕ)) × (there ≡ Some file) × IsFileThere told name file

-- files that fail and want of memory may come at any time
abbrev pub MayCome : Failure → Type 0
MayCome (Load Failed) = Unit {0}
MayCome NoMemory = Unit {0}
MayCome _ = ⊥
