-- What is due of the files of `team`, and what it prints.
use Rattle.std.specs.Prelude.{ℕ, List, ◌++◌, ◌≡◌, [], ◌∷◌, map, Option, Some, None, IfSome, Result}
use Rattle.std.specs.Prelude.{Ok, Err}
use Rattle.own_dictionary.specs.dictionary_swap.declared.fault.LoadFault.{LoadFault}
use Rattle.own_dictionary.specs.dictionary_swap.declared.fault.LoadFault.TheVariants.{Missing}
use Rattle.own_dictionary.specs.dictionary_swap.declared.fault.LoadFault.TheVariants.{TooLong}
use Rattle.team_script.specs.declared.fault.ScriptFault.{ScriptFault}
use Rattle.team_script.specs.declared.fault.ScriptFault.TheVariants.{Bad, LongLine, ManyPairs}
use Rattle.team_script.specs.declared.fault.ScriptFault.TheVariants.{NoMemory as ScriptWanting}
use Rattle.input_lines.specs.declared.limits.TheConstants.{LINE_LIMIT}
use Rattle.team_forms.specs.declared.limits.TheConstants.{MOST_PAIRS}
use Rattle.file_loading.specs.declared.failure.Failure.{Failure}
use Rattle.file_loading.specs.declared.failure.Failure.TheVariants.{Load, Limit, NoMemory, Script}
use Rattle.std.specs.List.{AllZip, flat_map}
use Rattle.outside.specs.lists.Answers.{◌>>=◌, failing}
use Rattle.outside.specs.Files.{Folder}
use Rattle.mark_types.specs.spell_types.declared.Lexicon.{Lexicon}
use Rattle.own_dictionary.specs.dictionary_swap.Loads.{DictionaryFiles, found_in, lexicon_due}
use Rattle.board_share.specs.edit_core.Runs.{Run}
use Rattle.board_share.specs.edit_core.Seen.{opening_of}
use Rattle.board_share.specs.Eyes.{last_of}
use Rattle.console_board.specs.Transcripts.{IsThere}
use Rattle.team_history.specs.ToldBy.{NamedFiles}
use Rattle.team_script.specs.Due.{script_due}
use Rattle.team_script.specs.Told.{ScriptTold}
use Rattle.team_script.specs.declared.pairs.Pair.{Pair}
use Rattle.team_forms.specs.Teamwork.{IsTeamwork, scripts_in, total_line}
use Rattle.file_loading.specs.Due.{IsFileThere, base_due, bytes_due_of_file}
use Rattle.team_forms.specs.Operands.{TeamNamed}
use Rattle.own_dictionary.specs.dictionary_swap.declared.limits.TheConstants.{SIZE_LIMIT}

-- why a file is no script
abbrev pub script_failure : ScriptFault → Failure
script_failure (Bad line) = Script line
script_failure LongLine = Limit LINE_LIMIT
script_failure ManyPairs = Limit MOST_PAIRS
script_failure ScriptWanting = NoMemory

-- what there is of the files that the words name: those of a dictionary, and the script
pub record TeamFiles : Type 0 where
  pub dictionary : DictionaryFiles
  pub script : Option (List ℕ)

-- what is due of them: the dictionary that the text is opened by, and what the script says
pub record TeamSeen : Type 0 where
  pub lexicon : Lexicon
  pub script : ScriptTold

-- what is due of a script
unfoldable pub read_due : Option (List ℕ) → Result ScriptTold Failure
read_due file = do
  bytes ← bytes_due_of_file SIZE_LIMIT file
  failing script_failure (script_due bytes)

-- the dictionary comes first
unfoldable pub team_due : TeamFiles → Result TeamSeen Failure
team_due files = do
  lexicon ← base_due files.dictionary
  script ← read_due files.script
  Ok (record { lexicon = lexicon; script = script })

-- why a pair of the script ends the call: a file of it is not there or too large. A fault in a line
-- of it does not: that is the reply of each `load` that names the pair.
abbrev pub pair_failure : Result Lexicon LoadFault → Option Failure
pair_failure (Err Missing) = Some (Load Missing)
pair_failure (Err (TooLong limit)) = Some (Load (TooLong limit))
pair_failure due = None

-- the first that there is among these pairs
abbrev pub or_else : Option Failure → Option Failure → Option Failure
or_else (Some failure) later = Some failure
or_else None later = later

abbrev pub pairs_failure : List DictionaryFiles → Option Failure
pairs_failure [] = None
pairs_failure (there ∷ more) = or_else (pair_failure (lexicon_due there)) (pairs_failure more)

-- what there is of these names
pub record AreTeamFiles (told : Option Folder) (names : TeamNamed) (files : TeamFiles) : Type
    0 where
  pub dictionary : IsThere told names.aff names.dic files.dictionary
  pub script : IsFileThere told names.script files.script

-- and of the pairs that a script loads
abbrev pub ArePairs : Option Folder → List Pair → List DictionaryFiles → Type 0
ArePairs told pairs files =
    AllZip (λ pair there. IsThere told pair.aff pair.dic there) pairs files

-- what a folder has of these
abbrev pub team_found_in : Folder → TeamNamed → TeamFiles
team_found_in folder names = record {
  dictionary = found_in folder names.aff names.dic;
  script = folder names.script;
}

abbrev pub pairs_found_in : Folder → List Pair → List DictionaryFiles
pairs_found_in folder pairs = map (λ pair. found_in folder pair.aff pair.dic) pairs

-- the pairs with what there is of them
abbrev pub named_files : List Pair → List DictionaryFiles → List NamedFiles
named_files [] files = []
named_files (pair ∷ pairs) [] = []
named_files (pair ∷ pairs) (there ∷ files) =
    record { aff = pair.aff; dic = pair.dic; there = there } ∷ named_files pairs files

-- What is printed of a team beside so many workers: the replies of each session behind its number,
-- and last the versions of the last board. One history tells all of it, by what there is of each
-- pair that the script loads. Where a history is given back, it is that one.
pub record IsTeamPrinted (pairs : List NamedFiles) (workers : ℕ) (team : TeamSeen)
    (closed : Option Run) (text : List ℕ) : Type 0 where
  pub history : Run
  pub texts : List (List ℕ)
  pub work : IsTeamwork pairs workers (opening_of team.lexicon []) (scripts_in team.script.lines)
      history texts
  pub text_is : text ≡ flat_map (λ one. one) texts ++ total_line (last_of history)
  pub closed_is : IfSome closed (λ run. run ≡ history)
