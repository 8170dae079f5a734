-- What is loaded for `team`, or why it is not.
use Rattle.std.specs.Prelude.{◌≡◌, ℕ, List, All, map, Option, Some, None, Result, Ok, Err}
use Rattle.std.specs.Arc.{arc_value}
use Rattle.std.specs.declared.alloc.Global.{Global}
use Rattle.std.specs.declared.sync.Arc.{Arc}
use Rattle.outside.specs.Files.{Folder}
use Rattle.mark_types.specs.spell_types.declared.Lexicon.{Lexicon}
use Rattle.own_dictionary.specs.dictionary_swap.Loads.{DictionaryFiles, lexicon_due}
use Rattle.own_dictionary.specs.dictionary_swap.declared.fault.LoadFault.{LoadFault}
use Rattle.own_dictionary.specs.dictionary_swap.declared.fault.LoadFault.TheVariants.{Aff, Dic}
use Rattle.console_board.specs.Transcripts.{IsThere}
use Rattle.team_script.specs.declared.pairs.Pair.{Pair}
use Rattle.team_forms.specs.Pairs.{Holds, IsLoaded, names_of}
use Rattle.team_forms.specs.declared.pairs.LoadedPair.{LoadedPair}
use Rattle.file_loading.specs.Due.{MayCome}
use Rattle.file_loading.specs.Failures.{failure_of}
use Rattle.team_forms.specs.Operands.{TeamNamed}
use Rattle.team_forms.specs.Teams.{ArePairs, AreTeamFiles, TeamFiles, TeamSeen, pair_failure}
use Rattle.team_forms.specs.Teams.{named_files, pairs_failure, team_due}
use Rattle.file_loading.specs.declared.failure.Failure.{Failure}

-- why a pair that was refused ends the call: a fault in a line of it does not
abbrev pub ending_of : LoadFault → Option Failure
ending_of (Aff line why) = None
ending_of (Dic line why) = None
ending_of fault = Some (failure_of fault)

-- what is held of the files with these names is what is due of them, which does not end the call
pub record IsHeld (told : Option Folder) (aff dic : List ℕ)
    (held : Result (Arc Lexicon Global) LoadFault) : Type 0 where
  pub there : DictionaryFiles
  pub is_there : IsThere told aff dic there
  pub goes_on : pair_failure (lexicon_due there) ≡ None
  pub holds : Holds (λ judge. arc_value judge) (lexicon_due there) held

-- why nothing is held of them
pub data IsNotHeld (told : Option Folder) (aff dic : List ℕ) (failure : Failure) : Type 0 where
  PairComes : MayCome failure → IsNotHeld told aff dic failure
  PairEnds : (there : DictionaryFiles) → IsThere told aff dic there
      → pair_failure (lexicon_due there) ≡ Some failure → IsNotHeld told aff dic failure

-- a pair with these names was loaded
pub record IsPairLoaded (told : Option Folder) (pair : Pair) (loaded : LoadedPair Lexicon) : Type
    0 where
  pub names : names_of loaded ≡ pair
  pub held : IsHeld told pair.aff pair.dic loaded.loaded

-- pairs were loaded, each at its place, and none of them ends the call
pub record AreLoaded (told : Option Folder) (pairs : List Pair)
    (loaded : List (LoadedPair Lexicon)) : Type 0 where
  pub there : List DictionaryFiles
  pub are_there : ArePairs told pairs there
  pub go_on : pairs_failure there ≡ None
  pub names : map names_of loaded ≡ pairs
  pub each : All (IsLoaded (λ lexicon. lexicon) (named_files pairs there)) loaded

-- why pairs are not loaded
pub data AreNotLoaded (told : Option Folder) (pairs : List Pair) (failure : Failure) : Type 0 where
  PairsCome : MayCome failure → AreNotLoaded told pairs failure
  PairsEnd : (there : List DictionaryFiles) → ArePairs told pairs there
      → pairs_failure there ≡ Some failure → AreNotLoaded told pairs failure

-- a team was loaded, with the pairs of its script
pub record IsTeamLoaded (told : Option Folder) (names : TeamNamed) (team : TeamSeen)
    (loaded : List (LoadedPair Lexicon)) : Type 0 where
  pub files : TeamFiles
  pub are_there : AreTeamFiles told names files
  pub is_due : team_due files ≡ Ok team
  pub pairs : AreLoaded told team.script.pairs loaded

-- why a team is not loaded
pub data IsNotLoaded (told : Option Folder) (names : TeamNamed) (failure : Failure) : Type 0 where
  TeamComes : MayCome failure → IsNotLoaded told names failure
  TeamEnds : (files : TeamFiles) → AreTeamFiles told names files → team_due files ≡ Err failure
      → IsNotLoaded told names failure
  PairEndsIt : (files : TeamFiles) (team : TeamSeen) (pairs : List DictionaryFiles)
      → AreTeamFiles told names files → team_due files ≡ Ok team
      → ArePairs told team.script.pairs pairs → pairs_failure pairs ≡ Some failure
      → IsNotLoaded told names failure
