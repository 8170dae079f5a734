-- What there is to say of the words that ask for sessions at once.
use Rattle.std.specs.Prelude.{◌≡◌, ℕ, true, false, List, [], Some, None, Ok, Err}
use Rattle.outside.specs.Files.{Folder}
use Rattle.own_dictionary.specs.dictionary_swap.Loads.{DictionaryFiles}
use Rattle.own_dictionary.specs.dictionary_swap.declared.fault.LoadFault.TheVariants.{Failed as FailedLoad}
use Rattle.team_forms.specs.Operands.{TeamNamed}
use Rattle.team_forms.specs.Teams.{ArePairs, AreTeamFiles, IsTeamPrinted, TeamFiles, TeamSeen}
use Rattle.team_forms.specs.Teams.{named_files, pairs_failure, pairs_found_in, team_due}
use Rattle.team_forms.specs.Teams.{team_found_in}
use Rattle.team_history.specs.ToldBy.{NamedFiles}
use Rattle.file_loading.specs.declared.ending.End.{End}
use Rattle.file_loading.specs.declared.ending.End.TheVariants.{Quiet, Failed}
use Rattle.file_loading.specs.declared.failure.Failure.{Failure}
use Rattle.file_loading.specs.declared.failure.Failure.TheVariants.{Load, NoMemory}
use Rattle.file_loading.specs.Forms.{Form, Met}

-- How words may be answered that ask for sessions at once: all have ended, and what they were told
-- is printed; or it is due that the dictionary, the script or a pair that it loads is refused, the
-- files failed, or memory was wanting. Of these only the last line is written.
pub data IsTeamAnswer (met : Met) (names : TeamNamed) (workers : ℕ) (text : List ℕ) (end : End) :
    Type 0 where
  AllEnded : (files : TeamFiles) (team : TeamSeen) (pairs : List DictionaryFiles)
      → AreTeamFiles met.folder names files → team_due files ≡ Ok team
      → ArePairs met.folder team.script.pairs pairs → pairs_failure pairs ≡ None
      → IsTeamPrinted (named_files team.script.pairs pairs) workers team met.closed text
      → end ≡ Quiet → IsTeamAnswer met names workers text end
  TeamRefused : (files : TeamFiles) (failure : Failure) → AreTeamFiles met.folder names files
      → team_due files ≡ Err failure → end ≡ Failed failure → text ≡ []
      → IsTeamAnswer met names workers text end
  PairRefused : (files : TeamFiles) (team : TeamSeen) (pairs : List DictionaryFiles)
      (failure : Failure)
      → AreTeamFiles met.folder names files → team_due files ≡ Ok team
      → ArePairs met.folder team.script.pairs pairs → pairs_failure pairs ≡ Some failure
      → end ≡ Failed failure → text ≡ [] → IsTeamAnswer met names workers text end
  FilesFailedThen : end ≡ Failed (Load FailedLoad) → text ≡ []
      → IsTeamAnswer met names workers text end
  WantingThen : end ≡ Failed NoMemory → text ≡ [] → IsTeamAnswer met names workers text end

-- the folder has what is named, and nothing in it is refused
pub record IsTeamFit (met : Met) (names : TeamNamed) (team : TeamSeen) : Type 0 where
  pub folder : Folder
  pub folder_is : met.folder ≡ Some folder
  pub is_due : team_due (team_found_in folder names) ≡ Ok team
  pub pairs : pairs_failure (pairs_found_in folder team.script.pairs) ≡ None

-- the pairs that the script loads, as the folder has them
abbrev pub pairs_of_fit : {met : Met} {names : TeamNamed} {team : TeamSeen}
    → IsTeamFit met names team → List NamedFiles
pairs_of_fit {team = team} fit =
    named_files team.script.pairs (pairs_found_in fit.folder team.script.pairs)

-- all is printed, or memory was wanting
pub data IsWholeTeam (met : Met) (workers : ℕ) (team : TeamSeen) (pairs : List NamedFiles)
    (text : List ℕ) (end : End) : Type 0 where
  AllOfThem : end ≡ Quiet → IsTeamPrinted pairs workers team met.closed text
      → IsWholeTeam met workers team pairs text end
  NoneOfThem : end ≡ Failed NoMemory → text ≡ [] → IsWholeTeam met workers team pairs text end

abbrev pub team_form : TeamNamed → ℕ → Form
team_form names workers = record {
  names_files = true;
  reads_input = false;
  opens_desk = true;
  answers = λ met text end. IsTeamAnswer met names workers text end;
  whole = λ met text end. (team : TeamSeen) (fit : IsTeamFit met names team)
      → met.files_after ≡ met.files_before
      → IsWholeTeam met workers team (pairs_of_fit fit) text end;
}
