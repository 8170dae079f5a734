-- What there is to say of the forms of words that read the input.
use Rattle.std.specs.Prelude.{◌≡◌, ℕ, ◌<◌, Bool, true, false, List, [], Option, Some, None, Result}
use Rattle.std.specs.Prelude.{Ok, Err}
use Rattle.std.specs.List.{AllByRecursion}
use Rattle.outside.specs.Files.{Folder}
use Rattle.mark_types.specs.spell_types.declared.Lexicon.{Lexicon}
use Rattle.own_dictionary.specs.personal_words.Dictionaries.{OwnSeen}
use Rattle.mark_types.specs.text_lines.Lines.{line_texts}
use Rattle.own_dictionary.specs.dictionary_swap.declared.fault.LoadFault.TheVariants.{Failed as FailedLoad}
use Rattle.input_lines.specs.Ends.{HasEnded, Reading}
use Rattle.input_lines.specs.Lines.{IsBounded, IsShort, before_quit}
use Rattle.input_lines.specs.declared.reading_end.ReadingEnd.{ReadingEnd}
use Rattle.input_lines.specs.declared.reading_end.ReadingEnd.TheVariants as reading
use Rattle.console_board.specs.Transcripts.{is_quit}
use Rattle.line_forms.specs.Dialogues.{AreReplied, Setting}
use Rattle.pipe_mode.specs.Pipes.{ends_input, pipe_answers}
use Rattle.file_loading.specs.Due.{IsOwnThere, OwnFiles, dictionary_due, own_found_in, unextended_due}
use Rattle.file_loading.specs.Operands.{DictionaryNamed}
use Rattle.file_loading.specs.declared.ending.End.{End}
use Rattle.file_loading.specs.declared.ending.End.TheVariants.{Quiet, Failed}
use Rattle.file_loading.specs.declared.failure.Failure.{Failure}
use Rattle.file_loading.specs.declared.failure.Failure.TheVariants.{Load, Input, Limit, NoMemory}
use Rattle.input_lines.specs.declared.limits.TheConstants.{INPUT_LIMIT, LINE_LIMIT}
use Rattle.file_loading.specs.Forms.{Form, IsUntouched, Met}

-- how a call ends where the reading of its input ends so; where the sink fails, nothing is told
abbrev pub end_after_reading : ReadingEnd → Option End
end_after_reading reading.Finished = Some Quiet
end_after_reading reading.Interrupted = Some (Failed Input)
end_after_reading reading.TooMuch = Some (Failed (Limit INPUT_LIMIT))
end_after_reading reading.LongLine = Some (Failed (Limit LINE_LIMIT))
end_after_reading reading.NoMemory = Some (Failed NoMemory)
end_after_reading reading.SinkFailed = None

-- what may be said of the lines of an input and their answers, by what is met outside and by what
-- was opened for them
abbrev pub Answering : Type 0 → Type 1
Answering T = Met → T → List (List ℕ) → List ℕ → Type 0

-- the lines of the input have had these answers, and then its reading ended, which ends the call
pub record IsDialogue (read : Reading) (quits : List ℕ → Bool)
    (answered : List (List ℕ) → List ℕ → Type 0) (text : List ℕ) (end : End) : Type 0 where
  pub ended : ReadingEnd
  pub end_is : end_after_reading ended ≡ Some end
  pub is : HasEnded quits answered read ended text

-- How words may be answered that ask for a dialogue by a dictionary: it is due that this opens, and
-- the lines were answered; or before that it is due that the dictionary is refused, the files
-- failed, or memory was wanting.
pub data IsOpened {T : Type 0} (met : Met) (names : DictionaryNamed)
    (due : OwnFiles → Result T Failure) (quits : List ℕ → Bool) (answered : Answering T)
    (text : List ℕ) (end : End) : Type 0 where
  Opened : (there : OwnFiles) (opened : T)
      → IsOwnThere met.folder names there → due there ≡ Ok opened
      → IsDialogue met.reading quits (answered met opened) text end
      → IsOpened met names due quits answered text end
  NotOpened : (there : OwnFiles) (failure : Failure)
      → IsOwnThere met.folder names there → due there ≡ Err failure
      → end ≡ Failed failure → text ≡ [] → IsUntouched met.reading
      → IsOpened met names due quits answered text end
  FilesFailedFirst : end ≡ Failed (Load FailedLoad) → IsUntouched met.reading
      → IsOpened met names due quits answered text end
  WantingFirst : end ≡ Failed NoMemory → text ≡ [] → IsUntouched met.reading
      → IsOpened met names due quits answered text end

-- the files failed before anything was taken of the input
abbrev pub FailedFirst : Met → Type 0
FailedFirst met = (met.files_before < met.files_after) × IsUntouched met.reading

-- all lines were answered, or memory was wanting
pub data IsWholeDialogue (read : Reading) (quits : List ℕ → Bool)
    (answered : List (List ℕ) → List ℕ → Type 0) (text : List ℕ) (end : End) : Type 0 where
  AllAnswered : end ≡ Quiet → HasEnded quits answered read reading.Finished text
      → IsWholeDialogue read quits answered text end
  SomeAnswered : end ≡ Failed NoMemory → HasEnded quits answered read reading.NoMemory text
      → IsWholeDialogue read quits answered text end
  NoneAnswered : end ≡ Failed NoMemory → text ≡ []
      → IsWholeDialogue read quits answered text end

-- the folder has what the dialogue is opened by, and the input passes no limit
pub record IsDialogueFit {T : Type 0} (met : Met) (names : DictionaryNamed)
    (due : OwnFiles → Result T Failure) (quits : List ℕ → Bool) (opened : T) : Type 0 where
  pub folder : Folder
  pub folder_is : met.folder ≡ Some folder
  pub is_due : due (own_found_in folder names) ≡ Ok opened
  pub input : List ℕ
  pub input_is : met.reading.before ≡ Some input
  pub bounded : IsBounded quits input
  pub short : AllByRecursion IsShort (before_quit quits (line_texts input))

-- A form of words that asks for a dialogue, by what is due of the files that are named. Where that
-- is fit, nothing fails and no limit is passed, all lines are answered.
abbrev pub dialogue_form : {T : Type 0} → Bool → DictionaryNamed → (OwnFiles → Result T Failure)
    → (List ℕ → Bool) → Answering T → Form
dialogue_form {T} opens_desk names due quits answered = record {
  names_files = true;
  reads_input = true;
  opens_desk = opens_desk;
  answers = λ met text end. IsOpened met names due quits answered text end;
  whole = λ met text end. (opened : T) → IsDialogueFit met names due quits opened
      → ¬ (FailedFirst met) → met.reading.faults_after ≡ met.reading.faults_before
      → IsWholeDialogue met.reading quits (answered met opened) text end;
}

-- a dialogue of a console that opens with a dictionary, beside so many workers
abbrev pub setting_of : Met → ℕ → OwnSeen → Setting
setting_of met workers dictionary = record {
  workers = workers;
  dictionary = dictionary;
  folder = met.folder;
  failed = met.files_before;
  failed_now = met.files_after;
}

-- the console has replied so to these lines
abbrev pub HasReplied : ℕ → Answering OwnSeen
HasReplied workers met dictionary lines said =
    AreReplied (setting_of met workers dictionary) met.closed lines said

-- the pipe has answered these lines so
abbrev pub HasPiped : Answering Lexicon
HasPiped met lexicon lines said = said ≡ pipe_answers lexicon lines

-- `edit AFF DIC` and options
abbrev pub edit_form : DictionaryNamed → ℕ → Form
edit_form names workers = dialogue_form true names dictionary_due is_quit (HasReplied workers)

-- `pipe AFF DIC`
abbrev pub pipe_form : DictionaryNamed → Form
pipe_form names = dialogue_form false names unextended_due ends_input HasPiped
