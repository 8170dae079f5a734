-- What there is to say of each form of words: whether it names files, whether it reads the input,
-- what it may be answered, and what is whole.
use Rattle.std.specs.Prelude.{◌≡◌, ℕ, ◌==◌, ◌<◌, Bool, true, false, ◌&&◌, List, [], Option, is_some}
use Rattle.std.specs.Bool.{OnFalse}
use Rattle.outside.specs.Files.{Folder}
use Rattle.edit_core.specs.Runs.{Run}
use Rattle.own_dictionary.specs.dictionary_swap.declared.fault.LoadFault.TheVariants.{Failed as FailedLoad}
use Rattle.input_lines.specs.Ends.{Reading}
use Rattle.input_lines.specs.declared.reading_end.ReadingEnd.TheVariants as reading
use Rattle.file_loading.specs.declared.ending.End.{End}
use Rattle.file_loading.specs.declared.ending.End.TheVariants.{Failed}
use Rattle.file_loading.specs.declared.failure.Failure.TheVariants.{Words, Load, Own, Document}
use Rattle.file_loading.specs.declared.failure.Failure.TheVariants.{Input, ManyForms, Script}

-- What a call meets outside: what the folder tells, how often the files had failed before the call
-- and behind it, and what was read of the input. With it stands what the call gives back beside its
-- status: the history of the desk that it has closed, if it tells one.
pub record Met : Type 0 where
  pub folder : Option Folder
  pub files_before : ℕ
  pub files_after : ℕ
  pub reading : Reading
  pub closed : Option Run

-- nothing was taken of the input
pub record IsUntouched (reading : Reading) : Type 0 where
  pub same : reading.after ≡ reading.before
  pub count : reading.faults_after ≡ reading.faults_before

-- a form of words
pub record Form : Type 1 where
  pub names_files : Bool
  pub reads_input : Bool
  -- whether it opens a desk, whose history is told where the status is 0
  pub opens_desk : Bool
  -- by what is met outside, this text may be written, and the call then ends so
  pub answers : Met → List ℕ → End → Type 0
  -- where nothing fails and no limit is passed, the text is whole, or memory was wanting
  pub whole : Met → List ℕ → End → Type 0

-- the history of a desk is told exactly where the words open one and the status is 0
abbrev pub IsClosedAfter : Bool → ℕ → Option Run → Type 0
IsClosedAfter opens status closed = is_some closed ≡ (opens && (status == 0))

-- where words, files or a document are refused, or a dictionary has too many forms to be listed,
-- that is the only line
abbrev pub is_the_only_line : End → Bool
is_the_only_line (Failed Words) = true
is_the_only_line (Failed (Load fault)) = true
is_the_only_line (Failed (Own line why)) = true
is_the_only_line (Failed (Document fault)) = true
is_the_only_line (Failed (ManyForms limit)) = true
is_the_only_line (Failed (Script line)) = true
is_the_only_line _ = false

-- the causes of ends, of words that are of a form or of none
pub record IsCaused (has_form : Bool) (met : Met) (text : List ℕ) (end : End) : Type 0 where
  pub words : end ≡ Failed Words → has_form ≡ false
  pub files : end ≡ Failed (Load FailedLoad) → met.files_before < met.files_after
  pub input : end ≡ Failed Input → met.reading.faults_before < met.reading.faults_after
  pub alone : is_the_only_line end ≡ true → text ≡ []

-- what words may be answered: what their form may be, with its cause; what the form does not need
-- stays untouched
pub record IsAnswerBy (has_form : Bool) (form : Form) (met : Met) (text : List ℕ) (end : End) : Type
    0 where
  pub answer : form.answers met text end
  pub caused : IsCaused has_form met text end
  pub input : OnFalse form.reads_input (IsUntouched met.reading)
  pub files : OnFalse form.names_files (met.files_after ≡ met.files_before)
