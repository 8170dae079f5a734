-- How a dialogue ends, by how the reading of its input has ended.
use Rattle.std.proofs.Common.{◌≡◌, ◌∙◌, ◌⊎◌, ⊎_elim, inl, inr, ℕ, ◌<◌, ◌≤◌, Bool, true, List, []}
use Rattle.std.proofs.Common.{Option, Some, None, IfSome, IfErr, is_some, Result, Ok, Err, refl}
use Rattle.std.proofs.Common.{◌==◌, false, arith, sym, ap, subst}
use Rattle.std.specs.List.{AllByRecursion}
use Rattle.outside.specs.lists.Answers.{FailsAs}
use Rattle.mark_types.specs.text_lines.Lines.{line_texts}
use Rattle.outside.specs.Files.{Folder}
use Rattle.outside.specs.Laws.{front-longer}
use Rattle.outside.specs.Sink.{Appends}
use Rattle.mark_types.specs.spell_types.declared.Lexicon.{Lexicon}
use Rattle.own_dictionary.specs.personal_words.Dictionaries.{OwnSeen}
use Rattle.own_dictionary.specs.dictionary_swap.declared.fault.LoadFault.TheVariants.{Failed as FailedLoad}
use Rattle.input_lines.specs.Ends.{HasEnded, IsWritten, Reading}
use Rattle.input_lines.specs.Laws.{AnswerRelation, ended-weaker}
use Rattle.input_lines.specs.Lines.{IsBounded, IsShort, before_quit}
use Rattle.input_lines.specs.declared.reading_end.ReadingEnd.{ReadingEnd}
use Rattle.input_lines.specs.declared.reading_end.ReadingEnd.TheVariants as reading
use Rattle.board_share.specs.edit_core.Runs.{Run}
use Rattle.pipe_mode.specs.Pipes.{ends_input, pipe_answers}
use Rattle.console_board.specs.Transcripts.{IsTranscript, commands_asked_by}
use Rattle.console_history.specs.Followed.{IsConsoleHistory}
use Rattle.desk_console.specs.declared.console.TheConstants.{SESSION}
use Rattle.line_forms.specs.Dialogues.{AreReplied, IsClosedAt}
use Rattle.file_loading.specs.Due.{IsOwnThere, MayCome, OwnFiles, own_found_in}
use Rattle.file_loading.specs.Ends.{Cut, EndsAs, IsEndPut, ends_without_marks}
use Rattle.file_loading.specs.Failures.{last_line}
use Rattle.line_forms.specs.Forms.{AllAnswered, Answering, FilesFailedFirst, IsDialogue}
use Rattle.line_forms.specs.Forms.{IsDialogueFit}
use Rattle.line_forms.specs.Forms.{IsOpened, IsWholeDialogue, NoneAnswered, NotOpened, SomeAnswered}
use Rattle.line_forms.specs.Forms.{WantingFirst, end_after_reading}
use Rattle.file_loading.specs.Forms.{IsCaused, IsClosedAfter, IsUntouched, Met}
use Rattle.file_loading.specs.Operands.{DictionaryNamed}
use Rattle.file_loading.specs.declared.ending.End.{End}
use Rattle.file_loading.specs.declared.ending.End.TheVariants.{Quiet, Failed}
use Rattle.file_loading.specs.declared.failure.Failure.{Failure}
use Rattle.file_loading.specs.declared.failure.Failure.TheVariants.{Load, NoMemory}
use Rattle.file_loading.specs.DueLaws.{IsTold, comes-as, failure-caused, failure-told}
use Rattle.file_loading.specs.EndLaws.{ends-behind, goes-on}

-- ---- how a dialogue ends

-- where its reading has ended, and the sink did not fail
pub dialogue-ends : {read : Reading} {quits : List ℕ → Bool} {answered : AnswerRelation}
    {put_failed whole_failed : Type 0} {end : End} {before middle now : Option (List ℕ)} {status : ℕ}
    (sink_failed : Type 0) (ended : ReadingEnd) (said : List ℕ)
    → HasEnded quits answered read ended said
    → IsWritten ended sink_failed before middle said
    → end_after_reading ended ≡ Some end → (put_failed → whole_failed)
    → IsEndPut end put_failed middle now status
    → EndsAs (IsDialogue read quits answered) whole_failed before now status
dialogue-ends {end = end} {before = before} {middle = middle} sink_failed ended said is written told
    fails put =
    ends-behind said end fails (by ended written told)
    (record { ended = ended; end_is = told; is = is }) put
  where
    by : (ended : ReadingEnd) → IsWritten ended sink_failed before middle said
        → end_after_reading ended ≡ Some end → Appends before middle said
    by reading.SinkFailed written told = absurd (cc)
    by _ written told = written

-- where it did
pub dialogue-cut : {read : Reading} {quits : List ℕ → Bool} {answered : AnswerRelation}
    {before now : Option (List ℕ)} (sink_failed : Type 0) (ended : ReadingEnd) (said : List ℕ)
    → HasEnded quits answered read ended said
    → IsWritten ended sink_failed before now said
    → end_after_reading ended ≡ None
    → EndsAs (IsDialogue read quits answered) sink_failed before now 6
dialogue-cut {before = before} {now = now} sink_failed reading.SinkFailed said is written told =
    record {
      text = said;
      due = Failed NoMemory;
      answer = record { ended = reading.NoMemory; end_is = refl; is = is };
      end = Failed NoMemory;
      end_is = inr refl;
      put = Cut written.0 refl (front-longer before now said (last_line NoMemory) written.1);
    }
dialogue-cut sink_failed _ said is written told = absurd (cc)

-- ---- forms that ask for a dialogue

-- what ends it is caused
pub dialogue-caused : {has_form : Bool} {met : Met} {quits : List ℕ → Bool} {answered : AnswerRelation}
    {text : List ℕ} {end : End} → IsDialogue met.reading quits answered text end
    → IsCaused has_form met text end
dialogue-caused {has_form} {met} {quits} {answered} {text} {end} dialogue =
    by dialogue.ended dialogue.end_is dialogue.is
  where
    by : (ended : ReadingEnd) → end_after_reading ended ≡ Some end
        → HasEnded quits answered met.reading ended text → IsCaused has_form met text end
    by reading.Interrupted is ended = goes-on (cc) (λ input. ended.failed)
    by reading.SinkFailed is ended = absurd (cc)
    by _ is ended = goes-on (cc) (λ input. absurd (cc))

-- none is opened
pub not-opened : {T : Type 0} {met : Met} {names : DictionaryNamed} {quits : List ℕ → Bool}
    {answered : Answering T} {failure : Failure} {due : OwnFiles → Result T Failure}
    → (there : OwnFiles) × IsOwnThere met.folder names there × FailsAs MayCome (due there) failure
    → IsUntouched met.reading → IsOpened met names due quits answered [] (Failed failure)
not-opened {T} {met} {names} {quits} {answered} {failure} {due} (there, is, fails) untouched =
    by fails
  where
    by : FailsAs MayCome (due there) failure
        → IsOpened met names due quits answered [] (Failed failure)
    by (inl comes) =
        ⊎_elim (λ failed. FilesFailedFirst (ap Failed failed) untouched)
        (λ wanting. WantingFirst (ap Failed wanting) refl untouched) (comes-as failure comes)
    by (inr is_due) = NotOpened there failure is is_due refl refl untouched

-- and that is caused
pub not-opened-caused : {T : Type 0} {has_form : Bool} {met : Met} {failure : Failure}
    (names : DictionaryNamed) (due : OwnFiles → Result T Failure)
    → ((there : OwnFiles) → IfErr (due there) IsTold)
    → (there : OwnFiles) × IsOwnThere met.folder names there × FailsAs MayCome (due there) failure
    → (failure ≡ Load FailedLoad → met.files_before < met.files_after)
    → IsCaused has_form met [] (Failed failure)
not-opened-caused names due told (there, is, fails) rose = failure-caused (failure-told (told there) fails) rose

-- ---- where nothing fails and no limit is passed

-- what is due where the files are fit
fit-due : {T : Type 0} {met : Met} {names : DictionaryNamed} {quits : List ℕ → Bool} {opened : T}
    (due : OwnFiles → Result T Failure) (there : OwnFiles)
    → IsDialogueFit met names due quits opened → IsOwnThere met.folder names there
    → due there ≡ Ok opened
fit-due {names = names} due there fit is =
    let found : there ≡ own_found_in fit.folder names =
    subst (λ told. IsOwnThere told names there) fit.folder_is is in
    ap due found ∙ fit.is_due

-- what is fit is loaded, unless the files fail first
pub not-opened-whole : {T : Type 0} {met : Met} {names : DictionaryNamed} {quits : List ℕ → Bool}
    {failure : Failure} (due : OwnFiles → Result T Failure) (answered : Answering T)
    → (there : OwnFiles) × IsOwnThere met.folder names there × FailsAs MayCome (due there) failure
    → (failure ≡ Load FailedLoad → met.files_before < met.files_after) → IsUntouched met.reading
    → (opened : T) → IsDialogueFit met names due quits opened
    → ¬ ((met.files_before < met.files_after) × IsUntouched met.reading)
    → IsWholeDialogue met.reading quits (answered met opened) [] (Failed failure)
not-opened-whole {T} {met} {names} {quits} {failure} due answered (there, is, fails) rose untouched
    opened fit first =
    by fails
  where
    by : FailsAs MayCome (due there) failure
        → IsWholeDialogue met.reading quits (answered met opened) [] (Failed failure)
    by (inl comes) =
        ⊎_elim (λ failed. absurd (first (rose failed, untouched)))
        (λ wanting. NoneAnswered (ap Failed wanting) refl) (comes-as failure comes)
    by (inr is_due) =
        let never : Ok opened ≡ Err failure = sym (fit-due due there fit is) ∙ is_due in
        absurd (cc)

-- what the law of readings says, of a dialogue
abbrev pub AreRead : Type 0
AreRead = (quits : List ℕ → Bool) (read : Reading) (input said : List ℕ) (ended : ReadingEnd)
    → HasEnded quits (λ lines answers. Unit {0}) read ended said → read.before ≡ Some input
    → IsBounded quits input
    → ((line : List ℕ) → quits line ≡ true → IsShort line)
    → AllByRecursion IsShort (before_quit quits (line_texts input))
    → read.faults_after ≡ read.faults_before → (ended ≡ reading.Finished)
    ⊎ ((ended ≡ reading.NoMemory) ⊎ (ended ≡ reading.SinkFailed))

-- a dialogue over an input that is fit answers all its lines
pub dialogue-whole : {T : Type 0} {met : Met} {names : DictionaryNamed} {quits : List ℕ → Bool}
    {opened : T} {text : List ℕ} {end : End} (due : OwnFiles → Result T Failure)
    (answered : Answering T) → AreRead
    → ((line : List ℕ) → quits line ≡ true → IsShort line)
    → (there : OwnFiles) × IsOwnThere met.folder names there × (due there ≡ Ok opened)
    → IsDialogue met.reading quits (answered met opened) text end
    → (other : T) → IsDialogueFit met names due quits other
    → met.reading.faults_after ≡ met.reading.faults_before
    → IsWholeDialogue met.reading quits (answered met other) text end
dialogue-whole {T} {met} {names} {quits} {opened} {text} {end} due answered read quits_short
    (there, is, is_due) dialogue other fit reads =
    let also : due there ≡ Ok other = fit-due due there fit is in
    let same : opened ≡ other = cc in
    subst (λ opened. IsWholeDialogue met.reading quits (answered met opened) text end) same
    (by dialogue.ended dialogue.end_is dialogue.is
    (read quits met.reading fit.input text dialogue.ended
    (ended-weaker quits (answered met opened) (λ lines answers. Unit {0}) met.reading
    dialogue.ended text (λ lines said is. tt) dialogue.is)
    fit.input_is fit.bounded quits_short fit.short reads))
  where
    by : (ended : ReadingEnd) → end_after_reading ended ≡ Some end
        → HasEnded quits (answered met opened) met.reading ended text
        → (ended ≡ reading.Finished) ⊎ ((ended ≡ reading.NoMemory) ⊎ (ended ≡ reading.SinkFailed))
        → IsWholeDialogue met.reading quits (answered met opened) text end
    by ended told is (inl finished) =
        let quiet : Some end ≡ Some Quiet = sym told ∙ ap end_after_reading finished in
        AllAnswered (cc)
        (subst (λ ended. HasEnded quits (answered met opened) met.reading ended text) finished is)
    by ended told is (inr (inl wanting)) =
        let memory : Some end ≡ Some (Failed NoMemory) = sym told ∙ ap end_after_reading wanting in
        SomeAnswered (cc)
        (subst (λ ended. HasEnded quits (answered met opened) met.reading ended text) wanting is)
    by ended told is (inr (inr cut)) =
        let never : Some end ≡ None = sym told ∙ ap end_after_reading cut in absurd (cc)

-- ---- what a pipe has answered

-- by a dictionary, which is this one
pub piped-by : {read : Reading} {lexicon other : Lexicon} {text : List ℕ} {end : End}
    → lexicon ≡ other
    → IsDialogue read ends_input (λ lines said. said ≡ pipe_answers lexicon lines) text end
    → IsDialogue read ends_input (λ lines said. said ≡ pipe_answers other lines) text end
piped-by {read} {text = text} {end = end} same is =
    subst (λ lexicon.
    IsDialogue read ends_input (λ lines said. said ≡ pipe_answers lexicon lines) text end) same is

-- ---- what a console has replied

-- the files may have failed before, which is told of the whole call
pub replied-so : {workers : ℕ} {dictionary : OwnSeen} {folder told : Option Folder}
    {before failed after : ℕ} {closed : Option Run} {lines : List (List ℕ)} {said : List ℕ}
    → folder ≡ told → before ≤ failed
    → AreReplied (record {
      workers = workers;
      dictionary = dictionary;
      folder = told;
      failed = failed;
      failed_now = after;
    }) closed lines said
    → AreReplied (record {
      workers = workers;
      dictionary = dictionary;
      folder = folder;
      failed = before;
      failed_now = after;
    }) closed lines said
replied-so {workers} {dictionary} {closed = closed} {lines = lines} same sooner is = record {
  replies = is.replies;
  said_is = is.said_is;
  transcript = subst
      (λ folder. IsTranscript workers folder dictionary.base dictionary.own lines is.replies)
      (sym same) is.transcript;
  history = subst
      (λ folder. IfSome closed (IsConsoleHistory
      (record { workers = workers; folder = folder; by = workers; session = SESSION }) dictionary
      (commands_asked_by lines) is.replies))
      (sym same) is.history;
  failures = omega (arith, is.failures, sooner);
}

-- ---- what is told of the history

-- by how the call ends; where the sink failed, there is no end to tell
abbrev tells : Option End → Bool
tells None = false
tells (Some end) = ends_without_marks end

ends-after : (closed : Option Run) (ended : ReadingEnd) → IsClosedAt ended closed
    → is_some closed ≡ tells (end_after_reading ended)
ends-after closed reading.Finished at = at
ends-after closed reading.Interrupted at = ap is_some at
ends-after closed reading.TooMuch at = ap is_some at
ends-after closed reading.LongLine at = ap is_some at
ends-after closed reading.NoMemory at = ap is_some at
ends-after closed reading.SinkFailed at = ap is_some at

pub closed-after : (closed : Option Run) {end : End} (status : ℕ) (ended : ReadingEnd)
    → IsClosedAt ended closed → end_after_reading ended ≡ Some end
    → (status == 0) ≡ ends_without_marks end
    → IsClosedAfter true status closed
closed-after closed status ended at told zero = ends-after closed ended at ∙ ap tells told ∙ sym zero

pub none-after : (closed : Option Run) (ended : ReadingEnd)
    → IsClosedAt ended closed → end_after_reading ended ≡ None → IsClosedAfter true 6 closed
none-after closed ended at told = ends-after closed ended at ∙ ap tells told
