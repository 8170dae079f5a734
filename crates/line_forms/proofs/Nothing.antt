-- A dialogue in which nothing was replied.
use Rattle.std.proofs.Common.{◌≡◌, refl, sym, subst, ◌≤◌, List, [], ℕ, Option, None, Some, add-zero}
use Rattle.mark_types.specs.text_lines.Lines.{line_texts}
use Rattle.outside.specs.Laws.{appends-none}
use Rattle.outside.specs.Sink.{Appends}
use Rattle.outside.specs.Source.{IsToldBytes}
use Rattle.input_lines.specs.Ends.{AreAnsweredFirst, Reading, EndsOnSome}
use Rattle.input_lines.specs.Turns.{IsOver}
use Rattle.input_lines.specs.declared.reading_end.ReadingEnd.TheVariants.{NoMemory}
use Rattle.console_lang.specs.declared.command.Command.{Command}
use Rattle.console_board.specs.OwnConsoles.{own_opened}
use Rattle.console_board.specs.Starts.{asked-nothing}
use Rattle.console_board.specs.Transcripts.{Answers, is_quit}
use Rattle.line_forms.specs.Dialogues.{AreReplied, Setting}

-- no lines were replied to
none-replied : (setting : Setting) → setting.failed ≤ setting.failed_now
    → AreReplied setting None [] []
none-replied setting grown = record {
  replies = [];
  said_is = refl;
  transcript = record {
    last = own_opened setting.dictionary.base setting.dictionary.own;
    answers = subst
        (λ (asked : List (Option Command)). Answers setting.workers setting.folder
        (own_opened setting.dictionary.base setting.dictionary.own) asked []
        (own_opened setting.dictionary.base setting.dictionary.own))
        (sym asked-nothing) (refl, refl);
  };
  history = tt;
  failures = subst (λ n. n ≤ setting.failed_now) (sym (add-zero setting.failed)) grown;
}

-- memory was wanting before the first line
pub nothing-said : (setting : Setting) (reading : Reading) (sink_failed : Type 0)
    (written written_now : Option (List ℕ)) → setting.failed ≤ setting.failed_now
    → written_now ≡ written
    → IsOver is_quit (AreReplied setting None) reading sink_failed written written_now NoMemory
nothing-said setting reading sink_failed written written_now grown same = (
  [],
  by reading,
  subst (λ now. Appends written now []) (sym same) (appends-none written),
)
  where
    first : (input : List ℕ) → AreAnsweredFirst is_quit (AreReplied setting None) input []
    first input = record {
      lines = [];
      later = line_texts input;
      lines_are = refl;
      answers = record { going = refl; short = tt; said_so = none-replied setting grown };
    }

    given : (before : Option (List ℕ)) → (input : List ℕ) × IsToldBytes before input
    given None = ([], tt)
    given (Some input) = (input, refl)

    by : (reading : Reading)
        → EndsOnSome is_quit (AreReplied setting None) reading NoMemory []
    by reading =
        let input = given reading.before in
        (input.0, input.1, first input.0)
