-- A dialogue whose desk is closed.
use Rattle.std.proofs.Common.{◌≡◌, ◌∙◌, refl, sym, ap, subst, ℕ, ◌+◌, ◌^◌, ◌<◌, ◌≤◌, ◌⊎◌, List, []}
use Rattle.std.proofs.Common.{length, map, Option, Some, None, IfSome, arith}
use Rattle.std.specs.List.{All, Contains, range_with_len}
use Rattle.std.specs.List.Sorted.{IsPermutation}
use Rattle.std.proofs.lemmas.List.Elements.{All-contains, All-from_recursion}
use Rattle.outside.specs.Files.{Folder}
use Rattle.own_dictionary.specs.personal_words.Dictionaries.{OwnSeen, in_force}
use Rattle.board_share.specs.edit_core.Runs.{Run, asked_of}
use Rattle.board_share.specs.edit_core.Seen.{Seen, opening_of}
use Rattle.board_share.specs.Endings.{HasEventsOf, IsTheirs}
use Rattle.board_share.specs.Eyes.{EyeSeen, IsLater, events_in, fresh_eye, last_of}
use Rattle.input_lines.specs.Ends.{HasEnded, IsWritten}
use Rattle.input_lines.specs.Laws.{ended-weaker}
use Rattle.input_lines.specs.Turns.{IsOver}
use Rattle.input_lines.specs.declared.reading_end.ReadingEnd.{ReadingEnd}
use Rattle.input_lines.specs.declared.reading_end.ReadingEnd.TheVariants as reading
use Rattle.console_lang.specs.declared.command.Command.{Command}
use Rattle.console_lang.specs.declared.reply.Reply.{Reply}
use Rattle.console_board.specs.Boards.{own_console_of}
use Rattle.console_board.specs.OwnConsoles.{OwnConsole}
use Rattle.console_board.specs.Transcripts.{Answers, commands_asked_by, is_quit}
use Rattle.console_history.specs.Followed.{Given, IsConsoleHistory}
use Rattle.console_history.specs.Told.{Seat, Told}
use Rattle.desk_console.specs.Consoles.{HasTold}
use Rattle.desk_console.specs.declared.console.TheConstants.{SESSION}
use Rattle.desk_console.specs.declared.stop.Stop.{Stop}
use Rattle.desk_console.specs.declared.stop.Stop.TheVariants as stop
use Rattle.line_forms.specs.Dialogues.{AreReplied, IsClosedAt, Setting, given_in}
use Rattle.line_forms.specs.Endings.{reading_end_with_stop, history_of}
use Rattle.line_forms.specs.Talks.{AreBehind, Beside, first_seat, fresh_workers, opening_by}
use Rattle.line_forms.proofs.Numbered.{AreNumbered, numbered}
use Rattle.line_forms.proofs.Readings.{broken-off, some-answered}

-- what is known of the eyes of a desk that is closed, by what it says of them
abbrev pub AreAlone : ℕ → List EyeSeen → Type 0
AreAlone by eyes =
    All (λ (other : EyeSeen). (other.number ≡ by) ⊎ (events_in other.counts ≡ 0)) eyes

-- ---- the laws of consoles
abbrev pub ClosedFollowed : Type 0
ClosedFollowed = (given : Given) (dictionary : OwnSeen) (seen : Seat) (eye : EyeSeen)
    (eyes : List EyeSeen) (history : Run) (commands : List (Option Command))
    (replies : List Reply)
    → Told given.folder given.session
    (record {
      eye = fresh_eye (opening_of (in_force dictionary) []) given.by;
      dictionary = dictionary;
    }) commands replies seen
    → IsLater seen.eye eye
    → events_in eye.counts + asked_of seen.eye.run.entries
    ≤ asked_of eye.run.entries + events_in seen.eye.counts
    → IsTheirs eyes history
    → IsPermutation (range_with_len 0 (length eyes)) (map (λ other. other.number) eyes)
    → length eyes ≡ given.workers + 1
    → Contains eyes eye
    → eye.number ≡ given.by
    → AreAlone given.by eyes
    → ((last : OwnConsole)
    × Answers given.workers given.folder
    (own_console_of dictionary (opening_of (in_force dictionary) [])) commands replies last)
    × (seen.eye ≡ eye → IsConsoleHistory given dictionary commands replies history)

abbrev pub EyesStay : Type 0
EyesStay = (folder : Option Folder) (session : ℕ) (first seat : Seat)
    (commands : List (Option Command)) (replies : List Reply)
    → Told folder session first commands replies seat
    → (seat.eye.number ≡ first.eye.number)
    × (seat.eye.run.opening ≡ first.eye.run.opening)

abbrev pub NotSpent : Type 0
NotSpent = (given : Given) (eye : EyeSeen) (eyes : List EyeSeen) (history : Run)
    → IsTheirs eyes history
    → IsPermutation (range_with_len 0 (length eyes)) (map (λ other. other.number) eyes)
    → length eyes ≡ given.workers + 1
    → Contains eyes eye
    → eye.number ≡ given.by
    → AreAlone given.by eyes
    → history.opening.paragraphs ≡ [] → events_in eye.counts ≤ 2 ^ 33
    → (last_of eye.run).point < 2 ^ 62

-- ---- behind a dialogue
module _ (workers : ℕ) (dictionary : OwnSeen) (beside : Beside) where
  abbrev pub setting : Setting
  setting = record {
    workers = workers;
    dictionary = dictionary;
    folder = beside.folder;
    failed = beside.failed;
    failed_now = beside.failed_now;
  }

  module _ (stay : EyesStay) {eyes : List EyeSeen} {stopped : Option Stop} {ended : ReadingEnd}
      (behind : AreBehind (first_seat workers dictionary) (fresh_workers workers dictionary) eyes
      beside None stopped ended) where
    -- something was told, if only that nothing was
    some-told : (lines : List (List ℕ)) × HasTold beside.folder beside.folder_now beside.failed
        beside.failed_now None (first_seat workers dictionary) behind.now stopped lines behind.talked.0
    some-told = some-answered is_quit _ beside.reading behind.talked.0 ended behind.talked.1

    pub same-folder : beside.folder_now ≡ beside.folder
    same-folder = some-told.1.same

    pub failed-more : beside.failed ≤ beside.failed_now
    failed-more = more beside.failed _ beside.failed_now some-told.1.failures
      where
        more : (m n k : ℕ) → m + n ≤ k → m ≤ k
        more m n k is = omega (arith, is)

    stays : (some-told.1.seen.eye.number ≡ workers)
        × (some-told.1.seen.eye.run.opening ≡ opening_by dictionary)
    stays =
        stay beside.folder SESSION (first_seat workers dictionary) some-told.1.seen (commands_asked_by some-told.0)
        some-told.1.replies some-told.1.told

    its-number : behind.now.eye.number ≡ workers
    its-number = some-told.1.later.number ∙ stays.0

    pub all-numbered : AreNumbered workers eyes behind.now.eye
    all-numbered =
        numbered (opening_by dictionary) workers behind.others eyes behind.now.eye behind.worked
        behind.eyes_are its-number

    module _ {history : Run} (theirs : IsTheirs eyes history) where
      -- the console met no last point
      pub never-spent : NotSpent → (point : ℕ) → ¬ (stopped ≡ Some (stop.Spent point))
      never-spent law point spent =
          let told = some-told.1 in
          let early = told.spent point refl spent in
          let has : All (HasEventsOf history) eyes =
          All-from_recursion (HasEventsOf history) eyes theirs.each in
          let own : HasEventsOf history behind.now.eye =
          All-contains (HasEventsOf history) eyes behind.now.eye has all-numbered.among in
          let opens : history.opening ≡ opening_by dictionary =
          sym own.opening ∙ told.later.opening ∙ stays.1 in
          far (last_of behind.now.eye.run).point early.last
          (law (given_in setting) behind.now.eye eyes history theirs all-numbered.permuted
          all-numbered.count all-numbered.among its-number all-numbered.alone
          (ap (λ (board : Seen). board.paragraphs) opens) early.few)
        where
          far : {A : Type 0} (point : ℕ) → 2 ^ 62 ≤ point → point < 2 ^ 62 → A
          far point last short = absurd (omega (arith, last, short))

      -- its lines were replied to, and, where it was not stopped, the history is theirs
      replied : ClosedFollowed → (closed : Option Run)
          → IfSome closed (λ run. (run ≡ history) × (stopped ≡ None))
          → (lines : List (List ℕ)) (said : List ℕ)
          → HasTold beside.folder beside.folder_now beside.failed beside.failed_now None
          (first_seat workers dictionary) behind.now stopped lines said
          → AreReplied setting closed lines said
      replied law closed known lines said told =
          let both = law (given_in setting) dictionary told.seen behind.now.eye eyes history
          (commands_asked_by lines) told.replies told.told told.later told.asks theirs
          all-numbered.permuted all-numbered.count all-numbered.among its-number
          all-numbered.alone in record {
            replies = told.replies;
            said_is = told.text_is;
            transcript = record { last = both.0.0; answers = both.0.1 };
            history = by closed known both.1;
            failures = told.failures;
          }
        where
          by : (closed : Option Run) → IfSome closed (λ run. (run ≡ history) × (stopped ≡ None))
              → (told.seen.eye ≡ behind.now.eye
              → IsConsoleHistory (given_in setting) dictionary (commands_asked_by lines) told.replies
              history)
              → IfSome closed
              (IsConsoleHistory (given_in setting) dictionary (commands_asked_by lines) told.replies)
          by None known follows = tt
          by (Some run) known follows =
              subst (IsConsoleHistory (given_in setting) dictionary (commands_asked_by lines) told.replies)
              (sym known.0) (follows (ap (λ (seat : Seat). seat.eye) (sym (told.going known.1))))

      -- how it has ended
      pub is-over : ClosedFollowed → {ended_now : ReadingEnd} {closed : Option Run}
          → ended_now ≡ reading_end_with_stop ended stopped
          → closed ≡ history_of ended stopped history
          → IsOver is_quit (AreReplied setting closed) beside.reading
          (beside.sink_failed < beside.sink_failed_now) beside.written beside.written_now ended_now
      is-over law {ended_now} {closed} ended_is closed_is =
          subst (λ closed. Over closed ended_now) (sym closed_is)
          (subst (Over (history_of ended stopped history)) (sym ended_is)
          (over ended stopped refl behind.talked.1 behind.talked.2))
        where
          said : List ℕ
          said = behind.talked.0

          Over : Option Run → ReadingEnd → Type 0
          Over closed ended =
              IsOver is_quit (AreReplied setting closed) beside.reading
              (beside.sink_failed < beside.sink_failed_now) beside.written beside.written_now ended

          Told-so : List (List ℕ) → List ℕ → Type 0
          Told-so lines said =
              HasTold beside.folder beside.folder_now beside.failed beside.failed_now None
              (first_seat workers dictionary) behind.now stopped lines said

          plain : (ended : ReadingEnd) → HasEnded is_quit Told-so beside.reading ended said
              → HasEnded is_quit (AreReplied setting None) beside.reading ended said
          plain ended has =
              ended-weaker is_quit Told-so (AreReplied setting None) beside.reading ended said
              (replied law None tt) has

          over : (e : ReadingEnd) (s : Option Stop) → s ≡ stopped
              → HasEnded is_quit Told-so beside.reading e said
              → IsWritten e (beside.sink_failed < beside.sink_failed_now) beside.written
              beside.written_now said
              → Over (history_of e s history) (reading_end_with_stop e s)
          over reading.Finished None going has written = (
            said,
            ended-weaker is_quit Told-so (AreReplied setting (Some history)) beside.reading
                reading.Finished said (replied law (Some history) (refl, sym going)) has,
            written,
          )
          over reading.Finished (Some why) going has written = (
            said,
            broken-off is_quit (AreReplied setting None) beside.reading said
                (plain reading.Finished has),
            written,
          )
          over reading.Interrupted s going has written =
              (said, plain reading.Interrupted has, written)
          over reading.TooMuch s going has written = (said, plain reading.TooMuch has, written)
          over reading.LongLine s going has written = (said, plain reading.LongLine has, written)
          over reading.NoMemory s going has written = (said, plain reading.NoMemory has, written)
          over reading.SinkFailed s going has written =
              (said, plain reading.SinkFailed has, written)

-- the history is told exactly at the end of the input
pub closed-at : (ended : ReadingEnd) (stopped : Option Stop) (history : Run)
    {ended_now : ReadingEnd} {closed : Option Run} → ended_now ≡ reading_end_with_stop ended stopped
    → closed ≡ history_of ended stopped history → IsClosedAt ended_now closed
closed-at ended stopped history {ended_now} ended_is closed_is =
    subst (λ closed. IsClosedAt ended_now closed) (sym closed_is)
    (subst (λ e. IsClosedAt e (history_of ended stopped history)) (sym ended_is)
    (by ended stopped))
  where
    by : (e : ReadingEnd) (s : Option Stop)
        → IsClosedAt (reading_end_with_stop e s) (history_of e s history)
    by reading.Finished None = refl
    by reading.Finished (Some why) = refl
    by reading.Interrupted s = refl
    by reading.TooMuch s = refl
    by reading.LongLine s = refl
    by reading.NoMemory s = refl
    by reading.SinkFailed s = refl
