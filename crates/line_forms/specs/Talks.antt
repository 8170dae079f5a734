-- A console and the workers of its desk, before and behind a dialogue.
use Rattle.std.specs.Prelude.{◌≡◌, ℕ, ◌<◌, List, [], ◌∷◌, ◌++◌, map, Option}
use Rattle.std.specs.List.{AllZip, range_with_len}
use Rattle.outside.specs.Files.{Folder}
use Rattle.own_dictionary.specs.personal_words.Dictionaries.{OwnSeen, in_force}
use Rattle.board_share.specs.edit_core.Seen.{Seen, opening_of}
use Rattle.board_share.specs.Eyes.{EyeSeen, fresh_eye}
use Rattle.worker_crew.specs.Crews.{HasWorked}
use Rattle.input_lines.specs.Ends.{Reading}
use Rattle.input_lines.specs.Turns.{IsOver}
use Rattle.input_lines.specs.declared.reading_end.ReadingEnd.{ReadingEnd}
use Rattle.console_board.specs.Transcripts.{is_quit}
use Rattle.console_history.specs.Told.{Seat}
use Rattle.desk_console.specs.Consoles.{HasTold}
use Rattle.desk_console.specs.declared.stop.Stop.{Stop}

-- the board that a desk opens with by a dictionary: it has no text
abbrev pub opening_by : OwnSeen → Seen
opening_by dictionary = opening_of (in_force dictionary) []

-- the eyes of so many workers, numbered from 0
abbrev pub fresh_workers : ℕ → OwnSeen → List EyeSeen
fresh_workers workers dictionary = map (fresh_eye (opening_by dictionary)) (range_with_len 0 workers)

-- the console beside them
abbrev pub first_seat : ℕ → OwnSeen → Seat
first_seat workers dictionary = record {
  eye = fresh_eye (opening_by dictionary) workers;
  dictionary = dictionary;
}

-- what stands beside a dialogue: the files, the input, and the sink, before it and behind it
pub record Beside : Type 0 where
  pub folder : Option Folder
  pub folder_now : Option Folder
  pub failed : ℕ
  pub failed_now : ℕ
  pub reading : Reading
  pub sink_failed : ℕ
  pub sink_failed_now : ℕ
  pub written : Option (List ℕ)
  pub written_now : Option (List ℕ)

-- a console has replied to the lines of the input, and stands there now
abbrev pub HasTalked : Beside → Option Stop → Seat → Seat → Option Stop → ReadingEnd → Type 0
HasTalked beside stopped_first first now stopped ended =
    IsOver is_quit
    (HasTold beside.folder beside.folder_now beside.failed beside.failed_now stopped_first first now
    stopped)
    beside.reading (beside.sink_failed < beside.sink_failed_now) beside.written beside.written_now
    ended

-- the eyes behind it: those of the workers, and last the console's
pub record AreBehind (first : Seat) (workers eyes : List EyeSeen) (beside : Beside)
    (stopped_first stopped : Option Stop) (ended : ReadingEnd) : Type 0 where
  pub now : Seat
  pub talked : HasTalked beside stopped_first first now stopped ended
  pub others : List EyeSeen
  pub worked : AllZip HasWorked workers others
  pub eyes_are : eyes ≡ others ++ now.eye ∷ []
