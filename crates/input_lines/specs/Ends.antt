-- How the reading of an input ends, and what was answered then.
use Rattle.std.specs.Prelude.{◌≡◌, ℕ, ◌+◌, ◌<◌, ◌≤◌, Bool, false, List, ◌∷◌, ◌++◌, length, take}
use Rattle.std.specs.Prelude.{Option}
use Rattle.std.specs.List.{AllByRecursion, list_any}
use Rattle.outside.specs.Sink.{Appends, AppendsFront}
use Rattle.outside.specs.Source.{IsToldBytes, Takes}
use Rattle.text_lines.specs.Lines.{line_texts}
use Rattle.input_lines.specs.Lines.{AreWhole, EndsLine, IsBounded, IsShort, before_quit}
use Rattle.input_lines.specs.declared.reading_end.ReadingEnd.{ReadingEnd}
use Rattle.input_lines.specs.declared.reading_end.ReadingEnd.TheVariants.{Finished, Interrupted}
use Rattle.input_lines.specs.declared.reading_end.ReadingEnd.TheVariants.{TooMuch, LongLine}
use Rattle.input_lines.specs.declared.reading_end.ReadingEnd.TheVariants.{NoMemory, SinkFailed}
use Rattle.input_lines.specs.declared.limits.TheConstants.{INPUT_LIMIT, LINE_LIMIT}

-- What was read: what the input told before and what it tells behind, and how often it had failed
-- then.
pub record Reading : Type 0 where
  pub before : Option (List ℕ)
  pub after : Option (List ℕ)
  pub faults_before : ℕ
  pub faults_after : ℕ

-- these lines were answered so: none of them ends the input, and none is too long
pub record AreAnswered (quits : List ℕ → Bool) (answered : List (List ℕ) → List ℕ → Type 0)
    (lines : List (List ℕ)) (said : List ℕ) : Type 0 where
  pub going : list_any quits lines ≡ false
  pub short : AllByRecursion IsShort lines
  pub said_so : answered lines said

-- the lines that are whole in some bytes were answered so
pub record AreAnsweredWhole (quits : List ℕ → Bool) (answered : List (List ℕ) → List ℕ → Type 0)
    (bytes said : List ℕ) : Type 0 where
  pub lines : List (List ℕ)
  pub whole : AreWhole bytes lines
  pub answers : AreAnswered quits answered lines said

-- all lines of an input were answered, up to one that ends it
pub record IsFinished (quits : List ℕ → Bool) (answered : List (List ℕ) → List ℕ → Type 0)
    (input said : List ℕ) : Type 0 where
  pub bounded : IsBounded quits input
  pub answers : AreAnswered quits answered (before_quit quits (line_texts input)) said

-- a line that begins among the bytes that are read is too long; those before it were answered
pub record HasLongLine (quits : List ℕ → Bool) (answered : List (List ℕ) → List ℕ → Type 0)
    (input said : List ℕ) : Type 0 where
  pub front : List ℕ
  pub rest : List ℕ
  pub parts : input ≡ front ++ rest
  pub ends : EndsLine front
  pub few : length front ≤ INPUT_LIMIT
  pub answers : AreAnswered quits answered (line_texts front) said
  pub long : List ℕ
  pub later : List (List ℕ)
  pub lines_are : line_texts input ≡ line_texts front ++ long ∷ later
  pub too_long : LINE_LIMIT < length long

-- the first lines of an input were answered
pub record AreAnsweredFirst (quits : List ℕ → Bool) (answered : List (List ℕ) → List ℕ → Type 0)
    (input said : List ℕ) : Type 0 where
  pub lines : List (List ℕ)
  pub later : List (List ℕ)
  pub lines_are : line_texts input ≡ lines ++ later
  pub answers : AreAnswered quits answered lines said

-- the input failed, before more than may be was read of it; the lines that were whole by then were
-- answered
pub record IsInterrupted (quits : List ℕ → Bool) (answered : List (List ℕ) → List ℕ → Type 0)
    (reading : Reading) (said : List ℕ) : Type 0 where
  pub failed : reading.faults_before < reading.faults_after
  pub taken : List ℕ
  pub takes : Takes reading.before reading.after taken
  pub few : length taken ≤ INPUT_LIMIT
  pub answers : AreAnsweredWhole quits answered taken said

-- one byte more was taken than is read; the lines that were whole before it were answered
pub record IsTooMuch (quits : List ℕ → Bool) (answered : List (List ℕ) → List ℕ → Type 0)
    (reading : Reading) (said : List ℕ) : Type 0 where
  pub taken : List ℕ
  pub takes : Takes reading.before reading.after taken
  pub one_more : length taken ≡ INPUT_LIMIT + 1
  pub answers : AreAnsweredWhole quits answered (take INPUT_LIMIT taken) said

-- how reading ends on an input, whatever else comes of it: by its lines, for want of memory, or by
-- the sink
abbrev pub EndsOn : (List ℕ → Bool) → (List (List ℕ) → List ℕ → Type 0) → List ℕ → ReadingEnd
    → List ℕ → Type 0
EndsOn quits answered input Finished said = IsFinished quits answered input said
EndsOn quits answered input Interrupted said = ⊥
EndsOn quits answered input TooMuch said = ⊥
EndsOn quits answered input LongLine said = HasLongLine quits answered input said
EndsOn quits answered input NoMemory said = AreAnsweredFirst quits answered input said
EndsOn quits answered input SinkFailed said = AreAnsweredFirst quits answered input said

-- it ends so on an input that begins with what was taken
abbrev pub EndsOnSome : (List ℕ → Bool) → (List (List ℕ) → List ℕ → Type 0) → Reading → ReadingEnd
    → List ℕ → Type 0
EndsOnSome quits answered reading ended said =
    (input : List ℕ) × IsToldBytes reading.before input × EndsOn quits answered input ended said

-- how the reading of an input has ended, and what was answered by then
abbrev pub HasEnded : (List ℕ → Bool) → (List (List ℕ) → List ℕ → Type 0) → Reading → ReadingEnd
    → List ℕ → Type 0
HasEnded quits answered reading Finished said = EndsOnSome quits answered reading Finished said
HasEnded quits answered reading Interrupted said = IsInterrupted quits answered reading said
HasEnded quits answered reading TooMuch said = IsTooMuch quits answered reading said
HasEnded quits answered reading LongLine said = EndsOnSome quits answered reading LongLine said
HasEnded quits answered reading NoMemory said = EndsOnSome quits answered reading NoMemory said
HasEnded quits answered reading SinkFailed said = EndsOnSome quits answered reading SinkFailed said

-- what was answered is written, or a front of it is, into a sink that failed
abbrev pub IsWritten : ReadingEnd → Type 0 → Option (List ℕ) → Option (List ℕ) → List ℕ → Type 0
IsWritten Finished sink_failed before now said = Appends before now said
IsWritten Interrupted sink_failed before now said = Appends before now said
IsWritten TooMuch sink_failed before now said = Appends before now said
IsWritten LongLine sink_failed before now said = Appends before now said
IsWritten NoMemory sink_failed before now said = Appends before now said
IsWritten SinkFailed sink_failed before now said = sink_failed × AppendsFront before now said
