-- An input in the midst of its reading: what was heard so far, and what was answered.
use Rattle.std.specs.Prelude.{◌≡◌, ℕ, ◌+◌, ◌<◌, ◌≤◌, Bool, true, false, List, [], ◌∷◌, ◌++◌, length}
use Rattle.std.specs.Prelude.{Option, Result, Ok, Err}
use Rattle.std.specs.String.{string_bytes}
use Rattle.outside.specs.Sink.{Appends, AppendsFront}
use Rattle.outside.specs.Source.{Takes}
use Rattle.text_lines.specs.Lines.{line_texts}
use Rattle.input_lines.specs.Answers.{HasNoBreak, LeadsOn}
use Rattle.input_lines.specs.Ends.{AreAnswered, AreAnsweredFirst, EndsOn, HasEnded, IsWritten}
use Rattle.input_lines.specs.Ends.{Reading}
use Rattle.input_lines.specs.Laws.{AnswerRelation}
use Rattle.input_lines.specs.Lines.{IsShort, piece_text}
use Rattle.input_lines.specs.declared.reading_end.ReadingEnd.{ReadingEnd}
use Rattle.input_lines.specs.declared.reading_end.ReadingEnd.TheVariants.{Finished, LongLine}
use Rattle.input_lines.specs.declared.reading_end.ReadingEnd.TheVariants.{NoMemory, SinkFailed}
use Rattle.input_lines.specs.declared.listener.Listener.{Listener}
use Rattle.input_lines.specs.declared.limits.TheConstants.{INPUT_LIMIT, LINE_LIMIT}

-- A front of an input: nothing of it, and then a byte order mark may follow; or it ends with a line
-- feed.
pub data IsFront : List ℕ → Bool → Type 0 where
  start : IsFront [] true
  behind : (before : List ℕ) → IsFront (before ++ 10 ∷ []) false

-- Between two pieces: the lines that were whole in what was heard were answered, and the bytes
-- behind them are kept.
pub record IsHeard (quits : List ℕ → Bool) (answered : AnswerRelation) (heard pending : List ℕ)
    (is_first : Bool) (said : List ℕ) : Type 0 where
  pub front : List ℕ
  pub parts : heard ≡ front ++ pending
  pub begins : IsFront front is_first
  pub no_more : HasNoBreak pending
  pub answers : AreAnswered quits answered (line_texts front) said

-- what an input or a sink tells: its bytes, if it tells them, and how often it has failed
pub record Channel : Type 0 where
  pub bytes : Option (List ℕ)
  pub faults : ℕ

abbrev pub channel : Option (List ℕ) → ℕ → Channel
channel bytes faults = record { bytes = bytes; faults = faults }

-- a front of what was said is written, and the rest of it is gathered
pub record IsGathered (before now : Channel) (gathered said : List ℕ) : Type 0 where
  pub put : List ℕ
  pub said_is : said ≡ put ++ gathered
  pub written : Appends before.bytes now.bytes put
  pub count : before.faults ≤ now.faults

-- a front of what was said went into a sink that failed, and nothing is gathered
pub record IsCut (before now : Channel) (gathered said : List ℕ) : Type 0 where
  pub failed : before.faults < now.faults
  pub front : AppendsFront before.bytes now.bytes said
  pub empty : gathered ≡ []

-- reading is under way: this was heard and answered; the answers are written, or gathered
pub record IsReadingUnderWay (quits : List ℕ → Bool) (answered : AnswerRelation) (before now : Channel)
    (listener : Listener) (heard : List ℕ) : Type 0 where
  pub said : List ℕ
  pub hears : IsHeard quits answered heard listener.pending.items listener.is_first said
  pub gathered : IsGathered before now (string_bytes listener.answers) said

-- why a line is not answered
abbrev pub WhyNot : (List ℕ → Bool) → List ℕ → ReadingEnd → Type 0
WhyNot quits line Finished = quits line ≡ true
WhyNot quits line LongLine = LINE_LIMIT < length line
WhyNot quits line NoMemory = Unit {0}
WhyNot quits line ended = ⊥

-- Why a piece without a line feed is not kept: memory is wanting, or it is too long even if its
-- last byte is a carriage return.
abbrev pub IsNotKept : List ℕ → ReadingEnd → Type 0
IsNotKept bare LongLine = LINE_LIMIT + 1 < length bare
IsNotKept bare NoMemory = Unit {0}
IsNotKept bare ended = ⊥

-- what lines and their answers have to do with the states before and behind them: of a responder,
-- and of what stands beside it
abbrev pub Leading : Type 0 → Type 0 → Type 1
Leading S B = S → B → List (List ℕ) → List ℕ → S → B → Type 0

-- a line was answered
pub record IsLineAnswered {S B : Type 0} (quits : List ℕ → Bool) (Leads : Leading S B)
    (here there : S × B) (line text_before text_after : List ℕ) : Type 0 where
  pub goes_on : quits line ≡ false
  pub short : IsShort line
  pub added : List ℕ
  pub text : text_after ≡ text_before ++ added
  pub leads : LeadsOn Leads here.0 here.1 there.0 there.1 (line ∷ []) added

-- the line that a listener has heard with these bytes
abbrev pub line_heard_with : Listener → List ℕ → List ℕ
line_heard_with listener bytes = piece_text listener.is_first (listener.pending.items ++ bytes)

-- a line was not answered, and reading ends with it
pub record IsNotAnswered {S B : Type 0} (quits : List ℕ → Bool) (Leads : Leading S B)
    (here there : S × B) (line text_before text_after : List ℕ) (ended : ReadingEnd) : Type 0 where
  pub why : WhyNot quits line ended
  pub text : text_after ≡ text_before
  pub leads : LeadsOn Leads here.0 here.1 there.0 there.1 [] []

-- what comes of a line
abbrev pub Turns : {S B T : Type 0} → (List ℕ → Bool) → Leading S B → S × B → S × B
    → List ℕ → List ℕ → List ℕ → Result T ReadingEnd → Type 0
Turns quits Leads here there line text_before text_after (Ok done) =
    IsLineAnswered quits Leads here there line text_before text_after
Turns quits Leads here there line text_before text_after (Err ended) =
    IsNotAnswered quits Leads here there line text_before text_after ended

-- what was said is written or gathered, or a front of it went into a sink that failed
abbrev pub IsLeft : ReadingEnd → Channel → Channel → List ℕ → List ℕ → Type 0
IsLeft SinkFailed before now gathered said = IsCut before now gathered said
IsLeft ended before now gathered said = IsGathered before now gathered said

-- What a put does with what is gathered, whatever is left by then: it is written, or gathered as
-- before; or the sink fails.
abbrev pub PutLeaves : {T : Type 0} → Channel → Channel → List ℕ → List ℕ → Result T ReadingEnd
    → Type 0
PutLeaves middle now gathered left (Ok done) =
    (before : Channel) (said : List ℕ) (ended : ReadingEnd)
    → IsLeft ended before middle gathered said → IsLeft ended before now left said
PutLeaves middle now gathered left (Err failed) = (failed ≡ SinkFailed)
    × ((before : Channel) (said : List ℕ) (ended : ReadingEnd)
    → IsLeft ended before middle gathered said → IsCut before now left said)

-- reading ends so on an input, whose first lines were answered, and this is left of what was said
pub record Stops (quits : List ℕ → Bool) (answered : AnswerRelation) (before now : Channel)
    (gathered input : List ℕ) (ended : ReadingEnd) : Type 0 where
  pub said : List ℕ
  pub first : AreAnsweredFirst quits answered input said
  pub ends : EndsOn quits answered input ended said
  pub left : IsLeft ended before now gathered said

-- what comes of bytes that were heard: reading is under way, or it ends so on whatever comes behind
-- them
abbrev pub Hears : {T : Type 0} → (List ℕ → Bool) → AnswerRelation → Channel → Channel → Listener
    → List ℕ
    → Result T ReadingEnd → Type 0
Hears quits answered before now listener heard (Ok done) =
    IsReadingUnderWay quits answered before now listener heard
Hears quits answered before now listener heard (Err ended) =
    (rest : List ℕ) → Stops quits answered before now (string_bytes listener.answers)
    (heard ++ rest) ended

-- what was said from the first states to those here
abbrev pub Since : {S B : Type 0} → Leading S B → S × B → S × B → AnswerRelation
Since Leads first here = λ lines said. Leads first.0 first.1 lines said here.0 here.1

-- where reading stands: with a responder and what stands beside it, a sink and a listener
pub record Midway (S B : Type 0) : Type 0 where
  pub states : S × B
  pub sink : Channel
  pub listener : Listener

abbrev pub midway : {S B : Type 0} → S × B → Channel → Listener → Midway S B
midway states sink listener = record { states = states; sink = sink; listener = listener }

-- what comes of a piece between two stands, whatever was heard before it
abbrev pub GoesBy : {S B T : Type 0} → (List ℕ → Bool) → Leading S B → Midway S B → Midway S B
    → List ℕ → Result T ReadingEnd → Type 0
GoesBy {S} {B} quits Leads here there piece result =
    (first : S × B) (before : Channel) (heard : List ℕ) → length heard + length piece ≤ INPUT_LIMIT
    → IsReadingUnderWay quits (Since Leads first here.states) before here.sink here.listener heard
    → Hears quits (Since Leads first there.states) before there.sink there.listener (heard ++ piece)
    result

pub record IsHeardAs {S B T : Type 0} (quits : List ℕ → Bool) (Leads : Leading S B)
    (here there : Midway S B) (piece : List ℕ)
    (result : Result T ReadingEnd) : Type 0 where
  pub on : GoesBy quits Leads here there piece result

-- how reading has ended
abbrev pub IsOver : (List ℕ → Bool) → (List (List ℕ) → List ℕ → Type 0) → Reading → Type 0
    → Option (List ℕ) → Option (List ℕ) → ReadingEnd → Type 0
IsOver quits answered reading sink_failed before now ended =
    (said : List ℕ) × HasEnded quits answered reading ended said
    × IsWritten ended sink_failed before now said

-- what was read between two states of an input
abbrev pub read_between : Channel → Channel → Reading
read_between begun source =
    record {
      before = begun.bytes;
      after = source.bytes;
      faults_before = begun.faults;
      faults_after = source.faults;
    }

-- so many bytes were taken of an input and heard, and all that was answered is written
pub record AreBytesTaken (quits : List ℕ → Bool) (answered : AnswerRelation) (before now : Channel)
    (listener : Listener) (begun source : Channel) (count : ℕ) : Type 0 where
  pub heard : List ℕ
  pub counted : length heard ≡ count
  pub takes : Takes begun.bytes source.bytes heard
  pub since : begun.faults ≤ source.faults
  pub put : string_bytes listener.answers ≡ []
  pub under : IsReadingUnderWay quits answered before now listener heard

-- what comes of a turn: more bytes were taken and heard, or reading has ended
abbrev pub Comes : (List ℕ → Bool) → AnswerRelation → Channel → Channel → Listener → Channel
    → Channel → ℕ
    → Result ℕ ReadingEnd → Type 0
Comes quits answered before now listener begun source taken (Ok count) =
    AreBytesTaken quits answered before now listener begun source (taken + count)
Comes quits answered before now listener begun source taken (Err ended) =
    IsOver quits answered (read_between begun source) (before.faults < now.faults) before.bytes
    now.bytes ended
