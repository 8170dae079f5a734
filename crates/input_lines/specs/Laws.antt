-- What is true of how readings end.
use Rattle.std.specs.Prelude.{List, ℕ, Bool}
use Rattle.input_lines.specs.Ends.{AreAnswered, AreAnsweredWhole, EndsOn, HasEnded, Reading}
use Rattle.input_lines.specs.declared.reading_end.ReadingEnd.{ReadingEnd}
use Rattle.input_lines.specs.declared.reading_end.ReadingEnd.TheVariants.{Finished, Interrupted}
use Rattle.input_lines.specs.declared.reading_end.ReadingEnd.TheVariants.{TooMuch, LongLine}
use Rattle.input_lines.specs.declared.reading_end.ReadingEnd.TheVariants.{NoMemory, SinkFailed}

-- what is said of lines and their answers
abbrev pub AnswerRelation : Type 1
AnswerRelation = List (List ℕ) → List ℕ → Type 0

answered-weaker : (quits : List ℕ → Bool) (strong weak : AnswerRelation) (lines : List (List ℕ))
    (said : List ℕ)
    → ((lines : List (List ℕ)) (said : List ℕ) → strong lines said → weak lines said)
    → AreAnswered quits strong lines said → AreAnswered quits weak lines said
answered-weaker quits strong weak lines said weaker is =
    record { going = is.going; short = is.short; said_so = weaker lines said is.said_so }

whole-weaker : (quits : List ℕ → Bool) (strong weak : AnswerRelation) (bytes said : List ℕ)
    → ((lines : List (List ℕ)) (said : List ℕ) → strong lines said → weak lines said)
    → AreAnsweredWhole quits strong bytes said → AreAnsweredWhole quits weak bytes said
whole-weaker quits strong weak bytes said weaker is =
    record {
      lines = is.lines;
      whole = is.whole;
      answers = answered-weaker quits strong weak is.lines said weaker is.answers;
    }

ends-weaker : (quits : List ℕ → Bool) (strong weak : AnswerRelation) (input said : List ℕ)
    (ended : ReadingEnd)
    → ((lines : List (List ℕ)) (said : List ℕ) → strong lines said → weak lines said)
    → EndsOn quits strong input ended said → EndsOn quits weak input ended said
ends-weaker quits strong weak input said Finished weaker is = record {
  bounded = is.bounded;
  answers = answered-weaker quits strong weak _ said weaker is.answers;
}
ends-weaker quits strong weak input said Interrupted weaker is = is
ends-weaker quits strong weak input said TooMuch weaker is = is
ends-weaker quits strong weak input said LongLine weaker is = record {
  front = is.front;
  rest = is.rest;
  parts = is.parts;
  ends = is.ends;
  few = is.few;
  answers = answered-weaker quits strong weak _ said weaker is.answers;
  long = is.long;
  later = is.later;
  lines_are = is.lines_are;
  too_long = is.too_long;
}
ends-weaker quits strong weak input said NoMemory weaker is = record {
  lines = is.lines;
  later = is.later;
  lines_are = is.lines_are;
  answers = answered-weaker quits strong weak is.lines said weaker is.answers;
}
ends-weaker quits strong weak input said SinkFailed weaker is = record {
  lines = is.lines;
  later = is.later;
  lines_are = is.lines_are;
  answers = answered-weaker quits strong weak is.lines said weaker is.answers;
}

-- how a reading has ended by one account of what was answered, it has ended by a weaker one
pub ended-weaker : (quits : List ℕ → Bool) (strong weak : AnswerRelation) (reading : Reading)
    (ended : ReadingEnd) (said : List ℕ)
    → ((lines : List (List ℕ)) (said : List ℕ) → strong lines said → weak lines said)
    → HasEnded quits strong reading ended said → HasEnded quits weak reading ended said
ended-weaker quits strong weak reading Finished said weaker (input, given, is) =
    (input, given, ends-weaker quits strong weak input said Finished weaker is)
ended-weaker quits strong weak reading Interrupted said weaker is = record {
  failed = is.failed;
  taken = is.taken;
  takes = is.takes;
  few = is.few;
  answers = whole-weaker quits strong weak is.taken said weaker is.answers;
}
ended-weaker quits strong weak reading TooMuch said weaker is = record {
  taken = is.taken;
  takes = is.takes;
  one_more = is.one_more;
  answers = whole-weaker quits strong weak _ said weaker is.answers;
}
ended-weaker quits strong weak reading LongLine said weaker (input, given, is) =
    (input, given, ends-weaker quits strong weak input said LongLine weaker is)
ended-weaker quits strong weak reading NoMemory said weaker (input, given, is) =
    (input, given, ends-weaker quits strong weak input said NoMemory weaker is)
ended-weaker quits strong weak reading SinkFailed said weaker (input, given, is) =
    (input, given, ends-weaker quits strong weak input said SinkFailed weaker is)
