-- How a call may end: with which status, and what is written by then.
use Rattle.std.specs.Prelude.{◌≡◌, ℕ, Bool, true, false, List, [], ◌++◌, Option, Some}
use Rattle.outside.specs.lists.Answers.{IsDueOr}
use Rattle.outside.specs.Sink.{Appends, AppendsFront}
use Rattle.file_loading.specs.Failures.{last_line, status_of}
use Rattle.file_loading.specs.declared.ending.End.{End}
use Rattle.file_loading.specs.declared.ending.End.TheVariants.{Quiet, Marked, Failed}
use Rattle.file_loading.specs.declared.failure.Failure.TheVariants.{NoMemory}

-- the exit status
abbrev pub status_at : End → ℕ
status_at Quiet = 0
status_at Marked = 1
status_at (Failed failure) = status_of failure

-- whether all was done, and nothing is marked
abbrev pub ends_without_marks : End → Bool
ends_without_marks Quiet = true
ends_without_marks _ = false

-- the last line, if there is one
abbrev pub tail_of : End → List ℕ
tail_of Quiet = []
tail_of Marked = []
tail_of (Failed failure) = last_line failure

-- the exit status where the sink failed
abbrev pub sink_status : ℕ
sink_status = 6

-- how a text was put: whole, with this status, or a front of it into a sink that failed
pub data IsPut (meant : ℕ) (text : List ℕ) (sink_failed : Type 0) (before now : Option (List ℕ))
    (status : ℕ) : Type 0 where
  Whole : status ≡ meant → Appends before now text → IsPut meant text sink_failed before now status
  Cut : sink_failed → status ≡ sink_status → AppendsFront before now text
      → IsPut meant text sink_failed before now status

-- an end is this one, or memory is wanting for its last line, if it has one
abbrev pub IsOrWanting : End → End → Type 0
IsOrWanting Quiet end = end ≡ Quiet
IsOrWanting Marked end = end ≡ Marked
IsOrWanting (Failed failure) end = IsDueOr (Failed NoMemory) (Some (Failed failure)) end

-- what ends a call was put
abbrev pub IsEndPut : End → Type 0 → Option (List ℕ) → Option (List ℕ) → ℕ → Type 0
IsEndPut due sink_failed before now status =
    (end : End) × IsOrWanting due end × IsPut (status_at end) (tail_of end) sink_failed before now
    status

-- a call that may answer so, with this text and this end, was answered
pub record EndsAs (answers : List ℕ → End → Type 0) (sink_failed : Type 0)
    (before now : Option (List ℕ)) (status : ℕ) : Type 0 where
  pub text : List ℕ
  pub due : End
  pub answer : answers text due
  pub end : End
  pub end_is : IsOrWanting due end
  pub put : IsPut (status_at end) (text ++ tail_of end) sink_failed before now status
