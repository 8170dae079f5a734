-- What a board shows.
use Rattle.std.specs.Prelude.{◌≡◌, ℕ, ◌+◌, Bool, true, false, ◌==◌, List, [], ◌∷◌, filter, map}
use Rattle.std.specs.Prelude.{length, slice_get, Option, None, Some}
use Rattle.std.specs.Arc.{arc_value}
use Rattle.std.specs.List.{count_by}
use Rattle.std.specs.Str.{chars}
use Rattle.mark_types.specs.spell_types.declared.Lexicon.{Lexicon}
use Rattle.mark_types.specs.Handed.{mark_of}
use Rattle.mark_types.specs.Marks.{marks_of}
use Rattle.mark_types.specs.declared.Mark.{Mark}
use Rattle.paragraph_marks.specs.Paragraphs.{marks_in}
use Rattle.paragraph_text.specs.Paragraphs.{Paragraph}
use Rattle.edit_core.specs.Seen.{Seen}
use Rattle.edit_core.specs.declared.state.Standing.{Standing}
use Rattle.edit_core.specs.declared.state.Standing.TheVariants as standing
use Rattle.edit_core.specs.declared.state.State.{State}
use Rattle.edit_core.specs.declared.state.State.TheVariants as state
use Rattle.edit_core.specs.declared.view.ParaView.{ParaView}
use Rattle.edit_core.specs.declared.view.Progress.{Progress}
use Rattle.edit_core.specs.declared.view.Versions.{Versions}
use Rattle.edit_core.specs.declared.view.Shown.{Shown}
use Rattle.edit_core.specs.declared.view.Shown.TheVariants.{Marks, Pending}

-- what is shown of a paragraph: its marks, or that they are not there, whether the paragraph is
-- parked, and which worker holds it
pub data ShownMarks : Type 0 where
  Marked : List Mark → ShownMarks
  Unmarked : (parked : Bool) → (held_by : Option ℕ) → ShownMarks

-- what is shown, as marks in memory
abbrev pub shown_in : Shown → ShownMarks
shown_in (Marks marks) = Marked marks.now
shown_in (Pending parked held_by) = Unmarked parked held_by

-- the texts of a board, as characters
abbrev pub texts_of_board : Seen → List (List ℕ)
texts_of_board board = map (λ paragraph. chars paragraph.text) board.paragraphs

-- the marks of the paragraph with a number, from 1, among the marks of all texts together
unfoldable pub marks_numbered : Lexicon → List (List ℕ) → ℕ → List Mark
marks_numbered lexicon texts number =
    map mark_of (filter (λ word. word.paragraph == number) (marks_of lexicon texts))

-- what is shown of the paragraph with a number that stands so
abbrev pub shown_as : Seen → ℕ → Standing → ShownMarks
shown_as board number standing.Waiting = Unmarked false None
shown_as board number (standing.Held worker) = Unmarked false (Some worker)
shown_as board number standing.Parked = Unmarked true None
shown_as board number standing.Finished =
    Marked (marks_numbered board.lexicon (texts_of_board board) number)

-- what is shown of a paragraph that is kept so, by its own check
abbrev pub shown_alone : {J : Type 0} → (J → Lexicon) → State J → ShownMarks
shown_alone lexicon_of state.Waiting = Unmarked false None
shown_alone lexicon_of (state.Held worker) = Unmarked false (Some worker)
shown_alone lexicon_of state.Parked = Unmarked true None
shown_alone lexicon_of (state.Finished checked) =
    Marked (marks_in (lexicon_of checked.judge) (chars checked.text))

abbrev pub shown_from : Seen → ℕ → List Standing → List ShownMarks
shown_from board number [] = []
shown_from board number (stands ∷ standings) =
    shown_as board number stands ∷ shown_from board (number + 1) standings

-- what a look at a board tells: its point, its versions, and what it shows of each paragraph
pub record BoardView : Type 0 where
  pub point : ℕ
  pub text : ℕ
  pub dict : ℕ
  pub shown : List ShownMarks

abbrev pub view_of : Seen → BoardView
view_of board = record {
  point = board.point;
  text = board.text_version;
  dict = board.dict_version;
  shown = shown_from board 1 board.standings;
}

-- what is seen of the paragraph at a place, from 0
pub record ShowsParagraph (board : Seen) (place : ℕ) (view : ParaView) : Type 0 where
  pub paragraph : Paragraph
  pub at : slice_get board.paragraphs place ≡ Some paragraph
  pub id : view.id ≡ paragraph.id
  pub rev : view.rev ≡ paragraph.rev
  pub text : arc_value view.text.now ≡ paragraph.text
  pub shown : slice_get (view_of board).shown place ≡ Some (shown_in view.shown)

abbrev pub is_finished : Standing → Bool
is_finished standing.Finished = true
is_finished _ = false

abbrev pub is_parked : Standing → Bool
is_parked standing.Parked = true
is_parked _ = false

-- how far a board is
abbrev pub progress_of : Seen → Progress
progress_of board = record {
  point = board.point;
  text = board.text_version;
  dict = board.dict_version;
  paragraphs = length board.paragraphs;
  finished = count_by is_finished board.standings;
  parked = count_by is_parked board.standings;
}

-- where a board stands in its history
abbrev pub versions_of : Seen → Versions
versions_of board = record {
  point = board.point;
  text = board.text_version;
  dict = board.dict_version;
  next_id = board.next_id;
  paragraphs = length board.paragraphs;
}
