-- What a look at a board is told, and that its console shows the same.
use Rattle.std.proofs.Common.{◌≡◌, ◌∙◌, refl, ap, ℕ, suc, ◌+◌, ◌≤◌, List, [], ◌∷◌, length, map}
use Rattle.std.proofs.Common.{take, slice_get, Some, arith}
use Rattle.std.specs.Option.{option_map}
use Rattle.std.specs.Str.{chars}
use Rattle.std.proofs.lemmas.List.{length-map, take_all}
use Rattle.std.proofs.lemmas.Option.{slice_get-map}
use Rattle.console_lang.specs.declared.reply.ShownPara.TheVariants.{Finished as Checked}
use Rattle.edit_core.specs.paragraph_text.Paragraphs.{Paragraph}
use Rattle.edit_core.specs.Seen.{Seen, IsValidBoard}
use Rattle.edit_core.specs.Views.{ShownMarks, marks_numbered, view_of}
use Rattle.edit_core.specs.Views.{shown_as as board_shows, shown_from as board_shows_from}
use Rattle.edit_core.specs.declared.state.Standing.{Standing}
use Rattle.edit_core.specs.declared.state.Standing.TheVariants.{Waiting, Held, Parked, Finished}
use Rattle.console_board.specs.BoardAnswers.{look_reply, shown_para}
use Rattle.console_board.specs.Boards.{console_of, state_of}
use Rattle.console_board.specs.Consoles.{shown, shown_text_as, shown_texts_from}

-- ---- one text after another

pub shown-at : (board : Seen) (place : ℕ) (marks : ShownMarks)
    → slice_get (view_of board).shown place ≡ Some marks
    → slice_get (map shown_para (view_of board).shown) place ≡ Some (shown_para marks)
shown-at board place marks at =
    slice_get-map shown_para (view_of board).shown place ∙ ap (option_map shown_para) at

-- so many are shown as there are texts
long-as : (board : Seen) (number : ℕ) (standings : List Standing)
    → length (board_shows_from board number standings) ≡ length standings
long-as board number [] = refl
long-as board number (stands ∷ standings) = ap suc (long-as board (number + 1) standings)

pub all-shown : (board : Seen) (count : ℕ) → IsValidBoard board
    → length board.paragraphs ≤ count
    → take count (map shown_para (view_of board).shown) ≡ map shown_para (view_of board).shown
all-shown board count valid few =
    let shown = board_shows_from board 1 board.standings in
    take_all count (map shown_para shown)
    (omega (
      arith,
      length-map shown shown_para,
      long-as board 1 board.standings,
      valid.standings,
      few,
    ))

-- ---- a console shows the same

texts-are : (paragraphs : List Paragraph) → map chars (map (λ (p : Paragraph). p.text) paragraphs)
    ≡ map (λ (p : Paragraph). chars p.text) paragraphs
texts-are [] = refl
texts-are (paragraph ∷ paragraphs) =
    ap (λ texts. chars paragraph.text ∷ texts) (texts-are paragraphs)

as-is : (board : Seen) (number : ℕ) (stands : Standing)
    → shown_text_as (console_of board) number (state_of stands)
    ≡ shown_para (board_shows board number stands)
as-is board number Waiting = refl
as-is board number (Held worker) = refl
as-is board number Parked = refl
as-is board number Finished =
    ap (λ texts. Checked (marks_numbered board.lexicon texts number)) (texts-are board.paragraphs)

from-is : (board : Seen) (number : ℕ) (standings : List Standing)
    → shown_texts_from (console_of board) number (map state_of standings)
    ≡ map shown_para (board_shows_from board number standings)
from-is board number [] = refl
from-is board number (stands ∷ standings) =
    cc (as-is board number stands, from-is board (number + 1) standings)

pub look-is : (board : Seen) → look_reply board ≡ (shown (console_of board)).reply
look-is board = cc (from-is board 1 board.standings)
