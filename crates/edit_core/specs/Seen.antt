-- What a board is seen as, and what every board meets.
use Rattle.std.specs.Prelude.{◌≡◌, ℕ, ◌+◌, ◌≤◌, ◌^◌, ◌==◌, List, [], ◌∷◌, length, map, position}
use Rattle.std.specs.Prelude.{nat_le, if◌then◌else◌, Option, None, Some}
use Rattle.std.specs.List.{AllZip}
use Rattle.std.specs.Option.{option_map, option_or}
use Rattle.mark_types.specs.spell_types.declared.Lexicon.{Lexicon}
use Rattle.paragraph_text.specs.Paragraphs.{Paragraph, AreValid, numbered_from}
use Rattle.edit_core.specs.declared.state.Standing.{Standing}
use Rattle.edit_core.specs.declared.state.Standing.TheVariants.{Waiting, Held, Parked, Finished}
use Rattle.edit_core.specs.declared.opening.OpeningFault.{OpeningFault}
use Rattle.edit_core.specs.declared.opening.OpeningFault.TheVariants.{Full, HasBreak, TooLong}
use Rattle.edit_core.specs.declared.state.State.{State}
use Rattle.edit_core.specs.declared.state.State.TheVariants.{Waiting as OfWaiting, Held as OfHeld}
use Rattle.edit_core.specs.declared.state.State.TheVariants.{Parked as OfParked}
use Rattle.edit_core.specs.declared.state.State.TheVariants.{Finished as OfFinished}
use Rattle.paragraph_text.specs.declared.limits.TheConstants.{MOST_BYTES, MOST_PARAGRAPHS}

-- A point of a history: how many events led to it, how many of them were edits and how many were
-- loads, the dictionary in force, the paragraphs in their order, how each stands, and the id that
-- the next one gets that is put in.
pub record Seen : Type 0 where
  pub point : ℕ
  pub text_version : ℕ
  pub dict_version : ℕ
  pub lexicon : Lexicon
  pub paragraphs : List Paragraph
  pub standings : List Standing
  pub next_id : ℕ

-- how a paragraph stands that is kept so; the marks of a finished one follow from its text and the
-- dictionary
abbrev pub standing_of : {J : Type 0} → State J → Standing
standing_of OfWaiting = Waiting
standing_of (OfHeld worker) = Held worker
standing_of OfParked = Parked
standing_of (OfFinished checked) = Finished

-- what every board meets
pub record IsValidBoard (board : Seen) : Type 0 where
  pub paragraphs : AreValid (board.text_version + 1) board.next_id board.paragraphs
  pub standings : length board.standings ≡ length board.paragraphs
  pub text : board.text_version ≤ board.point
  pub dict : board.dict_version ≤ board.point
  pub next_id : board.next_id ≤ MOST_PARAGRAPHS + board.point
  pub point : board.point ≤ 2 ^ 62

-- a check is of this paragraph's text, by this dictionary
abbrev pub IsCheckOfParagraph : {J : Type 0} → (J → Lexicon) → Lexicon → Paragraph → State J
    → Type 0
IsCheckOfParagraph lexicon_of lexicon paragraph (OfFinished checked) =
    (checked.text ≡ paragraph.text) × (lexicon_of checked.judge ≡ lexicon)
IsCheckOfParagraph lexicon_of lexicon paragraph _ = Unit {0}

-- each paragraph that is finished has a check of its own text, by this dictionary
abbrev pub AreTheirs : {J : Type 0} → (J → Lexicon) → Lexicon → List Paragraph → List (State J)
    → Type 0
AreTheirs lexicon_of lexicon paragraphs states =
    AllZip (IsCheckOfParagraph lexicon_of lexicon) paragraphs states

-- the board that a history opens with: texts that nothing has touched, and that all wait
abbrev pub opening_of : Lexicon → List (List ℕ) → Seen
opening_of lexicon texts = record {
  point = 0;
  text_version = 0;
  dict_version = 0;
  lexicon = lexicon;
  paragraphs = numbered_from 0 texts;
  standings = map (λ _. Waiting) texts;
  next_id = length texts;
}

-- a board that a history may open with
pub record IsOpening (board : Seen) : Type 0 where
  pub texts : List (List ℕ)
  pub board_is : board ≡ opening_of board.lexicon texts

-- ---- why texts are no opening board

-- a text at a place has too many bytes
abbrev pub opening_too_long : ℕ → ℕ → Option OpeningFault
opening_too_long place size = if nat_le size MOST_BYTES then None else Some (TooLong place size)

-- what is wrong with the text at a place
abbrev pub text_fault : ℕ → List ℕ → Option OpeningFault
text_fault place text =
    option_or (option_map (λ at. HasBreak place at) (position (λ byte. byte == 10) text))
    (opening_too_long place (length text))

-- what is wrong with the first of the texts, of which the first has this place, that is not right
abbrev pub fault_from : ℕ → List (List ℕ) → Option OpeningFault
fault_from place [] = None
fault_from place (text ∷ texts) = option_or (text_fault place text) (fault_from (place + 1) texts)

-- the first fault of texts
abbrev pub opening_fault : List (List ℕ) → Option OpeningFault
opening_fault texts =
    if nat_le (length texts) MOST_PARAGRAPHS then fault_from 0 texts else Some (Full (length texts))
