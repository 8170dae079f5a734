-- What is settled in a stretch of events of workers is settled on its last board.
use Rattle.std.proofs.Common.{◌≡◌, ◌∙◌, refl, sym, ap, subst, ℕ, zero, suc, ◌<◌, ◌==◌, ◌&&◌}
use Rattle.std.proofs.Common.{true, false, List, [], ◌∷◌, ◌++◌, length, map, get_or, slice_get}
use Rattle.std.proofs.Common.{Some, arith}
use Rattle.std.specs.List.{AllZip}
use Rattle.std.specs.Option.{option_map_or}
use Rattle.std.proofs.lemmas.Bool.{eq-eqb, false≢true}
use Rattle.std.proofs.lemmas.Option.{cond_some, slice_get-get_or, slice_get_within}
use Rattle.board_share.specs.paragraph_text.Paragraphs.{Paragraph}
use Rattle.board_share.specs.edit_core.Laws.{find-beside}
use Rattle.board_share.specs.edit_core.Runs.{AreQuiet, AreSteps, Entry, MayBecome, last_board}
use Rattle.board_share.specs.edit_core.Seen.{IsValidBoard, Seen}
use Rattle.board_share.specs.edit_core.Steps.{found, is_open, place_of}
use Rattle.board_share.specs.edit_core.declared.state.Standing.{Standing}
use Rattle.board_share.specs.edit_core.declared.state.Standing.TheVariants as standing
use Rattle.board_share.specs.Settled.{AreClosedIn, IsClosedIn, is_open_for}
use Rattle.console_board.specs.Boards.{console_of, state_of}
use Rattle.console_board.specs.Consoles.{console_after_settle, settled_state}
use Rattle.console_history.proofs.QuietLemmas.{WorkersKeepTexts, quiet-parts}

-- ---- how a paragraph stands

-- what is open behind events of workers was open before them
was-open : (before after : Standing) → MayBecome before after → is_open after ≡ true
    → is_open before ≡ true
was-open standing.Waiting after may free = refl
was-open (standing.Held worker) after may free = refl
was-open standing.Parked standing.Parked may free = free
was-open standing.Parked _ may free = absurd (false≢true may.parked)
was-open standing.Finished standing.Finished may free = free
was-open standing.Finished _ may free = absurd (false≢true (may.finished refl))

-- what is not open behind them is finished, unless it was parked
settled-one : (before after : Standing) → MayBecome before after → ¬ (is_open after ≡ true)
    → state_of after ≡ settled_state (state_of before)
settled-one before standing.Waiting may closed = absurd (closed refl)
settled-one before (standing.Held worker) may closed = absurd (closed refl)
settled-one standing.Waiting standing.Finished may closed = refl
settled-one (standing.Held worker) standing.Finished may closed = refl
settled-one standing.Finished standing.Finished may closed = refl
settled-one standing.Parked standing.Finished may closed = absurd (false≢true may.parked)
settled-one standing.Waiting standing.Parked may closed = absurd (false≢true (sym may.parked))
settled-one (standing.Held worker) standing.Parked may closed =
    absurd (false≢true (sym may.parked))
settled-one standing.Finished standing.Parked may closed = absurd (false≢true (sym may.parked))
settled-one standing.Parked standing.Parked may closed = refl

all-settled : (before after : List Standing) → AllZip MayBecome before after
    → ((place : ℕ) (stands : Standing) → slice_get after place ≡ Some stands
    → ¬ (is_open stands ≡ true))
    → map state_of after ≡ map settled_state (map state_of before)
all-settled [] [] may closed = refl
all-settled [] (later ∷ after) may closed = absurd may
all-settled (stands ∷ before) [] may closed = absurd may
all-settled (stands ∷ before) (later ∷ after) may closed =
    cc (
      settled-one stands later may.0 (closed 0 later refl),
      all-settled before after may.1 (λ place found at. closed (suc place) found at),
    )

-- beside an item of the second list stands one of the first
beside : (before after : List Standing) (place : ℕ) (later : Standing)
    → AllZip MayBecome before after → slice_get after place ≡ Some later
    → (stands : Standing) × (slice_get before place ≡ Some stands) × MayBecome stands later
beside [] [] place later may at = absurd (cc)
beside [] (next ∷ after) place later may at = absurd may
beside (stands ∷ before) [] place later may at = absurd may
beside (stands ∷ before) (next ∷ after) zero later may at =
    let same : next ≡ later = cc in (stands, refl, subst (MayBecome stands) same may.0)
beside (stands ∷ before) (next ∷ after) (suc place) later may at =
    beside before after place later may.1 at

-- ---- what is said of every history

abbrev pub RunsAreApart : Type 0
RunsAreApart = (board : Seen) (front back : List Entry) → AreSteps board (front ++ back)
    → AreSteps board front × AreSteps (last_board board front) back

abbrev pub RunsHaveLast : Type 0
RunsHaveLast = (board : Seen) (front back : List Entry)
    → last_board board (front ++ back) ≡ last_board (last_board board front) back

abbrev pub RunsAreValid : Type 0
RunsAreValid = (board : Seen) (entries : List Entry) → IsValidBoard board
    → AreSteps board entries → IsValidBoard (last_board board entries)

abbrev pub IdsArePlaces : Type 0
IdsArePlaces = (board : Seen) (place : ℕ) (paragraph : Paragraph) → IsValidBoard board
    → slice_get board.paragraphs place ≡ Some paragraph
    → place_of paragraph.id board.paragraphs ≡ Some place

-- ---- what is open

-- a paragraph that is open with this rev and dictionary version is found so
open-for : (board : Seen) (dict place : ℕ) (paragraph : Paragraph) (stands : Standing)
    → place_of paragraph.id board.paragraphs ≡ Some place
    → slice_get board.paragraphs place ≡ Some paragraph
    → slice_get board.standings place ≡ Some stands → is_open stands ≡ true
    → board.dict_version ≡ dict → is_open_for paragraph.id paragraph.rev dict board ≡ true
open-for board dict place paragraph stands placed at stood free same =
    let there : found paragraph.id board ≡ Some (paragraph, stands) =
    find-beside (λ (p : Paragraph). p.id == paragraph.id) board.paragraphs board.standings place
    (cond_some _ _ place placed).1 at stood in
    let own-rev : (paragraph.rev == paragraph.rev) ≡ true =
    eq-eqb paragraph.rev paragraph.rev refl in
    let in-force : (board.dict_version == dict) ≡ true = eq-eqb board.dict_version dict same in
    ap (λ b. b && option_map_or (λ row. (row.0.rev == paragraph.rev) && is_open row.1)
    (found paragraph.id board) false) in-force
    ∙ (ap (λ rows. option_map_or (λ row. (row.0.rev == paragraph.rev) && is_open row.1)
    rows false) there
    ∙ (ap (λ b. b && is_open stands) own-rev ∙ free))

paragraph-beside : (board : Seen) (place : ℕ) (stands : Standing) → IsValidBoard board
    → slice_get board.standings place ≡ Some stands
    → (paragraph : Paragraph) × (slice_get board.paragraphs place ≡ Some paragraph)
paragraph-beside board place stands valid at =
    let none : Paragraph = record { id = 0; rev = 0; text = [] } in
    let inside = slice_get_within board.standings place stands at in
    let within : place < length board.paragraphs = omega (arith, valid.standings) in
    (get_or board.paragraphs place none, slice_get-get_or board.paragraphs place none within)

module _ (keeps : WorkersKeepTexts) (apart : RunsAreApart) (ends : RunsHaveLast)
    (goes : RunsAreValid) (ids : IdsArePlaces) where
  -- what is open on the last board was open on each board before it, as it was on the first
  open-before : (board : Seen) (front rest : List Entry) (place : ℕ) (paragraph : Paragraph)
      (stands : Standing) → IsValidBoard board → AreSteps board (front ++ rest)
      → AreQuiet (front ++ rest) → slice_get board.paragraphs place ≡ Some paragraph
      → slice_get (last_board board (front ++ rest)).standings place ≡ Some stands
      → is_open stands ≡ true
      → is_open_for paragraph.id paragraph.rev board.dict_version (last_board board front) ≡ true
  open-before board front rest place paragraph stands valid steps quiet at stood free =
      let now = last_board board front in
      let parts = apart board front rest steps in
      let quiets = quiet-parts front rest quiet in
      let first = keeps board front parts.0 quiets.0 in
      let then = keeps now rest parts.1 quiets.1 in
      let last = subst (λ (b : Seen). slice_get b.standings place ≡ Some stands)
      (ends board front rest) stood in
      let was = beside now.standings (last_board now rest).standings place stands
      then.standings last in
      let here = subst (λ paragraphs. slice_get paragraphs place ≡ Some paragraph)
      (sym first.paragraphs) at in
      open-for now board.dict_version place paragraph was.0
      (ids now place paragraph (goes board front valid parts.0) here) here was.1
      (was-open was.0 stands was.2 free) first.dict

  -- so what is settled behind a board is not open on the last one
  closed-once : (board : Seen) (behind : List Entry) (place : ℕ) (paragraph : Paragraph)
      (stands : Standing) → IsValidBoard board → AreSteps board behind → AreQuiet behind
      → slice_get board.paragraphs place ≡ Some paragraph
      → slice_get (last_board board behind).standings place ≡ Some stands
      → IsClosedIn board behind paragraph.id paragraph.rev board.dict_version
      → ¬ (is_open stands ≡ true)
  closed-once board behind place paragraph stands valid steps quiet at stood closed free =
      let front = closed.front in
      let rest = closed.begins.0 in
      let all : behind ≡ front ++ rest = sym closed.begins.1 in
      let still = open-before board front rest place paragraph stands valid
      (subst (AreSteps board) all steps) (subst AreQuiet all quiet) at
      (subst (λ entries. slice_get (last_board board entries).standings place ≡ Some stands) all
      stood) free in
      false≢true (sym closed.closed ∙ still)

  closed-last : (board : Seen) (behind : List Entry) → IsValidBoard board
      → AreSteps board behind → AreQuiet behind → AreClosedIn board behind → (place : ℕ)
      (stands : Standing) → slice_get (last_board board behind).standings place ≡ Some stands
      → ¬ (is_open stands ≡ true)
  closed-last board behind valid steps quiet console_after_settle place stands stood free =
      let whole = keeps board behind steps quiet in
      let was = beside board.standings (last_board board behind).standings place stands
      whole.standings stood in
      let there = paragraph-beside board place was.0 valid was.1 in
      closed-once board behind place there.0 stands valid steps quiet there.1 stood
      (console_after_settle place there.0 was.0 there.1 was.1 (was-open was.0 stands was.2 free)) free

  -- and the console has then settled all that was not parked
  pub settled-last : (board : Seen) (skipped behind : List Entry) → IsValidBoard board
      → AreSteps board (skipped ++ behind) → AreQuiet (skipped ++ behind)
      → AreClosedIn (last_board board skipped) behind
      → console_of (last_board board (skipped ++ behind)) ≡ (console_after_settle (console_of board)).after
  settled-last board skipped behind valid steps quiet closed =
      let last = last_board board (skipped ++ behind) in
      let now = last_board board skipped in
      let parts = apart board skipped behind steps in
      let whole = keeps board (skipped ++ behind) steps quiet in
      let stands = all-settled board.standings last.standings whole.standings
      (λ place stands at. closed-last now behind (goes board skipped valid parts.0) parts.1
      (quiet-parts skipped behind quiet).1 closed place stands
      (subst (λ (b : Seen). slice_get b.standings place ≡ Some stands)
      (ends board skipped behind) at)) in
      λ i. record {
        text_version = whole.text i;
        dict_version = whole.dict i;
        lexicon = whole.lexicon i;
        texts = map (λ (paragraph : Paragraph). paragraph.text) (whole.paragraphs i);
        states = stands i;
      }
