-- One paragraph of a board is settled after another.
use Rattle.std.proofs.Common.{◌≡◌, ◌∙◌, refl, sym, ap, subst, ℕ, ◌+◌, ◌<◌, ◌≤◌, true, false}
use Rattle.std.proofs.Common.{List, [], ◌∷◌, ◌++◌, length, slice_get, Some, arith, inl, inr}
use Rattle.std.proofs.Common.{Result, Ok, Err, IfErr}
use Rattle.std.proofs.Common.{append_assoc}
use Rattle.std.proofs.lemmas.Bool.{cases_lt}
use Rattle.std.proofs.lemmas.List.{append-nil}
use Rattle.std.proofs.lemmas.Option.{slice_get_within}
use Rattle.board_share.specs.paragraph_text.Paragraphs.{Paragraph}
use Rattle.board_share.specs.edit_core.Runs.{Entry, last_board}
use Rattle.board_share.specs.edit_core.Seen.{Seen}
use Rattle.board_share.specs.edit_core.Steps.{is_open}
use Rattle.board_share.specs.edit_core.declared.state.Standing.{Standing}
use Rattle.board_share.specs.Eyes.{EyeSeen, IsLater, last_of}
use Rattle.board_share.specs.declared.claim.ClaimFault.{ClaimFault}
use Rattle.board_share.specs.declared.claim.ClaimFault.TheVariants as fault
use Rattle.board_share.specs.Settled.{AreClosedIn, IsClosedIn, IsSettled}
use Rattle.check_workers.specs.Settling.{CanFinishNoCheck}
use Rattle.board_share.specs.Settled.{is_open_for}
use Rattle.check_workers.specs.Settling.{HasOpen, IsBoardFault, IsSettledFrom}
use Rattle.check_workers.specs.Ends.{IsCutShort}
use Rattle.check_workers.proofs.Prefixes.{prefix-self, prefix-trans}

-- what was open on a board at one of so many first places is closed behind what the eye knew
pub record IsSettledTo (count : ℕ) (board : Seen) (old new : EyeSeen) : Type 0 where
  pub behind : List Entry
  pub entries : new.run.entries ≡ old.run.entries ++ behind
  pub settled : (place : ℕ) (paragraph : Paragraph) (stands : Standing) → place < count
      → slice_get board.paragraphs place ≡ Some paragraph
      → slice_get board.standings place ≡ Some stands → is_open stands ≡ true
      → IsClosedIn board behind paragraph.id paragraph.rev board.dict_version

none-below : {X : Type 0} (place : ℕ) → place < 0 → X
none-below place below = absurd (omega (arith, below))

pub settled-none : (board : Seen) (eye : EyeSeen) → IsSettledTo 0 board eye eye
settled-none board eye = record {
  behind = [];
  entries = sym (append-nil eye.run.entries);
  settled = λ place paragraph stands below at beside free. none-below place below;
}

-- ---- the board behind a longer history
last-behind : (board : Seen) (front back : List Entry)
    → last_board board (front ++ back) ≡ last_board (last_board board front) back
last-behind board [] back = refl
last-behind board (entry ∷ front) back = last-behind entry.board front back

-- what an eye knows ends with the board that stands behind the one that it knew
pub last-later : (board : Seen) (old new : EyeSeen) (behind : List Entry)
    → board ≡ last_of old.run → new.run.opening ≡ old.run.opening
    → new.run.entries ≡ old.run.entries ++ behind
    → last_of new.run ≡ last_board board behind
last-later board old new behind is same entries =
    ap (λ (opening : Seen). last_board opening new.run.entries) same
    ∙ (ap (last_board old.run.opening) entries
    ∙ (last-behind old.run.opening old.run.entries behind
    ∙ ap (λ (b : Seen). last_board b behind) (sym is)))

-- what is closed behind a board is closed where more stands behind it
pub closed-longer : {board : Seen} {id rev dict : ℕ} (behind more : List Entry)
    → IsClosedIn board behind id rev dict → IsClosedIn board (behind ++ more) id rev dict
closed-longer behind more closed = record {
  front = closed.front;
  begins = prefix-trans closed.front behind (behind ++ more) closed.begins (more, refl);
  closed = closed.closed;
}

-- what stands behind an older list stands behind it in a newer one
pub behind-more : (old middle new : EyeSeen) (behind : List Entry)
    → middle.run.entries ≡ old.run.entries ++ behind → (later : IsLater middle new)
    → new.run.entries ≡ old.run.entries ++ (behind ++ later.begins.0)
behind-more old middle new behind entries later =
    sym later.begins.1
    ∙ (ap (λ front. front ++ later.begins.0) entries
    ∙ append_assoc old.run.entries behind later.begins.0)

-- ---- one place more
same-place : (count place : ℕ) → place < count + 1 → count ≤ place → place ≡ count
same-place count place below few = omega (arith, below, few)

pub settled-more : (count : ℕ) (board : Seen) (old middle new : EyeSeen)
    → board ≡ last_of old.run → IsLater old new → IsSettledTo count board old middle
    → IsLater middle new → CanFinishNoCheck board count (last_of new.run)
    → IsSettledTo (count + 1) board old new
settled-more count board old middle new is whole so-far later closed = record {
  behind = all;
  entries = entries;
  settled = settled;
}
  where
    all : List Entry
    all = so-far.behind ++ later.begins.0

    entries : new.run.entries ≡ old.run.entries ++ all
    entries = behind-more old middle new so-far.behind so-far.entries later

    last : last_of new.run ≡ last_board board all
    last = last-later board old new all is whole.opening entries

    settled : (place : ℕ) (paragraph : Paragraph) (stands : Standing) → place < count + 1
        → slice_get board.paragraphs place ≡ Some paragraph
        → slice_get board.standings place ≡ Some stands → is_open stands ≡ true
        → IsClosedIn board all paragraph.id paragraph.rev board.dict_version
    settled place paragraph stands below at beside free = elim (cases_lt place count) [
      | inl less ↦ closed-longer so-far.behind later.begins.0
          (so-far.settled place paragraph stands less at beside free)
      | inr few ↦
          let here = same-place count place below few in
          record {
            front = all;
            begins = prefix-self all;
            closed = subst (λ (b : Seen). is_open_for paragraph.id paragraph.rev
                board.dict_version b ≡ false) last
                (closed paragraph stands (rw (← here) at) (rw (← here) beside) free);
          }
    ]

-- all places
pub settled-whole : (count : ℕ) (board : Seen) (old new : EyeSeen)
    → length board.paragraphs ≤ count → IsSettledTo count board old new
    → IsSettledFrom board old new
settled-whole count board old new few so-far = record {
  behind = so-far.behind;
  entries = so-far.entries;
  settled = λ place paragraph stands at beside free.
      so-far.settled place paragraph stands
      (below count place (slice_get_within board.paragraphs place paragraph at) few) at beside
      free;
}
  where
    below : (count place : ℕ) → place < length board.paragraphs → length board.paragraphs ≤ count
        → place < count
    below count place within few = omega (arith, within, few)

-- ---- from a look to the end
pub settled-since : (old seen middle new : EyeSeen) (board : Seen) → (first : IsLater old seen)
    → board ≡ last_of seen.run → IsSettledFrom board seen middle → IsLater middle new
    → IsSettled old new
settled-since old seen middle new board first is so-far later =
    let entries = behind-more seen middle new so-far.behind so-far.entries later in
    let same : last_board old.run.opening (old.run.entries ++ first.begins.0) ≡ board =
    ap (last_board old.run.opening) first.begins.1
    ∙ (ap (λ (opening : Seen). last_board opening seen.run.entries) (sym first.opening)
    ∙ sym is) in
    record {
      skipped = first.begins.0;
      behind = so-far.behind ++ later.begins.0;
      entries = entries
          ∙ ap (λ front. front ++ (so-far.behind ++ later.begins.0)) (sym first.begins.1);
      settled = subst (λ (b : Seen). AreClosedIn b (so-far.behind ++ later.begins.0)) (sym same)
          (λ place paragraph stands at beside free.
          closed-longer so-far.behind later.begins.0
          (so-far.settled place paragraph stands at beside free));
    }

-- ---- where not all could be settled
pub spent-over : (board now : Seen) (answer : Result (Unit {0}) ClaimFault) → HasOpen board
    → IfErr answer (IsCutShort now) → IfErr answer (IsBoardFault board now)
spent-over board now (Ok done) had short = tt
spent-over board now (Err (fault.Spent point)) had short = record { last = short; had = had }
spent-over board now (Err fault.NoMemory) had short = tt
