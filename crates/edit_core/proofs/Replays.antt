-- A list of events, one after another, is a history.
use Rattle.std.proofs.Common.{◌≡◌, ◌∙◌, inl, inr, refl, sym, ap, subst, List, [], ◌∷◌, map}
use Rattle.edit_core.specs.Events.{SeenEvent}
use Rattle.edit_core.specs.Runs.{AreFit, AreSteps, AreTakenFrom, Entry, IsAnswered, IsReplayed}
use Rattle.edit_core.specs.Runs.{Replays, last_board}
use Rattle.edit_core.specs.Seen.{Seen}
use Rattle.edit_core.specs.Steps.{IsFit}

-- the first of events that are left is fit, and those behind it are fit for what it makes
pub first-fit : {E : Type 0} (event_of : E → SeenEvent) (board : Seen) (event : E)
    (left later : List E) → left ≡ event ∷ later → AreFit board (map event_of left)
    → IsFit board (event_of event)
first-fit event_of board event left later is fit =
    (subst (λ es. AreFit board (map event_of es)) is fit).0

pub later-fit : {E : Type 0} (event_of : E → SeenEvent) (board next : Seen) (event : E)
    (left later : List E) → left ≡ event ∷ later → AreFit board (map event_of left)
    → IsAnswered board (event_of event) next → AreFit next (map event_of later)
later-fit event_of board next event left later is fit answered =
    (subst (λ es. AreFit board (map event_of es)) is fit).1 next answered

pub later-made : {E : Type 0} (event_of : E → SeenEvent) (board next after : Seen) (event : E)
    (left later : List E) → left ≡ event ∷ later → IsAnswered board (event_of event) next
    → Replays next (map event_of later) after → Replays board (map event_of left) after
later-made event_of board next after event left later is answered made =
    subst (λ es. Replays board (map event_of es) after) (sym is) (next, answered, made)

-- a replay is a history of some of the events, in their order
pub replay-is-run : (board : Seen) (events : List SeenEvent) (after : Seen)
    → Replays board events after → IsReplayed board events after
replay-is-run board [] after is = record { entries = []; steps = tt; taken = tt; last = sym is }
replay-is-run board (event ∷ events) after (next, answered, more) =
    by answered (replay-is-run next events after more)
  where
    by : IsAnswered board event next → IsReplayed next events after
        → IsReplayed board (event ∷ events) after
    by (inl step) later =
        record {
          entries = record { by = 0; event = event; board = next } ∷ later.entries;
          steps = (step, later.steps);
          taken = inl (refl, later.taken);
          last = later.last;
        }
    by (inr (refusal, refused, same)) later =
        passed later.entries (subst (λ b. AreSteps b later.entries) same later.steps)
        (ap (λ b. last_board b later.entries) (sym same) ∙ later.last) later.taken
      where
        passed : (entries : List Entry) → AreSteps board entries → last_board board entries ≡ after
            → AreTakenFrom events entries → IsReplayed board (event ∷ events) after
        passed [] steps last taken = record { entries = []; steps = steps; taken = tt; last = last }
        passed (entry ∷ entries) steps last taken =
            record { entries = entry ∷ entries; steps = steps; taken = inr taken; last = last }
