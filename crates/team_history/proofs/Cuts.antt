-- How a history is cut into a stretch for each that is asked for.
use Rattle.std.proofs.Common.{◌≡◌, ◌∙◌, refl, sym, ap, subst, ℕ, ◌+◌, List, [], ◌∷◌, ◌++◌, Option}
use Rattle.std.proofs.Common.{append_assoc, append-nil, arith}
use Rattle.std.specs.Prelude.{if◌then◌else◌}
use Rattle.board_share.specs.edit_core.Runs.{Entry, last_board}
use Rattle.board_share.specs.edit_core.Seen.{Seen}
use Rattle.console_lang.specs.declared.command.Command.{Command}
use Rattle.console_lang.specs.declared.reply.Reply.{Reply}
use Rattle.team_history.specs.Eyes.{AreToldJust}
use Rattle.team_history.specs.ToldBy.{AreToldIn, IsOneToldIn, Session, is_taken, taken_in}

abbrev pub LastGoesOn : Type 0
LastGoesOn = (board : Seen) (front back : List Entry)
    → last_board board (front ++ back) ≡ last_board (last_board board front) back

-- one stretch more
pub one-more : LastGoesOn → (session : Session) (board : Seen) (entries part : List Entry)
    (commands : List (Option Command)) (replies : List Reply) (asked : Option Command)
    (reply : Reply) → AreToldJust session board entries commands replies
    → IsOneToldIn session (last_board board entries) part asked reply
    → AreToldJust session board (entries ++ part) (commands ++ asked ∷ []) (replies ++ reply ∷ [])
one-more last session board entries part [] [] asked reply cut one = (
  part,
  [],
  ap (λ (front : List Entry). front ++ part) cut.0 ∙ sym (append-nil part),
  subst (λ (front : List Entry). IsOneToldIn session (last_board board front) part asked reply)
      cut.0 one,
  (refl, refl),
)
one-more last session board entries part [] (other ∷ replies) asked reply cut one =
    absurd (cc (cut.1))
one-more last session board entries part (command ∷ commands) [] asked reply cut one = absurd cut
one-more last session board entries part (command ∷ commands) (other ∷ replies) asked reply cut
    one = (
      cut.0,
      cut.1 ++ part,
      ap (λ (all : List Entry). all ++ part) cut.2 ∙ append_assoc cut.0 cut.1 part,
      cut.3,
      one-more last session (last_board board cut.0) cut.1 part commands replies asked reply cut.4
          (subst (λ (at : Seen). IsOneToldIn session at part asked reply)
          (ap (last_board board) cut.2 ∙ last board cut.0 cut.1) one),
    )

-- how many were taken
one : Option Command → Reply → ℕ
one asked reply = if is_taken asked reply then 1 else 0

pub taken-more : (session : Session) (board : Seen) (entries : List Entry)
    (commands : List (Option Command)) (replies : List Reply) (asked : Option Command)
    (reply : Reply) → AreToldJust session board entries commands replies
    → taken_in (commands ++ asked ∷ []) (replies ++ reply ∷ [])
    ≡ taken_in commands replies + (if is_taken asked reply then 1 else 0)
taken-more session board entries [] [] asked reply cut = omega arith
taken-more session board entries [] (other ∷ replies) asked reply cut = absurd (cc (cut.1))
taken-more session board entries (command ∷ commands) [] asked reply cut = absurd cut
taken-more session board entries (command ∷ commands) (other ∷ replies) asked reply cut =
    sum (if is_taken command other then 1 else 0)
    (taken_in (commands ++ asked ∷ []) (replies ++ reply ∷ [])) (taken_in commands replies)
    (if is_taken asked reply then 1 else 0)
    (taken-more session (last_board board cut.0) cut.1 commands replies asked reply cut.4)
  where
    sum : (a b c d : ℕ) → b ≡ c + d → a + b ≡ (a + c) + d
    sum a b c d is = omega (arith, is)

-- what comes behind the last stretch does not matter
pub cut-in : (session : Session) (board : Seen) (entries rest : List Entry)
    (commands : List (Option Command)) (replies : List Reply)
    → AreToldJust session board entries commands replies
    → AreToldIn session board (entries ++ rest) commands replies
cut-in session board entries rest [] replies cut = cut.1
cut-in session board entries rest (asked ∷ commands) [] cut = absurd cut
cut-in session board entries rest (asked ∷ commands) (reply ∷ replies) cut = (
  cut.0,
  cut.1 ++ rest,
  ap (λ (all : List Entry). all ++ rest) cut.2 ∙ append_assoc cut.0 cut.1 rest,
  cut.3,
  cut-in session (last_board board cut.0) cut.1 rest commands replies cut.4,
)
