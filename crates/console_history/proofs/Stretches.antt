-- Stretches of a history in which the console asks for nothing.
use Rattle.std.proofs.Common.{◌≡◌, refl, ℕ, zero, suc, ◌+◌, ◌≤◌, ◌==◌, Bool, true, false, cond}
use Rattle.std.proofs.Common.{not, List, [], ◌∷◌, ◌++◌, length, length-append, eqb-true, arith}
use Rattle.std.specs.Prelude.{if◌then◌else◌}
use Rattle.std.specs.List.{AllByRecursion}
use Rattle.std.proofs.lemmas.List.{nil_from_length}
use Rattle.std.proofs.lemmas.List.Sums.{count_by-le-length, sum_by-cons}
use Rattle.board_share.specs.edit_core.Runs.{AreQuiet, AreSteps, Entry, IsQuiet, asked_of, is_quiet}
use Rattle.board_share.specs.edit_core.Runs.{entries_through, last_board}
use Rattle.board_share.specs.edit_core.Seen.{Seen}
use Rattle.console_history.specs.Followed.{AreBetween}

-- what holds of each event of a stretch holds of each event of its parts
pub each-part : (P : Entry → Type 0) (front back : List Entry) → AllByRecursion P (front ++ back)
    → AllByRecursion P front × AllByRecursion P back
each-part P [] back each = (tt, each)
each-part P (entry ∷ front) back each =
    let later = each-part P front back each.1 in ((each.0, later.0), later.1)

-- where as many events came through a number as there are, each did
pub all-through : (by : ℕ) (entries : List Entry) → length entries ≤ entries_through by entries
    → AllByRecursion (λ entry. entry.by ≡ by) entries
all-through by [] most = tt
all-through by (entry ∷ entries) most =
    let more = sum_by-cons (λ (e : Entry). cond (e.by == by) 1 0) entry entries in
    let few = count_by-le-length (λ (e : Entry). e.by == by) entries in (
      its-own entry.by by (entry.by == by) refl (omega (arith, more, few, most)),
      all-through by entries (omega (arith, at-most-one (entry.by == by), more, most)),
    )
  where
    at-most-one : (b : Bool) → cond {A = ℕ} b 1 0 ≤ 1
    at-most-one true = omega arith
    at-most-one false = omega arith

    its-own : (m n : ℕ) (b : Bool) → (m == n) ≡ b → 1 ≤ cond {A = ℕ} b 1 0 → m ≡ n
    its-own m n true is one = eqb-true m n is
    its-own m n false is one = absurd (omega (arith, one))

-- laws of the core
pub record CoreLaws : Type 0 where
  pub quiet : (entries : List Entry) → asked_of entries ≡ 0 → AreQuiet entries
  pub keeps : (board : Seen) (entries : List Entry) → AreSteps board entries → AreQuiet entries
      → IsQuiet board (last_board board entries)
  pub apart : (board : Seen) (front back : List Entry) → AreSteps board (front ++ back)
      → AreSteps board front × AreSteps (last_board board front) back
  pub last : (board : Seen) (front back : List Entry)
      → last_board board (front ++ back) ≡ last_board (last_board board front) back
  pub asked : (front back : List Entry)
      → asked_of (front ++ back) ≡ asked_of front + asked_of back
  pub asked_one : (entry : Entry)
      → asked_of (entry ∷ []) ≡ (if not (is_quiet entry.event) then 1 else 0)

-- nothing is asked in a stretch, and without workers it is empty
pub record IsIdle (workers : ℕ) (entries : List Entry) : Type 0 where
  pub asked : asked_of entries ≡ 0
  pub empty : workers ≡ 0 → length entries ≡ 0

pub idle-nil : (workers : ℕ) → IsIdle workers []
idle-nil workers = record { asked = refl; empty = λ none. refl }

both-none : (m n s : ℕ) → s ≡ m + n → m ≡ 0 → n ≡ 0 → s ≡ 0
both-none m n s is first second = omega (arith, is, first, second)

module _ (laws : CoreLaws) where
  pub idle-append : (workers : ℕ) (front back : List Entry) → IsIdle workers front
      → IsIdle workers back → IsIdle workers (front ++ back)
  idle-append workers front back first second = record {
    asked = both-none (asked_of front) (asked_of back) (asked_of (front ++ back))
        (laws.asked front back) first.asked second.asked;
    empty = λ none. both-none (length front) (length back) (length (front ++ back))
        (length-append front back) (first.empty none) (second.empty none);
  }

  pub idle-between : (workers : ℕ) (entries : List Entry) → IsIdle workers entries
      → AreBetween workers entries
  idle-between zero entries idle = nil_from_length entries (idle.empty refl)
  idle-between (suc workers) entries idle = laws.quiet entries idle.asked

  -- the paragraphs are the same behind it
  pub idle-keeps : (workers : ℕ) (board : Seen) (entries : List Entry) → AreSteps board entries
      → IsIdle workers entries → (last_board board entries).paragraphs ≡ board.paragraphs
  idle-keeps workers board entries steps idle =
      (laws.keeps board entries steps (laws.quiet entries idle.asked)).paragraphs
