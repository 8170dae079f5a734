-- Where the eyes have counted as many events as there are.
use Rattle.std.proofs.Common.{◌≡◌, ◌∙◌, sym, subst, ℕ, ◌+◌, ◌<◌, ◌≤◌, ltb, List}
use Rattle.std.proofs.Common.{length, map, arith}
use Rattle.std.specs.List.{AllByRecursion, range_with_len, sum_by}
use Rattle.std.proofs.lemmas.List.{length-map}
use Rattle.std.proofs.lemmas.List.FromFn.{length-range_with_len}
use Rattle.std.proofs.lemmas.List.Sorted.{length_permutation, sum_by-IsPermutation}
use Rattle.std.proofs.lemmas.List.Sums.{count_by-le-length}
use Rattle.std.specs.List.Sorted.{IsPermutation}
use Rattle.mark_types.specs.lists.Laws.{each-weaker}
use Rattle.edit_core.specs.Runs.{Entry, IsRun, Run, all_kinds, events_asked_by, asked_kinds}
use Rattle.edit_core.specs.Runs.{entries_by}
use Rattle.edit_core.specs.Runs.{entries_through}
use Rattle.edit_core.specs.declared.event.EventKind.{EventKind}
use Rattle.edit_core.specs.declared.event.EventKind.TheVariants as kind
use Rattle.board_share.specs.Endings.{HasEventsOf, IsSeenIn, IsTheirs}
use Rattle.board_share.specs.Eyes.{EyeSeen, entries_in}
use Rattle.board_share.proofs.Sums.{each-both, sum-map, sum-most, sum-tight, below, below-sum}
use Rattle.board_share.proofs.Sums.{below-all}

-- the events of all kinds through a number are those through it, and those of four kinds are asked
pub record KindsAddUp : Type 0 where
  pub through : (by : ℕ) (entries : List Entry)
      → entries_through by entries ≡ sum_by (λ asked. entries_by asked by entries) all_kinds
  pub asked : (by : ℕ) (entries : List Entry)
      → events_asked_by by entries ≡ sum_by (λ asked. entries_by asked by entries) asked_kinds

-- no more was counted than came through a number
counted-most : KindsAddUp → (history : Run) (eye : EyeSeen) → IsSeenIn history eye
    → entries_in eye.counts ≤ entries_through eye.number history.entries
counted-most law history eye is =
    let n : EventKind → ℕ = λ asked. entries_by asked eye.number history.entries in
    let through : entries_through eye.number history.entries ≡ 0 + n kind.Edit + n kind.Load
    + n kind.Claim + n kind.Finish + n kind.Park + n kind.Ask =
    law.through eye.number history.entries in
    let c = is.counted in
    omega (arith, through, c.edits, c.loads, c.asks, c.checks)

-- where as many were counted as came through a number, so it is of each kind
has-events : KindsAddUp → (history : Run) (eye : EyeSeen) → IsSeenIn history eye
    → entries_in eye.counts ≡ entries_through eye.number history.entries
    → HasEventsOf history eye
has-events law history eye is all =
    let n : EventKind → ℕ = λ asked. entries_by asked eye.number history.entries in
    let through : entries_through eye.number history.entries ≡ 0 + n kind.Edit + n kind.Load
    + n kind.Claim + n kind.Finish + n kind.Park + n kind.Ask =
    law.through eye.number history.entries in
    let asked : events_asked_by eye.number history.entries ≡ 0 + n kind.Edit + n kind.Load + n kind.Park
    + n kind.Ask = law.asked eye.number history.entries in
    let c = is.counted in
    record {
      opening = is.opening;
      begins = is.begins;
      edits = omega (arith, all, through, c.edits, c.loads, c.asks, c.checks);
      loads = omega (arith, all, through, c.edits, c.loads, c.asks, c.checks);
      events = omega (arith, all, through, asked, c.edits, c.loads, c.asks, c.checks);
      entries = sym all;
    }

-- there are as many eyes as numbers
pub numbers-long : (count : ℕ) (eyes : List EyeSeen)
    → IsPermutation (range_with_len 0 count) (map (λ eye. eye.number) eyes)
    → length eyes ≡ count
numbers-long count eyes numbers =
    sym (length-map eyes (λ eye. eye.number))
    ∙ length_permutation (range_with_len 0 count) (map (λ eye. eye.number) eyes) numbers
    ∙ length-range_with_len 0 count

pub theirs : KindsAddUp → (count : ℕ) (eyes : List EyeSeen) (history : Run) → IsRun history
    → IsPermutation (range_with_len 0 count) (map (λ eye. eye.number) eyes)
    → AllByRecursion (IsSeenIn history) eyes
    → sum_by (λ eye. entries_in eye.counts) eyes ≡ length history.entries
    → IsTheirs eyes history
theirs law count eyes history run numbers seen total =
    let entries = history.entries in
    let counted : EyeSeen → ℕ = λ eye. entries_in eye.counts in
    let through : EyeSeen → ℕ = λ eye. entries_through eye.number entries in
    let by : Entry → ℕ = λ entry. entry.by in
    let less : AllByRecursion (λ eye. counted eye ≤ through eye) eyes =
    each-weaker (IsSeenIn history) (λ eye. counted eye ≤ through eye) (counted-most law history)
    eyes seen in
    let sums : sum_by through eyes ≡ below by count entries =
    sym (sum-map (λ number. entries_through number entries) (λ (eye : EyeSeen). eye.number) eyes)
    ∙ sum_by-IsPermutation (λ number. entries_through number entries) (range_with_len 0 count)
    (map (λ eye. eye.number) eyes) numbers
    ∙ below-sum by count entries in
    let most = count_by-le-length (λ (entry : Entry). ltb entry.by count) entries in
    let larger = sum-most counted through eyes less in
    let same : sum_by counted eyes ≡ sum_by through eyes =
    omega (arith, larger, sums, most, total) in
    let long : length eyes ≡ count =
    numbers-long count eyes numbers in
    let all : below by count entries ≡ length entries = sym sums ∙ sym same ∙ total in
    record {
      run = run;
      each = each-both (IsSeenIn history) (λ eye. counted eye ≡ through eye) (HasEventsOf history)
          (has-events law history) eyes seen (sum-tight counted through eyes less same);
      others = subst (λ n. AllByRecursion (λ (entry : Entry). entry.by < n) entries) (sym long)
          (below-all by count entries all);
    }
