-- Who asks, once a desk is closed.
use Rattle.std.proofs.Common.{◌≡◌, ◌∙◌, refl, sym, subst, ℕ, ◌+◌, ◌<◌, ◌≤◌, ◌==◌, ◌⊎◌, inl, inr}
use Rattle.std.proofs.Common.{Bool, true, false, not, ◌&&◌, cond, List, [], ◌∷◌, length, map}
use Rattle.std.proofs.Common.{zero-add, arith}
use Rattle.std.specs.List.{All, AllByRecursion, range_with_len}
use Rattle.std.specs.List.Sorted.{IsPermutation}
use Rattle.std.proofs.lemmas.List.Elements.{All-from_recursion, All-get_or, All-map}
use Rattle.std.proofs.lemmas.List.FromFn.{get_or-range_with_len, length-range_with_len}
use Rattle.std.proofs.lemmas.List.Sorted.{All-permutation, IsPermutation-sym}
use Rattle.std.proofs.lemmas.List.Sums.{sum_by-cons}
use Rattle.spell_types.specs.JointLaws.{nat-own}
use Rattle.board_share.specs.edit_core.Runs.{Entry, Run, events_asked_by, is_quiet}
use Rattle.board_share.specs.Endings.{HasEventsOf, IsTheirs}
use Rattle.board_share.specs.Eyes.{EyeSeen, events_in}
use Rattle.team_history.specs.ToldBy.{AreOf}

-- a number is one of so many from a first one on
abbrev pub IsOneOf : ℕ → ℕ → ℕ → Type 0
IsOneOf first count by = (first ≤ by) × (by < first + count)

left-none : (m n s : ℕ) → s ≡ m + n → s ≡ 0 → m ≡ 0
left-none m n s is none = omega (arith, is, none)

right-none : (m n s : ℕ) → s ≡ m + n → s ≡ 0 → n ≡ 0
right-none m n s is none = omega (arith, is, none)

-- an entry that counts for its own number is of no worker's kind
counts-none : (quiet same : Bool) → same ≡ true → cond {A = ℕ} (not quiet && same) 1 0 ≡ 0
    → quiet ≡ true
counts-none true same is none = refl
counts-none false true is none = absurd (omega (arith, none))
counts-none false false is none = absurd (cc (is))

-- where each number asks for nothing or is one of these, so is each entry that is asked for
pub asked-of : (first count bound : ℕ) (entries : List Entry)
    → AllByRecursion (λ entry. entry.by < bound) entries
    → ((k : ℕ) → k < bound → (events_asked_by k entries ≡ 0) ⊎ IsOneOf first count k)
    → AreOf first count entries
asked-of first count bound [] below each = tt
asked-of first count bound (entry ∷ entries) below each = (
  here (each entry.by below.0),
  asked-of first count bound entries below.1 (λ k less. rest k (each k less)),
)
  where
    test : ℕ → Entry → ℕ
    test k e = cond {A = ℕ} (not (is_quiet e.event) && (e.by == k)) 1 0

    sums : (k : ℕ) → events_asked_by k (entry ∷ entries) ≡ test k entry + events_asked_by k entries
    sums k = sum_by-cons (test k) entry entries

    here : (events_asked_by entry.by (entry ∷ entries) ≡ 0) ⊎ IsOneOf first count entry.by
        → (is_quiet entry.event ≡ true) ⊎ IsOneOf first count entry.by
    here (inl none) =
        inl (counts-none (is_quiet entry.event) (entry.by == entry.by) (nat-own entry.by)
        (left-none (test entry.by entry) (events_asked_by entry.by entries)
        (events_asked_by entry.by (entry ∷ entries)) (sums entry.by) none))
    here (inr one) = inr one

    rest : (k : ℕ) → (events_asked_by k (entry ∷ entries) ≡ 0) ⊎ IsOneOf first count k
        → (events_asked_by k entries ≡ 0) ⊎ IsOneOf first count k
    rest k (inl none) =
        inl (right-none (test k entry) (events_asked_by k entries) (events_asked_by k (entry ∷ entries)) (sums k)
        none)
    rest k (inr one) = inr one

-- what holds of the number of each eye holds of all numbers
pub each-number : (P : ℕ → Type 0) (count : ℕ) (eyes : List EyeSeen)
    → IsPermutation (range_with_len 0 count) (map (λ eye. eye.number) eyes)
    → All (λ (eye : EyeSeen). P eye.number) eyes → (k : ℕ) → k < count → P k
each-number P count eyes numbers all k less =
    let range = range_with_len 0 count in
    let named = map (λ (eye : EyeSeen). eye.number) eyes in
    let each : All P range =
    All-permutation P named range (IsPermutation-sym range named numbers)
    (All-map P (λ (eye : EyeSeen). eye.number) eyes all) in
    let long : length range ≡ count = length-range_with_len 0 count in
    subst P (get_or-range_with_len 0 count k 0 less ∙ zero-add k)
    (All-get_or P range k 0 (subst (λ n. k < n) (sym long) less) each)

pub theirs-asked : (first count : ℕ) (eyes : List EyeSeen) (history : Run) → IsTheirs eyes history
    → IsPermutation (range_with_len 0 (length eyes)) (map (λ eye. eye.number) eyes)
    → All (λ (eye : EyeSeen). (events_in eye.counts ≡ 0) ⊎ IsOneOf first count eye.number) eyes
    → AreOf first count history.entries
theirs-asked first count eyes history theirs numbers all =
    let has : All (HasEventsOf history) eyes =
    All-from_recursion (HasEventsOf history) eyes theirs.each in
    asked-of first count (length eyes) history.entries theirs.others
    (each-number (λ k. (events_asked_by k history.entries ≡ 0) ⊎ IsOneOf first count k) (length eyes) eyes
    numbers (λ k d less. one _ (has k d less) (all k d less)))
  where
    one : (eye : EyeSeen) → HasEventsOf history eye
        → (events_in eye.counts ≡ 0) ⊎ IsOneOf first count eye.number
        → (events_asked_by eye.number history.entries ≡ 0) ⊎ IsOneOf first count eye.number
    one eye has (inl none) = inl (has.events ∙ none)
    one eye has (inr is) = inr is
