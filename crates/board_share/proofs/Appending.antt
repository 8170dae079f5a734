-- The step that adds an entry keeps the rule of the number.
use Rattle.std.proofs.Common.{◌≡◌, refl, sym, ap, subst, inl, ℕ, ◌+◌, ◌<◌, ◌==◌, Bool, true, false}
use Rattle.std.proofs.Common.{List, [], ◌∷◌, ◌++◌, length, None, arith, length-append}
use Rattle.std.proofs.lemmas.List.{append-nil}
use Rattle.std.proofs.lemmas.Bool.Decides.{nat_tests}
use mathlib.Core.List.{IsPrefix}
use prog.Atomic.{either}
use Rattle.logbook.specs.Pages.{Cell, cell, keeps, no_nib, step, Moves, Goes}
use Rattle.board_share.specs.Logs.{AppendsEntry, IsLogKept}
use Rattle.board_share.proofs.Prefixes.{prefix_whole}

abbrev pub shown : {E : Type 0} → List E → List E
shown list = []

abbrev pub moved : {E : Type 0} → List E → List E → ℕ → Type 0
moved before after answer = Unit {0}

-- by whether the number is the one that is expected
pub append-goes : {E : Type 0} (list seen : List E) (entry : E) (count : ℕ) → length seen ≡ count
    → IsPrefix seen list → (here : Bool) → (length list == count) ≡ here
    → Goes IsLogKept shown moved 0 (seen, (no_nib, None)) (λ n. either (n == count) (count + 1) n)
    (AppendsEntry (step 0 count (count + 1) entry) (seen, (no_nib, None)))
    ((length list, true) ∷ (0, true) ∷ []) list
append-goes list seen entry count long begins true is =
    let here : length list ≡ count = grind (arith, nat_tests) in
    let same : seen ≡ list = prefix_whole seen list begins (omega arith) in
    let next : either (length list == count) (count + 1) (length list)
    ≡ length (list ++ entry ∷ []) =
    rw is (omega (arith, length-append list (entry ∷ []))) in (
      keeps,
      entry ∷ [],
      None,
      tt,
      ap (λ (k : ℕ). (k, true) ∷ (0, true) ∷ []) next,
      inl (refl, refl),
      rw is (ap (λ front. front ++ entry ∷ []) (sym same)),
    )
append-goes list seen entry count long begins false is =
    let all : list ++ [] ≡ list = append-nil list in
    let next : either (length list == count) (count + 1) (length list) ≡ length (list ++ []) =
    rw is (ap length (sym all)) in (
      keeps,
      [],
      None,
      tt,
      ap (λ (k : ℕ). (k, true) ∷ (0, true) ∷ []) next,
      inl (refl, refl),
      rw is tt,
    )

-- whatever the list is by then, the step adds the entry to all that was seen, or adds none
pub append-moves : {E : Type 0} (seen : List E) (entry : E) (count : ℕ) → length seen ≡ count
    → Moves IsLogKept shown moved 0 (seen, (no_nib, None)) (λ n. either (n == count) (count + 1) n)
    (AppendsEntry (step 0 count (count + 1) entry) (seen, (no_nib, None)))
append-moves {E} seen entry count long cells list kept begins away =
    let P : List Cell → Type 0 = λ c. (0 < length c) × ((cell c 0).1 ≡ true)
    × Goes IsLogKept shown moved 0 (seen, (no_nib, None)) (λ n. either (n == count) (count + 1) n)
    (AppendsEntry (step 0 count (count + 1) entry) (seen, (no_nib, None))) c list in
    subst P (sym kept)
    (omega arith, refl, append-goes list seen entry count long begins (length list == count) refl)
