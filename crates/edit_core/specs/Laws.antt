-- Laws of what is found in two lists, place by place, that the proofs of crates above cite too.
use Rattle.std.proofs.Common.{◌≡◌, refl, ℕ, zero, suc, Bool, true, false, cond, List, [], ◌∷◌, find}
use Rattle.std.proofs.Common.{slice_get, None, Some, arith}
use Rattle.std.specs.List.{position_or_len, zip}

-- the first pair is found whose first item passes
pub find-beside : {X Y : Type 0} (p : X → Bool) (xs : List X) (ys : List Y) (k : ℕ) {x : X} {y : Y}
    → position_or_len p xs ≡ k → slice_get xs k ≡ Some x → slice_get ys k ≡ Some y
    → find (λ (row : X × Y). p row.0) (zip xs ys) ≡ Some (x, y)
find-beside p [] ys k is here beside = cc
find-beside p (z ∷ xs) [] k is here beside = cc
find-beside p (z ∷ xs) (w ∷ ys) zero is here beside = grind arith
find-beside p (z ∷ xs) (w ∷ ys) (suc k) {x} {y} is here beside =
    grind (arith, find-beside p xs ys k {x = x} {y = y})

-- where no item passes no pair is found
pub none-beside : {X Y : Type 0} (p : X → Bool) (xs : List X) (ys : List Y) → find p xs ≡ None
    → find (λ (row : X × Y). p row.0) (zip xs ys) ≡ None
none-beside p [] ys none = refl
none-beside p (z ∷ xs) [] none = refl
none-beside {X} {Y} p (z ∷ xs) (w ∷ ys) none = by (p z) none (none-beside p xs ys)
  where
    by : (b : Bool) → cond b (Some z) (find p xs) ≡ None
        → (find p xs ≡ None → find (λ (row : X × Y). p row.0) (zip xs ys) ≡ None)
        → cond b (Some (z, w)) (find (λ (row : X × Y). p row.0) (zip xs ys)) ≡ None
    by true none more = cc
    by false none more = more none
