-- Going over entries by their places.
use Rattle.std.proofs.Common.{◌≡◌, ◌∙◌, sym, ap, ℕ, ◌+◌, Bool}
use Rattle.std.proofs.Common.{false, ◌||◌, ◌∷◌, List, map, drop, get_or, slice_get, Some}
use Rattle.std.specs.List.{list_any}
use Rattle.std.proofs.lemmas.List.{drop_more, get_or-map}
use Rattle.std.proofs.lemmas.Option.{slice_get_within, get_or_from_slice_get}

drop-place : {X : Type 0} (xs : List X) (place : ℕ) (x : X) → slice_get xs place ≡ Some x
    → drop place xs ≡ x ∷ drop (place + 1) xs
drop-place xs place x at =
    drop_more xs place x (slice_get_within xs place x at)
    ∙ ap (λ first. first ∷ drop (place + 1) xs) (get_or_from_slice_get xs place x x at)

pub any-past : {X : Type 0} (test : X → Bool) (xs : List X) (place : ℕ) (x : X)
    → slice_get xs place ≡ Some x → test x ≡ false
    → list_any test (drop place xs) ≡ list_any test xs
    → list_any test (drop (place + 1) xs) ≡ list_any test xs
any-past test xs place x at fails so =
    sym (ap (list_any test) (drop-place xs place x at)
    ∙ ap (λ b. b || list_any test (drop (place + 1) xs)) fails)
    ∙ so

-- what is told at the place of an item is told of the item
pub told-at : {X : Type 0} (test : X → Bool) (xs : List X) (told : List Bool) (place : ℕ) (x : X)
    (d : Bool) → told ≡ map test xs → slice_get xs place ≡ Some x → get_or told place d ≡ test x
told-at test xs told place x d are at =
    ap (λ bs. get_or bs place d) are
    ∙ get_or-map test xs place x d (slice_get_within xs place x at)
    ∙ ap test (get_or_from_slice_get xs place x x at)
