-- Items are put at the front of an array one by one.
use Rattle.std.proofs.Common.{◌≡◌, ◌∙◌, sym, ap, ℕ, zero, suc, ◌<◌, ◌≤◌, List, [], ◌∷◌, ◌++◌}
use Rattle.std.proofs.Common.{length, take, drop, map, set, get_or, arith}
use Rattle.std.proofs.lemmas.List.{drop_all, take_all}

-- an array that begins as a list does, so far, and goes on as it was
abbrev pub begun : {A : Type 0} → ℕ → List A → List A → List A
begun place front array = take place front ++ drop place array

-- the next item is put behind what is there
pub begun-next : {M A : Type 0} (f : M → A) (place : ℕ) (marks : List M) (array : List A) (mark : M)
    (item : A) → place < length marks → place < length array → mark ≡ get_or marks place mark
    → item ≡ f mark
    → set (begun place (map f marks) array) place item ≡ begun (suc place) (map f marks) array
begun-next f place [] array mark item within room is item-is = let no : ⊥ = omega arith in absurd no
begun-next f place (first ∷ marks) [] mark item within room is item-is =
    let no : ⊥ = omega arith in absurd no
begun-next f zero (first ∷ marks) (old ∷ array) mark item within room is item-is =
    ap (λ put. put ∷ array) (item-is ∙ ap f is)
begun-next f (suc place) (first ∷ marks) (old ∷ array) mark item within room is item-is =
    ap (λ rest. f first ∷ rest)
    (begun-next f place marks array mark item (omega arith) (omega arith) is item-is)

-- there is no room left
pub begun-full : {A : Type 0} (place : ℕ) (front array : List A) (count : ℕ) → place ≡ length array
    → length array ≤ count → begun place front array ≡ take (length array) front ++ drop count array
begun-full place front array count is more =
    ap (λ n. begun n front array) is
    ∙ ap (λ rest. take (length array) front ++ rest)
    (drop_all (length array) array (omega arith) ∙ sym (drop_all count array more))

-- no item is left
pub begun-all : {A : Type 0} (place : ℕ) (front array : List A) (count : ℕ) → place ≡ count
    → length front ≡ count → count ≤ length array
    → begun place front array ≡ take (length array) front ++ drop count array
begun-all place front array count is counted room =
    ap (λ n. begun n front array) is
    ∙ ap (λ taken. taken ++ drop count array)
    (take_all count front (omega arith) ∙ sym (take_all (length array) front (omega arith)))
