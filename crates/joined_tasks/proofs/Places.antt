-- Lists that are related place by place.
use Rattle.std.proofs.Common.{◌≡◌, List, [], ◌∷◌, ◌++◌, subst, sym}
use Rattle.std.specs.List.{AllZip}

-- lists that are related, and one more item behind each
zip-behind : {X : Type 0} (R : X → X → Type 0) (xs ys : List X) {x y : X} → AllZip R xs ys → R x y
    → AllZip R (xs ++ x ∷ []) (ys ++ y ∷ [])
zip-behind R [] [] all last = (last, tt)
zip-behind R [] (y ∷ ys) all last = absurd all
zip-behind R (x ∷ xs) [] all last = absurd all
zip-behind R (x ∷ xs) (y ∷ ys) all last = (all.0, zip-behind R xs ys all.1 last)

pub zip_all : {X : Type 0} (R : X → X → Type 0) (xs ys all : List X) {x y : X}
    → all ≡ xs ++ x ∷ [] → AllZip R xs ys → R x y → AllZip R all (ys ++ y ∷ [])
zip_all R xs ys all {x} {y} is zips last =
    subst (λ all. AllZip R all (ys ++ y ∷ [])) (sym is) (zip-behind R xs ys zips last)
