-- The eyes of workers.
use Rattle.std.proofs.Common.{◌≡◌, ◌∙◌, ap, subst, sym, List, [], ◌∷◌, ◌++◌, map}
use Rattle.std.specs.List.{AllZip}
use Rattle.board_share.specs.Eyes.{EyeSeen}
use Rattle.worker_crew.specs.Crews.{HasWorked}

-- what becomes of workers becomes of their eyes
zip-eyes : {S : Type 0} (eye_of : S → EyeSeen) (olds news : List S)
    → AllZip (λ old new. HasWorked (eye_of old) (eye_of new)) olds news
    → AllZip HasWorked (map eye_of olds) (map eye_of news)
zip-eyes eye_of [] [] worked = tt
zip-eyes eye_of [] (new ∷ news) worked = absurd worked
zip-eyes eye_of (old ∷ olds) [] worked = absurd worked
zip-eyes eye_of (old ∷ olds) (new ∷ news) worked =
    (worked.0, zip-eyes eye_of olds news worked.1)

-- so it is where they are given back into an empty list
pub given-back : {S : Type 0} (eye_of : S → EyeSeen) (olds news : List S)
    {room given first : List EyeSeen} → room ≡ [] → given ≡ room ++ map eye_of news
    → map eye_of olds ≡ first
    → AllZip (λ old new. HasWorked (eye_of old) (eye_of new)) olds news
    → AllZip HasWorked first given
given-back eye_of olds news {given = given} empty gives view worked =
    subst (λ l. AllZip HasWorked l given) view
    (subst (λ l. AllZip HasWorked (map eye_of olds) l)
    (sym (gives ∙ ap (λ l. l ++ map eye_of news) empty)) (zip-eyes eye_of olds news worked))
