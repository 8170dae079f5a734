-- Going over entries by their places, and over the characters of their words.
use Rattle.std.proofs.Common.{◌≡◌, ◌∙◌, sym, ap, ℕ, ◌+◌, ◌<◌}
use Rattle.std.proofs.Common.{false, ◌&&◌, ◌∷◌, [], ◌++◌, List, length, take, drop}
use Rattle.std.proofs.Common.{get_or, slice_get, Some, eq-eqb, ne_eqb}
use Rattle.std.proofs.lemmas.List.{take_more, drop_more}
use Rattle.std.proofs.lemmas.Option.{slice_get_within, get_or_from_slice_get}
use Rattle.spell_types.specs.Cases.{is_same_word}

-- ---- places
pub take-place : {X : Type 0} (xs : List X) (place : ℕ) (x : X) → slice_get xs place ≡ Some x
    → take (place + 1) xs ≡ take place xs ++ x ∷ []
take-place xs place x at =
    take_more xs place x (slice_get_within xs place x at)
    ∙ ap (λ last. take place xs ++ last ∷ []) (get_or_from_slice_get xs place x x at)

-- ---- the characters of a text beside those of a front
pub front-more : (cs later front : List ℕ) (i c first : ℕ) → cs ≡ first ∷ later → first ≡ c
    → i < length front → c ≡ get_or front i c → (back : List ℕ)
    → is_same_word later (drop (i + 1) front ++ back) ≡ is_same_word cs (drop i front ++ back)
front-more cs later front i c first is same within here back =
    sym (ap (λ word. is_same_word word (drop i front ++ back)) is
    ∙ ap (λ ds. is_same_word (first ∷ later) (ds ++ back))
    (drop_more front i c within ∙ ap (λ d. d ∷ drop (i + 1) front) (sym here))
    ∙ ap (λ b. b && is_same_word later (drop (i + 1) front ++ back)) (eq-eqb first c same))

pub front-other : (cs later front : List ℕ) (i c first : ℕ) → cs ≡ first ∷ later
    → (first ≡ c → ⊥) → i < length front → c ≡ get_or front i c → (back : List ℕ)
    → is_same_word cs (drop i front ++ back) ≡ false
front-other cs later front i c first is other within here back =
    ap (λ word. is_same_word word (drop i front ++ back)) is
    ∙ ap (λ ds. is_same_word (first ∷ later) (ds ++ back))
    (drop_more front i c within ∙ ap (λ d. d ∷ drop (i + 1) front) (sym here))
    ∙ ap (λ b. b && is_same_word later (drop (i + 1) front ++ back)) (ne_eqb first c other)

pub front-ends : (cs front : List ℕ) (i c : ℕ) → cs ≡ [] → i < length front
    → c ≡ get_or front i c → (back : List ℕ) → is_same_word cs (drop i front ++ back) ≡ false
front-ends cs front i c is within here back =
    ap (λ word. is_same_word word (drop i front ++ back)) is
    ∙ ap (λ ds. is_same_word [] (ds ++ back))
    (drop_more front i c within ∙ ap (λ d. d ∷ drop (i + 1) front) (sym here))
