-- Laws of rows in the order of their texts.
use Rattle.std.proofs.Common.{◌≡◌, ◌∙◌, refl, sym, ap, ℕ, ◌+◌, ◌<◌, List, [], ◌∷◌, ◌++◌, length}
use Rattle.std.proofs.Common.{take}
use Rattle.std.proofs.Common.{get_or, arith}
use Rattle.std.proofs.lemmas.List.{length-take-le, take_more}
use Rattle.text_order.specs.TextOrder.{Row, AreInOrder, beginning}

-- all texts begin with no character
pub all-begin : {V : Type 0} (rows : List (Row V)) (text : List ℕ)
    → rows ≡ beginning (take 0 text) rows
all-begin [] text = refl
all-begin (row ∷ rows) text = ap (λ more. row ∷ more) (all-begin rows text)

-- the rows that begin as a text does, one character further
pub begin-further : {V : Type 0} {alike now : List (Row V)} {c : ℕ} (rows : List (Row V))
    (text : List ℕ) (depth : ℕ)
    → AreInOrder rows → depth < length text → c ≡ get_or text depth c
    → alike ≡ beginning (take depth text) rows
    → ((all : List (Row V)) (front : List ℕ) → AreInOrder all → length front ≡ depth
    → alike ≡ beginning front all → now ≡ beginning (front ++ c ∷ []) all)
    → now ≡ beginning (take (depth + 1) text) rows
begin-further {c = c} rows text depth sorted within is so_far goes_on =
    goes_on rows (take depth text) sorted (length-take-le depth text (omega (arith, within))) so_far
    ∙ ap (λ front. beginning front rows)
    (ap (λ x. take depth text ++ x ∷ []) is ∙ sym (take_more text depth c within))
