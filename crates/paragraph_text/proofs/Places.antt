-- What a text has, which of several refusals is the first, and how the paragraphs of texts are
-- numbered.
use Rattle.std.proofs.Common.{◌≡◌, ◌∙◌, refl, sym, ap, subst, ℕ, zero, suc, ◌+◌, ◌==◌, Bool, true}
use Rattle.std.proofs.Common.{false, not, List, [], ◌∷◌, ◌++◌, length, take, drop, get_or, position}
use Rattle.std.proofs.Common.{slice_get, Option, None, Some, add-zero, arith}
use Rattle.std.specs.Option.{option_map, option_or}
use Rattle.std.proofs.lemmas.Bool.{eqb-true, eq-eqb, false≢true}
use Rattle.std.proofs.lemmas.List.{drop_more}
use Rattle.std.proofs.lemmas.List.Elements.{recursion_from_All, All-from_recursion}
use Rattle.std.proofs.lemmas.List.Quantifiers.{position-Some}
use Rattle.std.proofs.lemmas.List.Sums.{prefix_len_passes}
use Rattle.std.proofs.lemmas.Option.{none-some}
use Rattle.paragraph_text.specs.Laws.{position-none}
use Rattle.paragraph_text.specs.Paragraphs.{Paragraph, HasNoBreak, numbered_from}
use Rattle.paragraph_text.specs.Edits.{unless, BeginsWith}
use Rattle.paragraph_text.specs.declared.edits.EditRefusal.{EditRefusal}

-- at the place of the paragraph with an id a rest begins with it
pub gap-at : (paragraphs : List Paragraph) (id k : ℕ) → position (λ p. p.id == id) paragraphs
    ≡ Some k → BeginsWith (Some id) (drop k paragraphs)
gap-at [] id k is = absurd (none-some k is)
gap-at (first ∷ others) id k is =
    let at = position-Some (λ (p : Paragraph). p.id == id) (first ∷ others) k first is in
    subst (BeginsWith (Some id)) (sym (drop_more (first ∷ others) k first at.0))
    (eqb-true (get_or (first ∷ others) k first).id id at.1)

pub no-break-found : (text : List ℕ) → HasNoBreak text → position (λ byte. byte == 10) text ≡ None
no-break-found text whole = by (position (λ byte. byte == 10) text) refl
  where
    by : (found : Option ℕ) → position (λ byte. byte == 10) text ≡ found → found ≡ None
    by None is = refl
    by (Some k) is =
        let at = position-Some (λ (byte : ℕ). byte == 10) text k 0 is in
        absurd (All-from_recursion (λ byte. ¬ (byte ≡ 10)) text whole k 0 at.0
        (eqb-true (get_or text k 0) 10 at.1))

-- ---- refusals
pub unless-none : (test : Bool) (refusal : EditRefusal) → unless test refusal ≡ None → test ≡ true
unless-none true refusal is = refl
unless-none false refusal is = cc

pub or-parts : {X : Type 0} (first second : Option X) → option_or first second ≡ None
    → (first ≡ None) × (second ≡ None)
or-parts None second is = (refl, is)
or-parts (Some x) second is = cc

pub map-none : {X Y : Type 0} (f : X → Y) (o : Option X) → option_map f o ≡ None → o ≡ None
map-none f None is = refl
map-none f (Some x) is = cc

-- a paragraph more
pub numbered_more : (id : ℕ) (texts : List (List ℕ)) (text : List ℕ)
    → numbered_from id (texts ++ text ∷ []) ≡ numbered_from id texts
    ++ record { id = id + length texts; rev = 0; text = text } ∷ []
numbered_more id [] text =
    ap (λ n. record { id = n; rev = 0; text = text } ∷ []) (sym (add-zero id))
numbered_more id (first ∷ texts) text =
    ap (λ ps. record { id = id; rev = 0; text = first } ∷ ps) (numbered_more (id + 1) texts text
    ∙ ap (λ n. numbered_from (id + 1) texts ++ record { id = n; rev = 0; text = text } ∷ [])
    (counted id (length texts)))
  where
    counted : (m n : ℕ) → m + 1 + n ≡ m + suc n
    counted m n = omega arith
