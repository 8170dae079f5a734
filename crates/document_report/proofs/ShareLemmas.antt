-- Reports by their shares, one share behind the other.
use Rattle.std.proofs.Common.{◌≡◌, ◌∙◌, ℕ, zero, suc, ◌+◌, ◌*◌, ◌^◌, ◌<◌, ◌≤◌, List, [], ◌∷◌, ◌++◌}
use Rattle.std.proofs.Common.{length, take, drop, Option, None, Some, slice_set, ap, arith}
use Rattle.std.proofs.Common.{get_or}
use Rattle.std.proofs.lemmas.Grind.{common_steps}
use Rattle.std.specs.List.{All, AllZip}
use Rattle.std.specs.Prelude.{IfSome}
use Rattle.std.specs.Borrow.{Bor}
use Rattle.std.specs.String.{string_bytes}
use Rattle.mark_types.specs.spell_types.declared.Lexicon.{Lexicon}
use Rattle.document_report.specs.declared.printing.Output.{Output}
use Rattle.document_report.specs.declared.printing.Report.{Report}
use Rattle.document_report.specs.declared.sharing.Shares.{Shares}
use Rattle.document_report.specs.Parts.{IsLimited, IsOfFront, IsOfShare, IsReportOfParts, share_at}
use Rattle.document_report.proofs.PartLemmas.{counted-both}

-- one more, at the place behind the others
pub one-more : {A : Type 0} (says : ℕ → A → Type 0) (xs : List (Option A)) (x : Option A)
    → ((place : ℕ) → IfSome (get_or xs place None) (says place)) → IfSome x (says (length xs))
    → (place : ℕ) → IfSome (get_or (xs ++ x ∷ []) place None) (says place)
one-more says [] x all one zero = one
one-more says [] x all one (suc place) = tt
one-more says (y ∷ xs) x all one zero = all zero
one-more says (y ∷ xs) x all one (suc place) =
    one-more (λ n. says (suc n)) xs x (λ n. all (suc n)) one place

-- one that is put at a place
pub one-put : {A : Type 0} (says : ℕ → A → Type 0) (xs : List (Option A)) (x : A) (at : ℕ)
    → ((place : ℕ) → IfSome (get_or xs place None) (says place)) → says at x
    → (place : ℕ) → IfSome (get_or (slice_set xs at (Some x)) place None) (says place)
one-put says [] x at all one place = all place
one-put says (y ∷ xs) x zero all one zero = one
one-put says (y ∷ xs) x zero all one (suc place) = all (suc place)
one-put says (y ∷ xs) x (suc at) all one zero = all zero
one-put says (y ∷ xs) x (suc at) all one (suc place) =
    one-put (λ n. says (suc n)) xs x at (λ n. all (suc n)) one place

take-add : {A : Type 0} (n m : ℕ) (xs : List A) → take (n + m) xs ≡ take n xs ++ take m (drop n xs)
take-add {A} zero m xs =
    let sum : 0 + m ≡ m = omega arith in
    ap (λ k. take k xs) sum
take-add {A} (suc n) m [] = grind (arith, common_steps)
take-add {A} (suc n) m (x ∷ xs) =
    let sum : suc n + m ≡ suc (n + m) = omega arith in
    ap (λ k. take k (x ∷ xs)) sum ∙ ap (λ rest. x ∷ rest) (take-add n m xs)

take-le : {A : Type 0} (n : ℕ) (xs : List A) → length (take n xs) ≤ length xs
take-le n xs = grind (arith, common_steps)

drop-le : {A : Type 0} (n : ℕ) (xs : List A) → length (drop n xs) ≤ length xs
drop-le n xs = grind (arith, common_steps)

taken : {A : Type 0} (n : ℕ) (xs : List A) → n < length xs → length (take n xs) ≡ n
taken n xs inside = grind (arith, common_steps, inside)

module _ (output : Output) (lexicon : Lexicon) (shares : Shares) (place : ℕ)
    (inside : shares.size * place < length shares.part.paragraphs.now) {earlier later : Report}
    (one : IsOfFront output lexicon shares place earlier)
    (other : IsOfShare output lexicon shares place later) where
  abbrev texts : List (Bor (List ℕ))
  texts = shares.part.paragraphs.now

  abbrev front : List (Bor (List ℕ))
  front = take (shares.size * place) texts

  pub room : IsLimited shares.part → earlier.words + later.words < 2 ^ 64
  room limited = omega (
    arith,
    one.few,
    other.few,
    limited.0,
    take-le (shares.size * place) texts,
    take-le shares.size (drop (shares.size * place) texts),
    drop-le (shares.size * place) texts,
  )

  more : take (shares.size * (place + 1)) texts ≡ front ++ share_at shares.size place texts
  more =
      let sum : shares.size * (place + 1) ≡ shares.size * place + shares.size = omega arith in
      ap (λ n. take n texts) sum ∙ take-add (shares.size * place) shares.size texts

  pub one-share-more : {all : Report}
      → string_bytes all.text ≡ string_bytes earlier.text ++ string_bytes later.text
      → all.marks ≡ earlier.marks + later.marks → all.words ≡ earlier.words + later.words
      → IsOfFront output lexicon shares (place + 1) all
  one-share-more {all} text marks words =
      let count = taken (shares.size * place) texts inside in
      let back = share_at shares.size place texts in
      let behind : IsReportOfParts output lexicon (shares.part.first + length front) back later =
      rw count other in
      rw more (counted-both shares.part.first front back output lexicon {earlier = earlier}
      {later = later} {all = all} one
      behind text marks words)

-- what each item of one list was ready for, each of the other one has done
pub all-done : {X : Type 0} (Ready Done : X → Type 0) (Does : X → X → Type 0) (xs ys : List X)
    → ((x y : X) → Ready x → Does x y → Done y) → All Ready xs → AllZip Does xs ys → All Done ys
all-done Ready Done Does [] [] gives ready zips place d less = absurd (omega (arith, less))
all-done Ready Done Does [] (y ∷ ys) gives ready zips place d less = absurd zips
all-done Ready Done Does (x ∷ xs) [] gives ready zips place d less = absurd zips
all-done Ready Done Does (x ∷ xs) (y ∷ ys) gives ready zips zero d less =
    let first : 0 < length (x ∷ xs) = omega arith in gives x y (ready 0 x first) zips.0
all-done Ready Done Does (x ∷ xs) (y ∷ ys) gives ready zips (suc place) d less =
    all-done Ready Done Does xs ys gives
    (λ at other inside. ready (suc at) other (omega (arith, inside))) zips.1 place d
    (omega (arith, less))
