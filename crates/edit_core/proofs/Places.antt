-- Where the paragraph with an id stands, and what is kept of each paragraph, place by place.
use Rattle.std.proofs.Common.{◌≡◌, ◌∙◌, refl, sym, ap, subst, ℕ, zero, suc, ◌+◌, Bool, true, false}
use Rattle.std.proofs.Common.{cond, not, List, [], ◌∷◌, length, set, position, slice_get, ltb}
use Rattle.std.proofs.Common.{None, Some, arith}
use Rattle.std.specs.List.{AllZip, insert, remove, position_or_len}
use Rattle.std.specs.Option.{option_map, option_map_or}
use Rattle.std.proofs.lemmas.Bool.Decides.{nat_tests}
use Rattle.paragraph_text.specs.Paragraphs.{Paragraph}
use Rattle.std.proofs.lemmas.Option.{none-some, same_Some}
use Rattle.mark_types.specs.lists.Changes.{Change, SetAt, InsertAt, RemoveAt, changed}
use Rattle.paragraph_text.specs.Edits.{IsChanged, kept_after}
use Rattle.paragraph_text.specs.declared.edits.Edit.{Edit}

-- ---- the first item that passes a test
lt-zero : (m : ℕ) → ltb 0 (suc m) ≡ true
lt-zero m = grind (arith, nat_tests)

lt-shift : (n m : ℕ) → ltb (1 + n) (suc m) ≡ ltb n m
lt-shift n m = grind (arith, nat_tests)

pub position-hit : {X : Type 0} (p : X → Bool) (x : X) (xs : List X) → p x ≡ true
    → position p (x ∷ xs) ≡ Some 0
position-hit p x xs is =
    let n = position_or_len p xs in
    ap (λ b. cond (ltb (cond (not b) (1 + n) 0) (suc (length xs))) (Some (cond (not b) (1 + n) 0))
    None) is
    ∙ ap (λ b. cond b (Some 0) None) (lt-zero (length xs))

pub position-miss : {X : Type 0} (p : X → Bool) (x : X) (xs : List X) → p x ≡ false
    → position p (x ∷ xs) ≡ option_map (λ n. suc n) (position p xs)
position-miss p x xs is =
    let n = position_or_len p xs in
    ap (λ b. cond (ltb (cond (not b) (1 + n) 0) (suc (length xs))) (Some (cond (not b) (1 + n) 0))
    None) is
    ∙ ap (λ b. cond b (Some (1 + n)) None) (lt-shift n (length xs)) ∙ by (ltb n (length xs)) n
  where
    one : (n : ℕ) → 1 + n ≡ suc n
    one n = omega arith

    by : (b : Bool) (n : ℕ)
        → cond b (Some (1 + n)) None ≡ option_map (λ k. suc k) (cond b (Some n) None)
    by true n = ap (λ k. Some k) (one n)
    by false n = refl

-- ---- what is kept of each paragraph is kept beside it
pub zip-set : {X Y : Type 0} (P : X → Y → Type 0) (xs : List X) (ys : List Y) (k : ℕ) (y : Y)
    → AllZip P xs ys → ((x : X) → slice_get xs k ≡ Some x → P x y) → AllZip P xs (set ys k y)
zip-set P [] [] k y all fits = all
zip-set P [] (w ∷ ys) k y all fits = absurd all
zip-set P (z ∷ xs) [] k y all fits = absurd all
zip-set P (z ∷ xs) (w ∷ ys) zero y all fits = (fits z refl, all.1)
zip-set P (z ∷ xs) (w ∷ ys) (suc k) y all fits = (all.0, zip-set P xs ys k y all.1 fits)

zip-both : {X Y : Type 0} (P : X → Y → Type 0) (xs : List X) (ys : List Y) (k : ℕ) (x : X) (y : Y)
    → P x y
    → AllZip P xs ys → AllZip P (set xs k x) (set ys k y)
zip-both P [] [] k x y fits all = all
zip-both P [] (w ∷ ys) k x y fits all = absurd all
zip-both P (z ∷ xs) [] k x y fits all = absurd all
zip-both P (z ∷ xs) (w ∷ ys) zero x y fits all = (fits, all.1)
zip-both P (z ∷ xs) (w ∷ ys) (suc k) x y fits all = (all.0, zip-both P xs ys k x y fits all.1)

zip-insert : {X Y : Type 0} (P : X → Y → Type 0) (xs : List X) (ys : List Y) (k : ℕ) (x : X) (y : Y)
    → P x y
    → AllZip P xs ys → AllZip P (insert xs k x) (insert ys k y)
zip-insert P xs ys zero x y fits all = (fits, all)
zip-insert P [] [] (suc k) x y fits all = (fits, all)
zip-insert P [] (w ∷ ys) (suc k) x y fits all = absurd all
zip-insert P (z ∷ xs) [] (suc k) x y fits all = absurd all
zip-insert P (z ∷ xs) (w ∷ ys) (suc k) x y fits all = (all.0, zip-insert P xs ys k x y fits all.1)

zip-remove : {X Y : Type 0} (P : X → Y → Type 0) (xs : List X) (ys : List Y) (k : ℕ)
    → AllZip P xs ys → AllZip P (remove xs k) (remove ys k)
zip-remove P [] [] zero all = all
zip-remove P [] [] (suc k) all = all
zip-remove P [] (w ∷ ys) k all = absurd all
zip-remove P (z ∷ xs) [] k all = absurd all
zip-remove P (z ∷ xs) (w ∷ ys) zero all = all.1
zip-remove P (z ∷ xs) (w ∷ ys) (suc k) all = (all.0, zip-remove P xs ys k all.1)

zip-changed : {X Y : Type 0} (P : X → Y → Type 0) (change : Change) (x : X) (y : Y) (xs : List X)
    (ys : List Y) → P x y
    → AllZip P xs ys → AllZip P (changed change x xs) (changed change y ys)
zip-changed P (SetAt k) x y xs ys fits all = zip-both P xs ys k x y fits all
zip-changed P (InsertAt k) x y xs ys fits all = zip-insert P xs ys k x y fits all
zip-changed P (RemoveAt k) x y xs ys fits all = zip-remove P xs ys k all

-- behind an edit what is kept of each paragraph stands beside it still
pub edit-zip : {X : Type 0} (P : Paragraph → X → Type 0) (new : X)
    {paragraphs after : List Paragraph} (kept : List X) {edit : Edit}
    → ((paragraph : Paragraph) → P paragraph new) → IsChanged paragraphs edit after
    → AllZip P paragraphs kept
    → AllZip P after (kept_after new paragraphs kept edit)
edit-zip P new {paragraphs} {after} kept {edit} fits is all =
    subst (λ xs. AllZip P xs (kept_after new paragraphs kept edit)) (sym is.after_is)
    (subst (λ o. AllZip P (changed is.change is.touched paragraphs)
    (option_map_or (λ c. changed c new kept) o kept)) (sym is.change_is)
    (zip-changed P is.change is.touched new paragraphs kept (fits is.touched) all))

-- two lists are as long as each other where something holds of all
pub zip-of-length : {X Y : Type 0} (xs : List X) (ys : List Y) → length ys ≡ length xs
    → AllZip (λ _ _. Unit {0}) xs ys
zip-of-length [] [] long = tt
zip-of-length [] (w ∷ ys) long = absurd (omega (arith, long))
zip-of-length (z ∷ xs) [] long = absurd (omega (arith, long))
zip-of-length (z ∷ xs) (w ∷ ys) long =
    let fewer : length ys ≡ length xs = omega (arith, long) in
    (tt, zip-of-length xs ys fewer)

pub length-of-zip : {X Y : Type 0} (P : X → Y → Type 0) (xs : List X) (ys : List Y) → AllZip P xs ys
    → length ys ≡ length xs
length-of-zip P [] [] all = refl
length-of-zip P [] (w ∷ ys) all = absurd all
length-of-zip P (z ∷ xs) [] all = absurd all
length-of-zip P (z ∷ xs) (w ∷ ys) all = ap (λ n. suc n) (length-of-zip P xs ys all.1)

-- what holds place by place holds at one
pub zip-at : {X Y : Type 0} (P : X → Y → Type 0) (xs : List X) (ys : List Y) (k : ℕ) (x : X) (y : Y)
    → AllZip P xs ys → slice_get xs k ≡ Some x → slice_get ys k ≡ Some y → P x y
zip-at P [] ys k x y all at beside = absurd (none-some x at)
zip-at P (z ∷ xs) [] k x y all at beside = absurd all
zip-at P (z ∷ xs) (w ∷ ys) zero x y all at beside =
    subst (λ v. P x v) (same_Some w y beside) (subst (λ v. P v w) (same_Some z x at) all.0)
zip-at P (z ∷ xs) (w ∷ ys) (suc k) x y all at beside = zip-at P xs ys k x y all.1 at beside
