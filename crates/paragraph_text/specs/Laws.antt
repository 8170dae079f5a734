-- Laws of where a paragraph stands, and of which change an edit is, that the proofs of crates above
-- cite too.
use Rattle.std.proofs.Common.{◌≡◌, ◌∙◌, refl, sym, ap, subst, ℕ, zero, suc, ◌+◌, ◌<◌, ◌≤◌, ◌==◌}
use Rattle.std.proofs.Common.{Bool, true, false, cond, not, List, [], ◌∷◌, ◌++◌, append-nil, length}
use Rattle.std.proofs.Common.{take, drop, ltb, position, find, get_or, slice_get, Option, None}
use Rattle.std.proofs.Common.{Some, arith}
use Rattle.std.specs.List.{AllByRecursion, insert, position_or_len, remove}
use Rattle.std.specs.Option.{option_map}
use Rattle.std.proofs.Math.Seq.{drop-append_seam, set-append_seam, take-append_seam}
use Rattle.std.proofs.lemmas.Bool.{eqb-true, eq-eqb, false≢true, ltb-false, lt-ltb, ne_eqb}
use Rattle.std.proofs.lemmas.List.Edits.{insert_end}
use Rattle.std.proofs.lemmas.List.Elements.{All-from_recursion, recursion_from_All}
use Rattle.std.proofs.lemmas.List.Folds.{find_at}
use Rattle.std.proofs.lemmas.List.Quantifiers.{position-Some}
use Rattle.std.proofs.lemmas.List.Sums.{prefix_len_passes}
use Rattle.std.proofs.lemmas.Option.{cond_some, none-some, get_or_from_slice_get, same_Some}
use Rattle.std.proofs.lemmas.Option.{slice_get_past, slice_get_within, slice_get-get_or}
use Rattle.text_lines.specs.lists.Changes.{SetAt, InsertAt, RemoveAt}
use Rattle.paragraph_text.specs.Paragraphs.{Paragraph, HaveOwnIds, HasNoBreak, numbered_from}
use Rattle.paragraph_text.specs.Edits.{Applies, BeginsWith, IsChanged, IsFoundAt, place_of, spliced}
use Rattle.paragraph_text.specs.declared.edits.Edit.{Edit}
use Rattle.paragraph_text.specs.declared.edits.Edit.TheVariants.{Insert, Remove, Replace}

-- where the first item that passes stands, and what is found
pub position-is : {X : Type 0} (p : X → Bool) (xs : List X) (k : ℕ)
    → position_or_len p xs ≡ k → k < length xs → position p xs ≡ Some k
position-is p xs k is within = rw (is, lt-ltb k (length xs) within) refl

pub position-none : {X : Type 0} (p : X → Bool) (xs : List X) → position p xs ≡ None
    → length xs ≤ position_or_len p xs
position-none p xs is = ltb-false _ _ (by (ltb (position_or_len p xs) (length xs)) is)
  where
    by : (b : Bool) → cond b (Some (position_or_len p xs)) None ≡ None → b ≡ false
    by true is = cc
    by false is = refl

pub found-none : {X : Type 0} (p : X → Bool) (xs : List X) → position p xs ≡ None → find p xs ≡ None
found-none p xs is = find_at p xs ∙ slice_get_past xs (position_or_len p xs) (position-none p xs is)

pub found-some : {X : Type 0} (p : X → Bool) (xs : List X) (k : ℕ) → position p xs ≡ Some k
    → find p xs ≡ slice_get xs k
found-some p xs k is = find_at p xs ∙ ap (slice_get xs) (cond_some _ _ k is).1

-- what holds of each item holds of the one at a place
pub each-at : {X : Type 0} (P : X → Type 0) (xs : List X) (k : ℕ) (x : X)
    → AllByRecursion P xs → slice_get xs k ≡ Some x → P x
each-at P xs k x each at =
    subst P (get_or_from_slice_get xs k x x at)
    (All-from_recursion P xs each k x (slice_get_within xs k x at))

-- where no id stands twice, a paragraph stands at the place of its id
own-counted : (rows : List Paragraph) (k : ℕ) (paragraph : Paragraph) → HaveOwnIds rows
    → slice_get rows k ≡ Some paragraph → position_or_len (λ (p : Paragraph). p.id == paragraph.id)
    rows ≡ k
own-counted [] k paragraph own at = cc
own-counted (first ∷ others) zero paragraph own at =
    rw (eq-eqb first.id paragraph.id (ap (λ p. p.id) (same_Some first paragraph at))) refl
own-counted (first ∷ others) (suc k) paragraph own at =
    let other = each-at (λ p. ¬ (p.id ≡ first.id)) others k paragraph own.0 at in
    rw (
      ne_eqb first.id paragraph.id (λ same. other (sym same)),
      own-counted others k paragraph own.1 at,
    ) (omega arith)

pub own-placed : (rows : List Paragraph) (k : ℕ) (paragraph : Paragraph) → HaveOwnIds rows
    → slice_get rows k ≡ Some paragraph → place_of paragraph.id rows ≡ Some k
own-placed rows k paragraph own at =
    position-is (λ (p : Paragraph). p.id == paragraph.id) rows k
    (own-counted rows k paragraph own at)
    (slice_get_within rows k paragraph at)

-- what stands at the place of an id is what the id names, and has it
pub found-at : (rows : List Paragraph) (id k : ℕ) (paragraph : Paragraph)
    → place_of id rows ≡ Some k
    → slice_get rows k ≡ Some paragraph → IsFoundAt rows id k paragraph
found-at rows id k paragraph place at = record {
  place_is = place;
  inside = slice_get_within rows k paragraph at;
  at = at;
  found = found-some (λ (p : Paragraph). p.id == id) rows k place ∙ at;
}

pub found-id : {rows : List Paragraph} {id k : ℕ} {paragraph : Paragraph}
    → IsFoundAt rows id k paragraph
    → paragraph.id ≡ id
found-id {rows} {id} {k} {paragraph} here =
    eqb-true paragraph.id id
    (subst (λ (p : Paragraph). (p.id == id) ≡ true)
    (get_or_from_slice_get rows k paragraph paragraph here.at)
    (position-Some (λ (p : Paragraph). p.id == id) rows k paragraph here.place_is).1)

-- where there is a place, a paragraph stands there
pub some-at : (rows : List Paragraph) (id k : ℕ) → place_of id rows ≡ Some k
    → (paragraph : Paragraph) × IsFoundAt rows id k paragraph
some-at [] id k place = absurd (none-some k place)
some-at (first ∷ others) id k place =
    let within = (position-Some (λ (p : Paragraph). p.id == id) (first ∷ others) k first place).0 in
    (_, found-at (first ∷ others) id k _ place (slice_get-get_or (first ∷ others) k first within))

-- a paragraph behind a front is found behind as many as the front has
get-seam : {X : Type 0} (front : List X) (x : X) (rest : List X)
    → slice_get (front ++ x ∷ rest) (length front) ≡ Some x
get-seam [] x rest = refl
get-seam (y ∷ front) x rest = get-seam front x rest

pub stands-in : {rows : List Paragraph} (id : ℕ) (front : List Paragraph) (touched : Paragraph)
    (rest : List Paragraph)
    → HaveOwnIds rows → rows ≡ front ++ touched ∷ rest → touched.id ≡ id
    → IsFoundAt rows id (length front) touched
stands-in {rows} id front touched rest own is named =
    let at : slice_get rows (length front) ≡ Some touched =
    ap (λ ps. slice_get ps (length front)) is ∙ get-seam front touched rest in
    found-at rows id (length front) touched
    (subst (λ n. place_of n rows ≡ Some (length front)) named
    (own-placed rows (length front) touched own at)) at

-- ---- an edit is one change

pub remove-seam : {X : Type 0} (front : List X) (x : X) (rest : List X)
    → remove (front ++ x ∷ rest) (length front) ≡ front ++ rest
remove-seam [] x rest = refl
remove-seam (y ∷ front) x rest = ap (λ zs. y ∷ zs) (remove-seam front x rest)

pub insert-seam : {X : Type 0} (front : List X) (x : X) (rest : List X)
    → insert (front ++ rest) (length front) x ≡ front ++ x ∷ rest
insert-seam front x rest = rw (take-append_seam, drop-append_seam) refl

-- what a rest begins with stands behind its front
pub begun-at : {rows : List Paragraph} (id : ℕ) (front rest : List Paragraph) → HaveOwnIds rows
    → rows ≡ front ++ rest
    → BeginsWith (Some id) rest → (first : Paragraph) × IsFoundAt rows id (length front) first
begun-at id front [] own is begins = absurd begins
begun-at id front (first ∷ others) own is begins =
    (first, stands-in id front first others own is begins)

unfoldable pub changes : (version next_id : ℕ) (paragraphs after : List Paragraph) (edit : Edit)
    → HaveOwnIds paragraphs
    → Applies version next_id paragraphs edit after → IsChanged paragraphs edit after
changes version next_id paragraphs after (Replace id rev from to text) own made = record {
  change = SetAt (length made.front);
  touched = record { id = id; rev = version; text = spliced made.touched.text from to text };
  change_is =
      ap (option_map (λ place. SetAt place))
      (stands-in id made.front made.touched made.rest own made.before_is made.named).place_is;
  after_is = made.after_is ∙ rw (made.before_is, set-append_seam) refl;
}
changes version next_id paragraphs after (Insert None text) own made = record {
  change = InsertAt (length paragraphs);
  touched = record { id = next_id; rev = version; text = text };
  change_is = refl;
  after_is = made.after_is ∙ rw (made.before_is, made.begins, append-nil, insert_end) refl;
}
changes version next_id paragraphs after (Insert (Some id) text) own made = record {
  change = InsertAt (length made.front);
  touched = record { id = next_id; rev = version; text = text };
  change_is =
      ap (option_map (λ place. InsertAt place))
      (begun-at id made.front made.rest own made.before_is made.begins).1.place_is;
  after_is = made.after_is ∙ rw (made.before_is, insert-seam) refl;
}
changes version next_id paragraphs after (Remove id rev) own made = record {
  change = RemoveAt (length made.front);
  touched = made.touched;
  change_is =
      ap (option_map (λ place. RemoveAt place))
      (stands-in id made.front made.touched made.rest own made.before_is made.named).place_is;
  after_is = made.after_is ∙ rw (made.before_is, remove-seam) refl;
}

-- a list is what stands before an item, the item, and what stands behind it
pub split-at : {X : Type 0} (xs : List X) (k : ℕ) (x : X) → slice_get xs k ≡ Some x
    → xs ≡ take k xs ++ x ∷ drop (suc k) xs
split-at [] k x is = cc
split-at (y ∷ xs) zero x is =
    let same : y ≡ x = cc in
    ap (λ z. z ∷ xs) same
split-at (y ∷ xs) (suc k) x is = ap (λ zs. y ∷ zs) (split-at xs k x is)

-- where no line feed is found there is none
pub no-break : (text : List ℕ) → position (λ byte. byte == 10) text ≡ None → HasNoBreak text
no-break text is =
    recursion_from_All (λ byte. ¬ (byte ≡ 10)) text (λ k d within. other (get_or text k d)
    (prefix_len_passes (λ byte. not (byte == 10)) text k d
    (omega (arith, within, position-none (λ byte. byte == 10) text is))))
  where
    other : (byte : ℕ) → not (byte == 10) ≡ true → ¬ (byte ≡ 10)
    other byte passes is = false≢true (sym (ap not (eq-eqb byte 10 is)) ∙ passes)

-- as many paragraphs are numbered as there are texts
pub numbered-length : (id : ℕ) (texts : List (List ℕ))
    → length (numbered_from id texts) ≡ length texts
numbered-length id [] = refl
numbered-length id (text ∷ texts) = ap suc (numbered-length (id + 1) texts)
