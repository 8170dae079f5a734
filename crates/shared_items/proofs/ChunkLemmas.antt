-- Chunks of a list: where an item stands, and what an edit of one chunk makes of the list.
use Rattle.std.proofs.Common.{◌≡◌, ◌∙◌, refl, sym, ap, ℕ, zero, suc, ◌+◌, ◌<◌, ◌≤◌, true, false}
use Rattle.std.proofs.Common.{List, [], ◌∷◌, ◌++◌, length, take, drop, get_or, slice_get, Option}
use Rattle.std.proofs.Common.{None, Some, Bor, Result, Ok, Err, IfOk, OnOk, set, leb, append-nil}
use Rattle.std.proofs.Common.{append_assoc, length-append, arith, ◌⊎◌, inl, inr, add-one}
use Rattle.std.specs.Option.{option_copied}
use Rattle.std.specs.Slice.{IsItemAt}
use Rattle.std.specs.List.{insert, remove}
use Rattle.std.specs.List.Sorted.{IsNonDecreasingBy, IsPartitionPoint}
use Rattle.std.proofs.lemmas.Bool.{cases_lt}
use Rattle.std.proofs.lemmas.Option.{slice_get-get_or}
use Rattle.std.proofs.lemmas.Bool.Decides.{nat_tests}
use Rattle.std.proofs.lemmas.List.{take_more, take-take, take-append-drop, take_all, drop_more}
use Rattle.std.proofs.lemmas.List.{set-append_left, set-append_right, drop-drop, get_or-append-add}
use Rattle.std.proofs.lemmas.List.{get_or_append_left}
use Rattle.std.proofs.lemmas.List.Concat.{flat_map-append}
use Rattle.std.proofs.lemmas.List.Edits.{insert-append_left, insert-append_right}
use Rattle.std.proofs.lemmas.List.Edits.{remove-append_left, remove-append_right}
use Rattle.shared_items.specs.declared.Counted.{Counted}
use Rattle.shared_items.specs.Chunks.{items_of, AreCounted, HasItem, chunk_at}

pub items-append : {T : Type 0} (xs ys : List (Counted T)) → items_of (xs ++ ys) ≡ items_of xs
    ++ items_of ys
items-append xs ys = flat_map-append (λ counted. counted.chunk) xs ys

-- one chunk more
pub items_more : {T : Type 0} (chunks : List (Counted T)) (k : ℕ) (d : Counted T)
    → k < length chunks → items_of (take (k + 1) chunks) ≡ items_of (take k chunks)
    ++ (get_or chunks k d).chunk
items_more chunks k d within =
    ap items_of (take_more chunks k d within)
    ∙ items-append (take k chunks) (get_or chunks k d ∷ [])
    ∙ ap (λ xs. items_of (take k chunks) ++ xs) (append-nil (get_or chunks k d).chunk)

pub chunk_is : {T : Type 0} (chunks : List (Counted T)) (k : ℕ) (d : Counted T) → k < length chunks
    → chunk_at chunks k ≡ (get_or chunks k d).chunk
chunk_is chunks k d within = ap (λ xs. items_of (take 1 xs)) (drop_more chunks k d within)
    ∙ append-nil (get_or chunks k d).chunk

-- fewer chunks have no more items
grows : {T : Type 0} (chunks : List (Counted T)) (m n : ℕ) → m ≤ n
    → length (items_of (take m chunks)) ≤ length (items_of (take n chunks))
grows chunks m n below =
    let front : items_of (take m (take n chunks)) ≡ items_of (take m chunks) =
    ap items_of (take-take m n chunks below) in
    let all : items_of (take m (take n chunks)) ++ items_of (drop m (take n chunks))
    ≡ items_of (take n chunks) =
    sym (items-append (take m (take n chunks)) (drop m (take n chunks)))
    ∙ ap items_of (take-append-drop m (take n chunks)) in
    omega (
      arith,
      ap length front,
      ap length all,
      length-append (items_of (take m (take n chunks)))
          (items_of (drop m (take n chunks))),
    )

pub ends_rise : {T : Type 0} (chunks : List (Counted T)) → AreCounted chunks
    → IsNonDecreasingBy (λ counted. counted.end) chunks
ends_rise chunks counted = λ i j d upto within.
    let first : (get_or chunks i d).end ≡ length (items_of (take (i + 1) chunks)) =
    counted i d (omega (arith, upto, within)) in
    let last : (get_or chunks j d).end ≡ length (items_of (take (j + 1) chunks)) =
    counted j d within in
    let rise : length (items_of (take (i + 1) chunks)) ≤ length (items_of (take (j + 1) chunks)) =
    grows chunks (i + 1) (j + 1) (omega (arith, upto)) in
    omega (arith, first, last, rise)

-- the chunk found by halves is the one that has the item
pub found : {T : Type 0} (chunks : List (Counted T)) (place index : ℕ) → AreCounted chunks
    → place < length (items_of chunks) → index ≤ length chunks
    → IsPartitionPoint (λ y. leb y.end place ≡ true) (λ y. leb y.end place ≡ false) chunks index
    → HasItem chunks place index
found [] place index counted inside upto point = absurd (omega (arith, inside))
found {T} (c ∷ cs) place index counted inside upto point =
    let chunk : index < length (c ∷ cs) = within (cases_lt index (length (c ∷ cs))) in
    record {
      chunk = chunk;
      after = after index refl;
      before = omega (
        arith,
        leb_false (get_or (c ∷ cs) index c).end (point.1 index c (omega arith) chunk),
        counted index c chunk,
      );
    }
  where
    leb_true : (a : ℕ) → leb a place ≡ true → a ≤ place
    leb_true a is = grind (arith, nat_tests)

    leb_false : (a : ℕ) → leb a place ≡ false → place < a
    leb_false a is = grind (arith, nat_tests)

    -- the items up to a chunk that ends no later
    ends : (k : ℕ) → k < length (c ∷ cs) → k < index
        → length (items_of (take (k + 1) (c ∷ cs))) ≤ place
    ends k short below =
        omega (
          arith,
          counted k c short,
          leb_true (get_or (c ∷ cs) k c).end (point.0 k c (omega arith) below),
        )

    within : (index < length (c ∷ cs)) ⊎ (length (c ∷ cs) ≤ index) → index < length (c ∷ cs)
    within (inl short) = short
    within (inr long) =
        let all : items_of (take (length cs + 1) (c ∷ cs)) ≡ items_of (c ∷ cs) =
        ap items_of (take_all (length cs + 1) (c ∷ cs) (omega arith)) in
        absurd (omega
        (arith, ends (length cs) (omega arith) (omega (arith, long)), ap length all, inside))

    after : (i : ℕ) → i ≡ index → length (items_of (take i (c ∷ cs))) ≤ place
    after zero is = omega arith
    after (suc i) is =
        let one : items_of (take (i + 1) (c ∷ cs)) ≡ items_of (take (suc i) (c ∷ cs)) =
        ap (λ n. items_of (take n (c ∷ cs))) (add-one i) in
        omega (arith, ends i (omega (arith, is, upto)) (omega (arith, is)), ap length one)

-- where the item stands in that chunk
pub end_is : {T : Type 0} (chunks : List (Counted T)) (index : ℕ) (one : Counted T)
    → AreCounted chunks → index < length chunks → one ≡ get_or chunks index one
    → one.end ≡ length (items_of (take index chunks)) + length one.chunk
end_is chunks index one counted within is =
    ap (λ x. x.end) is ∙ counted index one within ∙ ap length (items_more chunks index one within)
    ∙ length-append (items_of (take index chunks)) (get_or chunks index one).chunk
    ∙ ap (λ x. length (items_of (take index chunks)) + length x.chunk) (sym is)

-- a list is the chunks before one, that chunk, and those behind it
pub parts : {T : Type 0} (chunks : List (Counted T)) (k : ℕ)
    → items_of chunks ≡ items_of (take k chunks)
    ++ (chunk_at chunks k ++ items_of (drop (k + 1) chunks))
parts chunks k =
    let behind : items_of (drop k chunks) ≡ chunk_at chunks k ++ items_of (drop (k + 1) chunks) =
    sym (ap items_of (take-append-drop 1 (drop k chunks)))
    ∙ items-append (take 1 (drop k chunks)) (drop 1 (drop k chunks))
    ∙ ap (λ xs. chunk_at chunks k ++ items_of xs) (drop-drop 1 k chunks) in
    sym (ap items_of (take-append-drop k chunks)) ∙ items-append (take k chunks) (drop k chunks)
    ∙ ap (λ xs. items_of (take k chunks) ++ xs) behind

-- an edit in one chunk is that edit of the list
pub replaced_in : {X : Type 0} (front chunk rest : List X) (place at : ℕ) (x : X)
    → place ≡ length front + at → at < length chunk → set (front ++ (chunk ++ rest)) place x ≡ front
    ++ set chunk at x ++ rest
replaced_in front chunk rest place at x is within =
    ap (λ n. set (front ++ (chunk ++ rest)) n x) is
    ∙ set-append_right front (chunk ++ rest) (length front) (length front + at) x refl
    (omega arith)
    ∙ ap (λ n. front ++ set (chunk ++ rest) n x) (omega arith)
    ∙ ap (λ xs. front ++ xs) (set-append_left chunk rest at x within)
    ∙ sym (append_assoc front (set chunk at x) rest)

pub inserted_in : {X : Type 0} (front chunk rest : List X) (place at : ℕ) (x : X)
    → place ≡ length front + at → at ≤ length chunk → insert (front ++ (chunk ++ rest)) place x
    ≡ front ++ insert chunk at x ++ rest
inserted_in front chunk rest place at x is within =
    ap (λ n. insert (front ++ (chunk ++ rest)) n x) is
    ∙ insert-append_right front (chunk ++ rest) (length front) (length front + at) x refl
    (omega arith)
    ∙ ap (λ n. front ++ insert (chunk ++ rest) n x) (omega arith)
    ∙ ap (λ xs. front ++ xs) (insert-append_left chunk rest at x within)
    ∙ sym (append_assoc front (insert chunk at x) rest)

pub removed_in : {X : Type 0} (front chunk rest : List X) (place at : ℕ) → place ≡ length front + at
    → at < length chunk → remove (front ++ (chunk ++ rest)) place ≡ front ++ remove chunk at ++ rest
removed_in front chunk rest place at is within =
    ap (remove (front ++ (chunk ++ rest))) is
    ∙ remove-append_right front (chunk ++ rest) (length front) (length front + at) refl
    (omega arith)
    ∙ ap (λ n. front ++ remove (chunk ++ rest) n) (omega arith)
    ∙ ap (λ xs. front ++ xs) (remove-append_left chunk rest at within)
    ∙ sym (append_assoc front (remove chunk at) rest)

-- the item at a place is the one at its place in its chunk
pub got : {X : Type 0} (front chunk rest : List X) (place at : ℕ) → place ≡ length front + at
    → at < length chunk → slice_get (front ++ (chunk ++ rest)) place ≡ slice_get chunk at
got front [] rest place at is within = absurd (omega (arith, within))
got front (c ∷ chunk) rest place at is within =
    slice_get-get_or (front ++ (c ∷ chunk ++ rest)) place c
    (omega (
      arith,
      is,
      within,
      length-append front (c ∷ chunk ++ rest),
      length-append (c ∷ chunk) rest,
    ))
    ∙ ap Some (ap (λ n. get_or (front ++ (c ∷ chunk ++ rest)) n c) is
    ∙ get_or-append-add front (c ∷ chunk ++ rest) at c
    ∙ get_or_append_left (c ∷ chunk) rest c at within)
    ∙ sym (slice_get-get_or (c ∷ chunk) at c within)

-- what an edit of the copies of one chunk makes of the whole list
pub replaced_list : {T : Type 0} (whole : List T) (chunks : List (Counted T)) (k place at : ℕ)
    (x : T) (copies changed : List T) → items_of chunks ≡ whole
    → place ≡ length (items_of (take k chunks)) + at → at < length (chunk_at chunks k)
    → copies ≡ chunk_at chunks k → changed ≡ set copies at x
    → items_of (take k chunks) ++ changed ++ items_of (drop (k + 1) chunks) ≡ set whole place x
replaced_list whole chunks k place at x copies changed is before within same edit =
    ap (λ xs. items_of (take k chunks) ++ xs ++ items_of (drop (k + 1) chunks))
    (edit ∙ ap (λ xs. set xs at x) same)
    ∙ sym (ap (λ xs. set xs place x) (sym is ∙ parts chunks k)
    ∙ replaced_in (items_of (take k chunks)) (chunk_at chunks k)
    (items_of (drop (k + 1) chunks)) place at x before within)

pub inserted_list : {T : Type 0} (whole : List T) (chunks : List (Counted T)) (k place at : ℕ)
    (x : T) (copies changed : List T) → items_of chunks ≡ whole
    → place ≡ length (items_of (take k chunks)) + at → at ≤ length (chunk_at chunks k)
    → copies ≡ chunk_at chunks k → changed ≡ insert copies at x
    → items_of (take k chunks) ++ changed ++ items_of (drop (k + 1) chunks) ≡ insert whole place x
inserted_list whole chunks k place at x copies changed is before within same edit =
    ap (λ xs. items_of (take k chunks) ++ xs ++ items_of (drop (k + 1) chunks))
    (edit ∙ ap (λ xs. insert xs at x) same)
    ∙ sym (ap (λ xs. insert xs place x) (sym is ∙ parts chunks k)
    ∙ inserted_in (items_of (take k chunks)) (chunk_at chunks k)
    (items_of (drop (k + 1) chunks)) place at x before within)

pub removed_list : {T : Type 0} (whole : List T) (chunks : List (Counted T)) (k place at : ℕ)
    (copies changed : List T) → items_of chunks ≡ whole
    → place ≡ length (items_of (take k chunks)) + at → at < length (chunk_at chunks k)
    → copies ≡ chunk_at chunks k → changed ≡ remove copies at
    → items_of (take k chunks) ++ changed ++ items_of (drop (k + 1) chunks) ≡ remove whole place
removed_list whole chunks k place at copies changed is before within same edit =
    ap (λ xs. items_of (take k chunks) ++ xs ++ items_of (drop (k + 1) chunks))
    (edit ∙ ap (λ xs. remove xs at) same)
    ∙ sym (ap (λ xs. remove xs place) (sym is ∙ parts chunks k)
    ∙ removed_in (items_of (take k chunks)) (chunk_at chunks k) (items_of (drop (k + 1) chunks))
    place at before within)

-- where one made list is the other one, so is the list that is made
pub ok_is : {T E : Type 0} (made : Result T E) (x y : T) → x ≡ y → IfOk made (λ m. m ≡ x)
    → IfOk made (λ m. m ≡ y)
ok_is (Ok m) x y same is = is ∙ same
ok_is (Err e) x y same is = tt

-- the same of what a call that may fail leaves
pub on_ok_is : {T E X : Type 0} (done : Result T E) (now x y : X) → x ≡ y → OnOk done (now ≡ x)
    → OnOk done (now ≡ y)
on_ok_is (Ok m) now x y same is = is ∙ same
on_ok_is (Err e) now x y same is = tt

-- what a slice gives at a place
pub item_is : {X : Type 0} (xs : List X) (place : ℕ) (item : Option (Bor X)) → place < length xs
    → IsItemAt xs place item → option_copied item ≡ slice_get xs place
item_is xs place None within item = absurd (omega (arith, within, item.3))
item_is xs place (Some x) within item =
    ap Some item.1 ∙ sym (slice_get-get_or xs place x.now within)
