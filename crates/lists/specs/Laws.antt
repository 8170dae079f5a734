-- Laws of lists, options and texts that the proofs of several crates cite, and that std has under
-- no name.
use Rattle.std.proofs.Common.{◌≡◌, ℕ, zero, suc, ◌+◌, ◌-◌, ◌<◌, Bool, true, false, cond, List, []}
use Rattle.std.proofs.Common.{◌∷◌, ◌++◌, length, map, take, drop, slice_get, arith, length-drop}
use Rattle.std.proofs.Common.{Contains, Option, None, Some, refl, sym, ap, subst, ◌∙◌}
use Rattle.std.proofs.Common.{encode_utf8_all}
use Rattle.std.specs.List.{AllByRecursion, filter, flat_map, insert, list_any, range_with_len}
use Rattle.std.specs.List.{remove}
use Rattle.std.specs.List.Sorted.{IsStrictlySortedBy}
use Rattle.std.specs.Ordering.{nat_cmp}
use Rattle.std.specs.declared.cmp.Ordering.TheVariants.{Less}
use Rattle.std.specs.Char.{len_utf8}
use Rattle.std.specs.Option.{option_or}
use Rattle.std.proofs.Common.{le_of_suc-le-suc, not-suc-le-zero, zero-add, zero-lt-suc}
use Rattle.std.proofs.Common.{length-append, map-id}
use Rattle.std.proofs.Math.Seq.{take-append_seam}
use Rattle.std.proofs.lemmas.Bool.{or_left, or_right}
use Rattle.std.proofs.lemmas.Bool.Decides.{nat_tests}
use Rattle.std.proofs.lemmas.Option.{same_Some}
use Rattle.std.proofs.lemmas.List.{map-set, take_all}
use Rattle.std.proofs.lemmas.List.Folds.{list_any_at}
use Rattle.std.proofs.lemmas.List.Elements.{Contains-append_left, Contains-append_right}
use Rattle.std.proofs.lemmas.List.Elements.{All-contains, All-contains_itself, All-filter}
use Rattle.std.proofs.lemmas.List.Elements.{filter_passes}
use Rattle.std.proofs.lemmas.List.FromFn.{length-range_with_len, get_or-range_with_len}
use Rattle.std.proofs.lemmas.List.FromFn.{map-range_with_len_more}
use Rattle.std.proofs.lemmas.Str.{encodes-append, length-encode}
use lib.Utf8.{encode}
use Rattle.lists.specs.Changes.{Change, SetAt, InsertAt, RemoveAt, changed}

-- what holds of each item of two lists holds of each of both
pub each-append : {X : Type 0} (P : X → Type 0) (xs ys : List X) → AllByRecursion P xs
    → AllByRecursion P ys → AllByRecursion P (xs ++ ys)
each-append P [] ys front back = back
each-append P (x ∷ xs) ys front back = (front.0, each-append P xs ys front.1 back)

-- what holds of each item holds of it weakened
pub each-weaker : {X : Type 0} (P Q : X → Type 0) → ((x : X) → P x → Q x) → (xs : List X)
    → AllByRecursion P xs → AllByRecursion Q xs
each-weaker P Q weaker [] each = tt
each-weaker P Q weaker (x ∷ xs) each = (weaker x each.0, each-weaker P Q weaker xs each.1)

-- what holds of each item of two lists holds of each of the first, and what holds of each holds of
-- one between others
pub each-front : {X : Type 0} (P : X → Type 0) (xs ys : List X) → AllByRecursion P (xs ++ ys)
    → AllByRecursion P xs
each-front P [] ys each = tt
each-front P (x ∷ xs) ys each = (each.0, each-front P xs ys each.1)

pub each-middle : {X : Type 0} (P : X → Type 0) (front : List X) (x : X) (rest : List X)
    → AllByRecursion P (front ++ x ∷ rest) → P x
each-middle P [] x rest each = each.0
each-middle P (y ∷ front) x rest each = each-middle P front x rest each.1

-- what holds of what is made of each item holds of each that is made
pub each-map : {X Y : Type 0} (P : Y → Type 0) (f : X → Y) (xs : List X)
    → AllByRecursion (λ x. P (f x)) xs → AllByRecursion P (map f xs)
each-map P f [] each = tt
each-map P f (x ∷ xs) each = (each.0, each-map P f xs each.1)

pub each-flat_map : {X Y : Type 0} (P : Y → Type 0) (f : X → List Y) (xs : List X)
    → AllByRecursion (λ x. AllByRecursion P (f x)) xs → AllByRecursion P (flat_map f xs)
each-flat_map P f [] each = tt
each-flat_map P f (x ∷ xs) each =
    each-append P (f x) (flat_map f xs) each.0 (each-flat_map P f xs each.1)

-- the first of two that is there: where the second is not, it is the first
pub or-none : {X : Type 0} (found : Option X) → option_or found None ≡ found
or-none None = refl
or-none (Some found) = refl

-- the first of three that is there
pub or-assoc : {X : Type 0} (a b c : Option X)
    → option_or a (option_or b c) ≡ option_or (option_or a b) c
or-assoc None b c = refl
or-assoc (Some a) b c = refl

-- the first item is in a list, and so is each later one
pub contains-head : {X : Type 0} (x : X) (xs : List X) → Contains (x ∷ xs) x
contains-head x xs = Contains-append_left (x ∷ []) xs x (0, zero-lt-suc 0, refl)

pub contains-tail : {X : Type 0} (y x : X) (xs : List X) → Contains xs x → Contains (y ∷ xs) x
contains-tail y x xs inside = Contains-append_right (y ∷ []) xs x inside

-- what is made of each item has what is made of one
pub contains-map : {X Y : Type 0} (f : X → Y) (xs : List X) (x : X) → Contains xs x
    → Contains (map f xs) (f x)
contains-map f [] x (k, within, at) = absurd (not-suc-le-zero within)
contains-map f (y ∷ xs) x (zero, within, at) =
    subst (λ z. Contains (f y ∷ map f xs) (f z)) at (contains-head (f y) (map f xs))
contains-map f (y ∷ xs) x (suc k, within, at) =
    contains-tail (f y) (f x) (map f xs) (contains-map f xs x (k, le_of_suc-le-suc within, at))

pub contains-flat_map : {X Y : Type 0} (f : X → List Y) (xs : List X) (x : X) (y : Y)
    → Contains xs x → Contains (f x) y → Contains (flat_map f xs) y
contains-flat_map f [] x y (k, within, at) inside = absurd (not-suc-le-zero within)
contains-flat_map f (z ∷ xs) x y (zero, within, at) inside =
    Contains-append_left (f z) (flat_map f xs) y (subst (λ w. Contains (f w) y) (sym at) inside)
contains-flat_map f (z ∷ xs) x y (suc k, within, at) inside =
    Contains-append_right (f z) (flat_map f xs) y
    (contains-flat_map f xs x y (k, le_of_suc-le-suc within, at) inside)

-- nothing is in a list that is empty
pub contains-none : {X : Type 0} (xs : List X) (x : X) → xs ≡ [] → Contains xs x → ⊥
contains-none xs x none (k, within, at) = omega (arith, within, ap length none)

-- an item that passes a test stays
pub contains-filter : {X : Type 0} (test : X → Bool) (xs : List X) (x : X) → Contains xs x
    → test x ≡ true → Contains (filter test xs) x
contains-filter test [] x (k, within, at) passes = absurd (not-suc-le-zero within)
contains-filter test (y ∷ xs) x (zero, within, at) passes =
    subst (λ b. Contains (cond b (y ∷ filter test xs) (filter test xs)) x)
    (sym (ap test at ∙ passes))
    (subst (Contains (y ∷ filter test xs)) at (contains-head y (filter test xs)))
contains-filter test (y ∷ xs) x (suc k, within, at) passes =
    more (test y) (contains-filter test xs x (k, le_of_suc-le-suc within, at) passes)
  where
    more : (b : Bool) → Contains (filter test xs) x
        → Contains (cond b (y ∷ filter test xs) (filter test xs)) x
    more true inside = contains-tail y x (filter test xs) inside
    more false inside = inside

-- what stays of a filter was there, and passes its test
pub filter-among : {X : Type 0} (test : X → Bool) (xs : List X) (x : X)
    → Contains (filter test xs) x → Contains xs x
filter-among test xs x =
    All-contains (Contains xs) (filter test xs) x
    (All-filter test (Contains xs) xs (All-contains_itself xs))

pub filter-holds : {X : Type 0} (test : X → Bool) (xs : List X) (x : X)
    → Contains (filter test xs) x → test x ≡ true
filter-holds test xs x =
    All-contains (λ y. test y ≡ true) (filter test xs) x (filter_passes test xs)

-- a test that an item passes is passed by some item, whether the item is known by its list or by
-- its place
pub any-contains : {X : Type 0} (test : X → Bool) (xs : List X) (x : X) → Contains xs x
    → test x ≡ true → list_any test xs ≡ true
any-contains test xs x (k, within, at) passes = list_any_at test xs k x within (ap test at ∙ passes)

pub any-at : {X : Type 0} (test : X → Bool) (xs : List X) (place : ℕ) (x : X)
    → slice_get xs place ≡ Some x → test x ≡ true
    → list_any test xs ≡ true
any-at test [] place x at passes = absurd cc
any-at test (y ∷ xs) zero x at passes =
    or_left (test y) (list_any test xs) (ap test (same_Some y x at) ∙ passes)
any-at test (y ∷ xs) (suc place) x at passes =
    or_right (test y) (list_any test xs) (any-at test xs place x at passes)

-- the numbers below another one
pub contains-range : (count place : ℕ) → place < count → Contains (range_with_len 0 count) place
contains-range count place below = (
  place,
  subst (λ long. place < long) (sym (length-range_with_len 0 count)) below,
  get_or-range_with_len 0 count place place below ∙ zero-add place,
)

pub range_more : (count : ℕ) → range_with_len 0 (count + 1) ≡ range_with_len 0 count ++ count ∷ []
range_more count =
    sym (map-id (range_with_len 0 (count + 1)))
    ∙ map-range_with_len_more (λ place. place) 0 count count (zero-add count)
    ∙ ap (λ xs. xs ++ count ∷ []) (map-id (range_with_len 0 count))

-- numbers from one on rise
pub range-above : (x from count : ℕ) → x < from
    → AllByRecursion (λ y. nat_cmp x y ≡ Less) (range_with_len from count)
range-above x from zero below = tt
range-above x from (suc count) below = (less, range-above x (from + 1) count (omega (arith, below)))
  where
    less : nat_cmp x from ≡ Less
    less = grind (arith, nat_tests, below)

pub range-rises : (from count : ℕ) → IsStrictlySortedBy nat_cmp (range_with_len from count)
unfolding IsStrictlySortedBy
range-rises from zero = tt
range-rises from (suc count) =
    (range-above from (from + 1) count (omega arith), range-rises (from + 1) count)

-- what is made of each item of a changed list is the changed list of what is made of each
pub map-insert : {X Y : Type 0} (f : X → Y) (xs : List X) (place : ℕ) (x : X)
    → map f (insert xs place x) ≡ insert (map f xs) place (f x)
map-insert f xs zero x = refl
map-insert f [] (suc place) x = refl
map-insert f (y ∷ xs) (suc place) x = ap (λ zs. f y ∷ zs) (map-insert f xs place x)

pub map-remove : {X Y : Type 0} (f : X → Y) (xs : List X) (place : ℕ)
    → map f (remove xs place) ≡ remove (map f xs) place
map-remove f [] zero = refl
map-remove f (y ∷ xs) zero = refl
map-remove f [] (suc place) = refl
map-remove f (y ∷ xs) (suc place) = ap (λ zs. f y ∷ zs) (map-remove f xs place)

pub map-changed : {X Y : Type 0} (f : X → Y) (change : Change) (x : X) (xs : List X)
    → map f (changed change x xs) ≡ changed change (f x) (map f xs)
map-changed f (SetAt place) x xs = map-set f xs place x
map-changed f (InsertAt place) x xs = map-insert f xs place x
map-changed f (RemoveAt place) x xs = map-remove f xs place

-- a list without its end, and what follows a place up to the end
pub take-joined : {X : Type 0} (front back : List X)
    → take (length (front ++ back) - length back) (front ++ back) ≡ front
take-joined front back =
    let long : length (front ++ back) - length back ≡ length front =
    omega (arith, length-append front back) in
    ap (λ n. take n (front ++ back)) long ∙ take-append_seam front back

pub take-rest : {X : Type 0} (place : ℕ) (xs : List X) → take (length xs - place) (drop place xs)
    ≡ drop place xs
take-rest place xs =
    take_all (length xs - place) (drop place xs) (omega (arith, length-drop place xs))

-- how many bytes characters take in UTF-8
pub byte_length-cons : (c : ℕ) (text : List ℕ) → length (encode_utf8_all (c ∷ text)) ≡ len_utf8 c
    + length (encode_utf8_all text)
byte_length-cons c text = length-append (encode c) (encode_utf8_all text)
    ∙ ap (λ n. n + length (encode_utf8_all text)) (length-encode c)

pub byte_length-append : (front back : List ℕ) → length (encode_utf8_all (front ++ back))
    ≡ length (encode_utf8_all front) + length (encode_utf8_all back)
byte_length-append front back = ap length (encodes-append front back)
    ∙ length-append (encode_utf8_all front) (encode_utf8_all back)
