-- Rows over a text that grows at its end.
use Rattle.std.proofs.Common.{◌≡◌, ◌∙◌, refl, sym, ap, ap₂, subst, ℕ, zero, suc, ◌+◌, ◌-◌, ◌≤◌, ◌<◌}
use Rattle.std.proofs.Common.{List, [], ◌∷◌, ◌++◌, length, take, drop, map, slice_get, get_or, Some}
use Rattle.std.proofs.Common.{arith}
use Rattle.std.proofs.Common.{length-append, length-drop, length-take, Result, Ok, Err, IfOk, OnOk}
use Rattle.std.proofs.Common.{OnErr}
use Rattle.std.proofs.Common.{Bool, true, false, Contains, rules, ⊎_elim}
use Rattle.std.specs.Ordering.{ord_max, nat_cmp}
use Rattle.std.proofs.lemmas.Bool.{cases_lt}
use Rattle.std.proofs.lemmas.Bool.Decides.{nat_tests}
use Rattle.std.proofs.lemmas.Grind.{common_steps}
use Rattle.std.specs.List.{AllByRecursion, flat_map, slice_range}
use Rattle.std.specs.Option.{option_map}
use Rattle.std.specs.Str.{IsUtf8, IsCharBoundary, chars}
use Rattle.std.proofs.lemmas.List.{take-append-le, drop-append-le, take-append-drop, take-take}
use Rattle.std.proofs.lemmas.List.{get_or-map, get_or-take, get_or_append_left, get_or_push}
use Rattle.std.proofs.lemmas.List.Elements.{Contains-append_left, Contains-append_right}
use Rattle.std.proofs.lemmas.Option.{same_Some, slice_get-get_or, slice_get-map}
use Rattle.std.proofs.lemmas.Option.{get_or_from_slice_get}
use Rattle.std.proofs.lemmas.Str.{IsCharBoundary-from_take}
use Rattle.std.proofs.Math.Seq.{take-append_seam, drop-append_seam, take-length}
use Rattle.spell_types.specs.declared.Entry.{Entry}
use Rattle.spell_types.specs.declared.entries.Row.{Row}
use Rattle.spell_types.specs.declared.flags.Flag.{Flag}
use Rattle.spell_types.specs.Flags.{has, put_all}
use Rattle.spell_types.specs.Rows.{entry_in, IsEndIn, IsRowIn}
use Rattle.spell_types.proofs.FlagLemmas.{has-Contains, Contains-has, Contains-put_all}

-- ---- what is there stays
range-stays : (text more : List ℕ) (from to : ℕ) → from ≤ to → to ≤ length text
    → slice_range (text ++ more) from to ≡ slice_range text from to
range-stays text more from to ordered within =
    ap (take (to - from)) (drop-append-le from text more (omega (arith, ordered, within)))
    ∙ take-append-le (to - from) (drop from text) more
    (omega (arith, ordered, within, length-drop from text))

set-stays : (sets extra : List (List Flag)) (set : ℕ) → set < length sets
    → get_or (sets ++ extra) set [] ≡ get_or sets set []
set-stays sets extra set within = get_or_append_left sets extra [] set within

row-stays : (text more : List ℕ) (sets extra : List (List Flag)) (row : Row)
    → IsRowIn text sets row → IsRowIn (text ++ more) (sets ++ extra) row
row-stays text more sets extra row is = record {
  ordered = is.ordered;
  within = omega (arith, is.within, length-append text more);
  front = subst IsUtf8
      (sym (take-append-le row.from text more (omega (arith, is.ordered, is.within)))) is.front;
  through = subst IsUtf8 (sym (take-append-le row.to text more is.within)) is.through;
  set = omega (arith, is.set, length-append sets extra);
}

pub rows-stay : (text more : List ℕ) (sets extra : List (List Flag)) (rows : List Row)
    → AllByRecursion (IsRowIn text sets) rows
    → AllByRecursion (IsRowIn (text ++ more) (sets ++ extra)) rows
rows-stay text more sets extra [] are = are
rows-stay text more sets extra (row ∷ rows) (is, are) =
    (row-stays text more sets extra row is, rows-stay text more sets extra rows are)

pub entries-stay : (text more : List ℕ) (sets extra : List (List Flag)) (rows : List Row)
    → AllByRecursion (IsRowIn text sets) rows
    → map (entry_in (text ++ more) (sets ++ extra)) rows ≡ map (entry_in text sets) rows
entries-stay text more sets extra [] are = refl
entries-stay text more sets extra (row ∷ rows) (is, are) =
    ap₂ (λ entry entries. entry ∷ entries)
    (ap₂ (λ range flags. record { word = chars range; flags = flags })
    (range-stays text more row.from row.to is.ordered is.within)
    (set-stays sets extra row.set is.set))
    (entries-stay text more sets extra rows are)

-- ---- one row more
last-row : (text word bytes : List ℕ) (sets : List (List Flag)) (row : Row) → bytes ≡ text ++ word
    → row.from ≡ length text → row.to ≡ length bytes → row.set < length sets → IsUtf8 text
    → IsUtf8 bytes → IsRowIn bytes sets row
last-row text word bytes sets row is from to set front whole = record {
  ordered = omega (arith, from, to, ap length is, length-append text word);
  within = omega (arith, to);
  front = subst IsUtf8
      (sym (ap (take row.from) is ∙ ap (λ count. take count (text ++ word)) from
      ∙ take-append_seam text word)) front;
  through = subst IsUtf8 (sym (ap (λ count. take count bytes) to ∙ take-length bytes)) whole;
  set = set;
}

last-range : (text word bytes : List ℕ) (from to : ℕ) → bytes ≡ text ++ word → from ≡ length text
    → to ≡ length bytes → slice_range bytes from to ≡ word
last-range text word bytes from to is at end =
    ap (λ bs. take (to - from) (drop from bs)) is
    ∙ ap (λ count. take (to - from) (drop count (text ++ word))) at
    ∙ ap (take (to - from)) (drop-append_seam text word)
    ∙ ap (λ count. take count word)
    (omega (arith, at, end, ap length is, length-append text word))
    ∙ take-length word

each-more : {X : Type 0} (P : X → Type 0) (xs : List X) (x : X) → AllByRecursion P xs → P x
    → AllByRecursion P (xs ++ x ∷ [])
each-more P [] x are is = (is, tt)
each-more P (y ∷ ys) x (first, are) is = (first, each-more P ys x are is)

map-more : {X Y : Type 0} (f : X → Y) (xs : List X) (x : X)
    → map f (xs ++ x ∷ []) ≡ map f xs ++ f x ∷ []
map-more f [] x = refl
map-more f (y ∷ ys) x = ap (λ more. f y ∷ more) (map-more f ys x)

-- what entries stood on, and what they stand on once a word and a set may be added
pub record Grows (text more bytes : List ℕ) (sets extra all : List (List Flag)) : Type 0 where
  pub bytes_are : bytes ≡ text ++ more
  pub sets_are : all ≡ sets ++ extra
  pub front : IsUtf8 text
  pub whole : IsUtf8 bytes

pub grown-alone : (text more bytes : List ℕ) (sets extra all : List (List Flag)) (rows : List Row)
    → bytes ≡ text ++ more → all ≡ sets ++ extra → AllByRecursion (IsRowIn text sets) rows
    → AllByRecursion (IsRowIn bytes all) rows
grown-alone text more bytes sets extra all rows bytes_are sets_are are =
    subst (λ bs. AllByRecursion (IsRowIn bs all) rows) (sym bytes_are)
    (subst (λ ss. AllByRecursion (IsRowIn (text ++ more) ss) rows) (sym sets_are)
    (rows-stay text more sets extra rows are))

pub kept-entries : (text more bytes : List ℕ) (sets extra all : List (List Flag))
    (rows : List Row) → bytes ≡ text ++ more → all ≡ sets ++ extra
    → AllByRecursion (IsRowIn text sets) rows
    → map (entry_in bytes all) rows ≡ map (entry_in text sets) rows
kept-entries text more bytes sets extra all rows bytes_are sets_are are =
    ap₂ (λ bs ss. map (entry_in bs ss) rows) bytes_are sets_are
    ∙ entries-stay text more sets extra rows are

-- a row is added, or none
abbrev pub Adds : {A E : Type 0} → Result A E → ℕ → ℕ → ℕ → List Row → List Row → Type 0
Adds told from to set rows now =
    OnOk told (now ≡ rows ++ record { from = from; to = to; set = set } ∷ [])
    × OnErr told (now ≡ rows)

module _ {A E : Type 0} (told : Result A E) (text word bytes : List ℕ)
    (sets extra all : List (List Flag)) (from set : ℕ) (rows now : List Row)
    (grows : Grows text word bytes sets extra all) where
  pub grown-rows : from ≡ length text → set < length all → AllByRecursion (IsRowIn text sets) rows
      → Adds told from (length bytes) set rows now → AllByRecursion (IsRowIn bytes all) now
  grown-rows at has are added = go told added
    where
      stay : AllByRecursion (IsRowIn bytes all) rows
      stay = grown-alone text word bytes sets extra all rows grows.bytes_are grows.sets_are are

      go : (r : Result A E) → Adds r from (length bytes) set rows now
          → AllByRecursion (IsRowIn bytes all) now
      go (Ok done) (added, _) =
          subst (AllByRecursion (IsRowIn bytes all)) (sym added)
          (each-more (IsRowIn bytes all) rows (record { from = from; to = length bytes; set = set })
          stay (last-row text word bytes all (record { from = from; to = length bytes; set = set })
          grows.bytes_are at refl has grows.front grows.whole))
      go (Err why) (_, kept) = subst (AllByRecursion (IsRowIn bytes all)) (sym kept) stay

  pub grown-entries : from ≡ length text → AllByRecursion (IsRowIn text sets) rows
      → Adds told from (length bytes) set rows now
      → OnOk told (map (entry_in bytes all) now ≡ map (entry_in text sets) rows
      ++ record { word = chars word; flags = get_or all set [] } ∷ [])
      × OnErr told (map (entry_in bytes all) now ≡ map (entry_in text sets) rows)
  grown-entries at are added = go told added
    where
      stay : map (entry_in bytes all) rows ≡ map (entry_in text sets) rows
      stay = kept-entries text word bytes sets extra all rows grows.bytes_are grows.sets_are are

      go : (r : Result A E) → Adds r from (length bytes) set rows now
          → OnOk r (map (entry_in bytes all) now ≡ map (entry_in text sets) rows
          ++ record { word = chars word; flags = get_or all set [] } ∷ [])
          × OnErr r (map (entry_in bytes all) now ≡ map (entry_in text sets) rows)
      go (Ok done) (added, _) = (
        ap (map (entry_in bytes all)) added
            ∙ map-more (entry_in bytes all) rows
            (record { from = from; to = length bytes; set = set })
            ∙ ap₂ (λ entries range. entries
            ++ record { word = chars range; flags = get_or all set [] } ∷ []) stay
            (last-range text word bytes from (length bytes) grows.bytes_are at refl),
        tt,
      )
      go (Err why) (_, kept) = (tt, ap (map (entry_in bytes all)) kept ∙ stay)

-- the set that was added last
pub last-set : (sets : List (List Flag)) (flags : List Flag)
    → get_or (sets ++ flags ∷ []) (length sets) [] ≡ flags
last-set sets flags = get_or_push sets flags [] (length sets) refl

pub if-ok : {A E : Type 0} {P Q : A → Type 0} (told : Result A E)
    → ((value : A) → P value → Q value) → IfOk told P → IfOk told Q
if-ok (Ok value) gives holds = gives value holds
if-ok (Err why) gives holds = tt

pub on-ok : {A E : Type 0} {P Q : Type 0} (told : Result A E) → (P → Q) → OnOk told P → OnOk told Q
on-ok (Ok done) gives holds = gives holds
on-ok (Err why) gives holds = tt

pub on-err : {A E : Type 0} {P : Type 0} (told : Result A E) → P → OnErr told P
on-err (Ok done) holds = tt
on-err (Err why) holds = holds

-- ---- one row
pub found-at : (seen rows : List Row) (place : ℕ) (row : Row) → seen ≡ rows
    → place < length seen → row ≡ get_or seen place row → slice_get rows place ≡ Some row
found-at seen rows place row same within is =
    subst (λ all. slice_get all place ≡ Some row) same
    (slice_get-get_or seen place row within ∙ ap (λ found. Some found) (sym is))

pub each-at : {X : Type 0} (P : X → Type 0) (xs : List X) (place : ℕ) (x : X)
    → AllByRecursion P xs → slice_get xs place ≡ Some x → P x
each-at P [] place x are at = absurd (cc)
each-at P (first ∷ xs) zero x (is, are) at = subst P (cc) is
each-at P (first ∷ xs) (suc place) x (is, are) at = each-at P xs place x are at

pub same-entry : (text : List ℕ) (sets : List (List Flag)) (rows : List Row) (entries : List Entry)
    (place : ℕ) (row : Row) → map (entry_in text sets) rows ≡ entries
    → slice_get rows place ≡ Some row → Some (entry_in text sets row) ≡ slice_get entries place
same-entry text sets rows entries place row view at =
    sym (ap (option_map (entry_in text sets)) at)
    ∙ sym (slice_get-map (entry_in text sets) rows place)
    ∙ ap (λ all. slice_get all place) view

-- the flags of an entry, from its row
pub like-entry : (text : List ℕ) (sets : List (List Flag)) (rows : List Row) (entries : List Entry)
    (place : ℕ) (row : Row) (entry : Entry) → map (entry_in text sets) rows ≡ entries
    → slice_get rows place ≡ Some row → slice_get entries place ≡ Some entry
    → get_or sets row.set [] ≡ entry.flags
like-entry text sets rows entries place row entry view at is =
    ap (λ e. e.flags)
    (same_Some (entry_in text sets row) entry
    (same-entry text sets rows entries place row view at ∙ is))

pub cut-from : (text : List ℕ) (sets : List (List Flag)) (row : Row) → IsUtf8 text
    → IsRowIn text sets row → IsCharBoundary text row.from
cut-from text sets row utf8 is =
    IsCharBoundary-from_take text row.from utf8 (omega (arith, is.ordered, is.within)) is.front

pub cut-to : (text : List ℕ) (sets : List (List Flag)) (row : Row) → IsUtf8 text
    → IsRowIn text sets row → IsCharBoundary text row.to
cut-to text sets row utf8 is = IsCharBoundary-from_take text row.to utf8 is.within is.through

-- ---- what is told of sets
contains-flat : (sets : List (List Flag)) (number : ℕ) (flag : Flag) → number < length sets
    → Contains (get_or sets number []) flag → Contains (flat_map (λ set. set) sets) flag
contains-flat [] number flag within is = absurd (omega arith)
contains-flat (set ∷ sets) zero flag within is =
    Contains-append_left set (flat_map (λ s. s) sets) flag is
contains-flat (set ∷ sets) (suc number) flag within is =
    Contains-append_right set (flat_map (λ s. s) sets) flag
    (contains-flat sets number flag (omega arith) is)

-- a set with the flags of all sets has those of each entry
pub has-all : (text : List ℕ) (sets : List (List Flag)) (set : List Flag) (rows : List Row)
    (place : ℕ) (entry : Entry) (flag : Flag)
    → set ≡ put_all [] (flat_map (λ s. s) sets) → AllByRecursion (IsRowIn text sets) rows
    → slice_get (map (entry_in text sets) rows) place ≡ Some entry
    → has entry.flags (Some flag) ≡ true → has set (Some flag) ≡ true
has-all text sets set [] place entry flag is are at holds = absurd (cc)
has-all text sets set (row ∷ rows) zero entry flag is (row_is, are) at holds =
    let own : entry_in text sets row ≡ entry = same_Some (entry_in text sets row) entry at in
    let flags : entry.flags ≡ get_or sets row.set [] = ap (λ e. e.flags) (sym own) in
    ap (λ all. has all (Some flag)) is
    ∙ Contains-has (put_all [] (flat_map (λ s. s) sets)) flag
    (Contains-put_all (flat_map (λ s. s) sets) flag
    (contains-flat sets row.set flag row_is.set
    (subst (λ all. Contains all flag) flags (has-Contains entry.flags flag holds))))
has-all text sets set (row ∷ rows) (suc place) entry flag is (_, are) at holds =
    has-all text sets set rows place entry flag is are at holds

-- what is told of the set of each row is told of its entry's flags
pub told-rows : (tells : List Flag → Bool) (text : List ℕ) (sets : List (List Flag))
    (rows : List Row) (by_set : List Bool) → by_set ≡ map tells sets
    → AllByRecursion (IsRowIn text sets) rows
    → map (λ row. get_or by_set row.set false) rows
    ≡ map (λ entry. tells entry.flags) (map (entry_in text sets) rows)
told-rows tells text sets [] by_set told are = refl
told-rows tells text sets (row ∷ rows) by_set told (is, are) =
    ap₂ (λ first more. first ∷ more)
    (ap (λ all. get_or all row.set false) told ∙ get_or-map tells sets row.set [] false is.set)
    (told-rows tells text sets rows by_set told are)

-- ---- the first rows, over the text and the sets that they need
pub each-front : {X : Type 0} (P : X → Type 0) (count : ℕ) (xs : List X) → AllByRecursion P xs
    → AllByRecursion P (take count xs)
each-front P zero xs are = tt
each-front P (suc count) [] are = tt
each-front P (suc count) (x ∷ xs) (is, are) = (is, each-front P count xs are)

front-row : (text : List ℕ) (sets : List (List Flag)) (end most : ℕ) (row : Row)
    → end ≤ length text → most ≤ length sets → row.to ≤ end → row.set < most
    → IsRowIn text sets row → IsRowIn (take end text) (take most sets) row
front-row text sets end most row long many to set is = record {
  ordered = is.ordered;
  within = omega (arith, to, long, length-take end text);
  front = subst IsUtf8 (sym (take-take row.from end text (omega (arith, is.ordered, to))))
      is.front;
  through = subst IsUtf8 (sym (take-take row.to end text to)) is.through;
  set = omega (arith, set, many, length-take most sets);
}

front-range : (text : List ℕ) (end from to : ℕ) → from ≤ to → to ≤ end → end ≤ length text
    → slice_range (take end text) from to ≡ slice_range text from to
front-range text end from to ordered within long =
    sym (range-stays (take end text) (drop end text) from to ordered
    (omega (arith, within, long, length-take end text)))
    ∙ ap (λ bytes. slice_range bytes from to) (take-append-drop end text)

front-set : (sets : List (List Flag)) (most set : ℕ) → set < most
    → get_or (take most sets) set [] ≡ get_or sets set []
front-set sets most set within = get_or-take most sets set [] within

module _ (text : List ℕ) (sets : List (List Flag)) (end most : ℕ) (long : end ≤ length text)
    (many : most ≤ length sets) where
  pub front-rows : (rows : List Row) → AllByRecursion (IsRowIn text sets) rows
      → ((place : ℕ) (row : Row) → slice_get rows place ≡ Some row → row.to ≤ end)
      → ((place : ℕ) (row : Row) → slice_get rows place ≡ Some row → row.set + 1 ≤ most)
      → AllByRecursion (IsRowIn (take end text) (take most sets)) rows
  front-rows [] are ends few = tt
  front-rows (row ∷ rows) (is, are) ends few = (
    front-row text sets end most row long many (ends 0 row refl) (omega (arith, few 0 row refl)) is,
    front-rows rows are (λ place. ends (suc place)) (λ place. few (suc place)),
  )

  pub front-entries : (rows : List Row) → AllByRecursion (IsRowIn text sets) rows
      → ((place : ℕ) (row : Row) → slice_get rows place ≡ Some row → row.to ≤ end)
      → ((place : ℕ) (row : Row) → slice_get rows place ≡ Some row → row.set + 1 ≤ most)
      → map (entry_in (take end text) (take most sets)) rows ≡ map (entry_in text sets) rows
  front-entries [] are ends few = refl
  front-entries (row ∷ rows) (is, are) ends few =
      ap₂ (λ entry entries. entry ∷ entries)
      (ap₂ (λ range flags. record { word = chars range; flags = flags })
      (front-range text end row.from row.to is.ordered (ends 0 row refl) long)
      (front-set sets most row.set (omega (arith, few 0 row refl))))
      (front-entries rows are (λ place. ends (suc place)) (λ place. few (suc place)))

pub from-start : (text : List ℕ) (end : ℕ) → slice_range text 0 end ≡ take end text
from-start text end = ap (λ count. take count text) (omega arith)

-- where rows end the text may be cut, and their sets are there
pub row-ends : (text : List ℕ) (sets : List (List Flag)) (rows : List Row)
    → AllByRecursion (IsRowIn text sets) rows → (place : ℕ) (row : Row)
    → slice_get rows place ≡ Some row → IsEndIn text row.to
row-ends text sets rows are place row at =
    let is = each-at (IsRowIn text sets) rows place row are at in
    record { within = is.within; utf8 = is.through }

pub row-sets : (text : List ℕ) (sets : List (List Flag)) (rows : List Row)
    → AllByRecursion (IsRowIn text sets) rows → (place : ℕ) (row : Row)
    → slice_get rows place ≡ Some row → row.set + 1 ≤ length sets
row-sets text sets rows are place row at =
    omega (arith, (each-at (IsRowIn text sets) rows place row are at).set)

pub cut-end : (text : List ℕ) (end : ℕ) → IsUtf8 text → IsEndIn text end → IsCharBoundary text end
cut-end text end utf8 is = IsCharBoundary-from_take text end utf8 is.within is.utf8

-- ---- the greater of two numbers
pub max-low : (a b : ℕ) → a ≤ ord_max nat_cmp a b
max-low a b = grind (arith, nat_tests)

pub max-high : (a b : ℕ) → b ≤ ord_max nat_cmp a b
max-high a b = search rules

pub max-most : (a b most : ℕ) → a ≤ most → b ≤ most → ord_max nat_cmp a b ≤ most
max-most a b most low high = grind (arith, common_steps)

-- the greatest number of sets, with one row more
abbrev pub no-row : Row
no-row = record { from = 0; to = 0; set = 0 }

module _ (rows : List Row) (index end next : ℕ)
    (is : next ≡ ord_max nat_cmp end ((get_or rows index no-row).set + 1)) where
  pub next-within : ((place : ℕ) (row : Row) → place < index → slice_get rows place ≡ Some row
      → row.set + 1 ≤ end)
      → (place : ℕ) (row : Row) → place < index + 1 → slice_get rows place ≡ Some row
      → row.set + 1 ≤ next
  next-within earlier place row below at =
      let last = (get_or rows index no-row).set + 1 in
      ⊎_elim
      (λ early. omega (arith, is, max-low end last, earlier place row early at))
      (λ late.
      let same : place ≡ index = omega (arith, late, below) in
      let own : get_or rows index no-row ≡ row =
      ap (λ n. get_or rows n no-row) (sym same) ∙ get_or_from_slice_get rows place row no-row at in
      omega (arith, is, max-high end last, ap (λ r. r.set) own))
      (cases_lt place index)

  pub next-few : (count : ℕ)
      → ((place : ℕ) (row : Row) → slice_get rows place ≡ Some row → row.set + 1 ≤ count)
      → index < length rows → end ≤ count → next ≤ count
  next-few count fit within few =
      let last = get_or rows index no-row in
      omega (
        arith,
        is,
        max-most end (last.set + 1) count few
            (fit index last (slice_get-get_or rows index no-row within)),
      )
