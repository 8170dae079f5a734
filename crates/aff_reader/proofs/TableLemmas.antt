-- What the rows of tables say, one row after another.
use Rattle.std.proofs.Common.{◌≡◌, ℕ, ◌+◌, ◌<◌, true, List, [], ◌∷◌, ◌++◌, length, take, filter}
use Rattle.std.proofs.Common.{Option, Some, None, refl, sym, ap, ◌∙◌, arith, get_or}
use Rattle.std.specs.Borrow.{Bor}
use Rattle.std.specs.List.{cons_option, filter_map, flat_map, slice_get, slice_split}
use Rattle.std.specs.Option.{option_to_list}
use lib.Utf8.{encodes}
use Rattle.std.specs.Str.{chars, IsUtf8}
use Rattle.std.proofs.lemmas.Bool.Decides.{nat_tests}
use Rattle.std.proofs.lemmas.List.{append-nil, map-append, take_more}
use Rattle.std.proofs.lemmas.Grind.{flat_map-append}
use Rattle.std.proofs.lemmas.List.Elements.{filter_map-append, filter_passes}
use Rattle.std.proofs.lemmas.Option.{slice_get_within, get_or_from_slice_get}
use Rattle.std.proofs.lemmas.Str.{encodes-chars}
use Rattle.text_lines.specs.Fields.{fields, has_bytes, is_blank}
use Rattle.aff_lines.specs.declared.rows.DirectiveLine.{DirectiveLine}
use Rattle.aff_lines.specs.Faults.{Fault, sooner, least_of, FaultsJoin}
use Rattle.aff_lines.specs.Passes.{lines_at}

bytes-some : (piece : List ℕ) → has_bytes piece ≡ true → 0 < length piece
bytes-some piece h = grind (arith, nat_tests)

-- no field is empty
pub field-some : (text : List ℕ) (k : ℕ) (own : List ℕ) → slice_get (fields text) k ≡ Some own
    → 0 < length own
unfolding fields
field-some text k own is =
    let pieces = slice_split is_blank text in
    let within : k < length (filter has_bytes pieces) =
    slice_get_within (filter has_bytes pieces) k own is in
    let has = filter_passes has_bytes pieces k own within in
    bytes-some own
    (ap has_bytes (sym (get_or_from_slice_get (filter has_bytes pieces) k own own is)) ∙ has)

spelled-some : (cs bs : List ℕ) → encodes cs ≡ bs → 0 < length bs → 0 < length cs
spelled-some [] bs is some = absurd (omega (arith, ap length is, some))
spelled-some (c ∷ cs) bs is some = omega arith

-- a text that is not empty has a character
pub chars-some : (bs : List ℕ) → IsUtf8 bs → 0 < length bs → 0 < length (chars bs)
chars-some bs utf8 some = spelled-some (chars bs) bs (encodes-chars bs utf8) some

-- the lines of the rows up to the loop's place, and that of one row more
lines-more : (rows : List (Bor DirectiveLine)) (place : ℕ) (row : Bor DirectiveLine)
    → place < length rows → row ≡ get_or rows place row
    → lines_at (take (place + 1) rows) ≡ lines_at (take place rows) ++ row.now ∷ []
lines-more rows place row within is =
    ap lines_at
    (take_more rows place row within ∙ ap (λ (r : Bor DirectiveLine). take place rows ++ r ∷ [])
    (sym is))
    ∙ map-append (λ (l : Bor DirectiveLine). l.now) (take place rows) (row ∷ [])

one-or-none : {A : Type 0} (said : Option A) → cons_option said [] ≡ option_to_list said
one-or-none None = refl
one-or-none (Some own) = refl

-- a turn of a loop over the rows of a table
pub table-turn : {A : Type 0} (said : DirectiveLine → Option A) (made pushed : List A)
    (rows : List (Bor DirectiveLine)) (place : ℕ) (row : Bor DirectiveLine)
    → place < length rows → row ≡ get_or rows place row
    → pushed ≡ made ++ option_to_list (said row.now)
    → made ≡ filter_map said (lines_at (take place rows))
    → pushed ≡ filter_map said (lines_at (take (place + 1) rows))
table-turn said made pushed rows place row within is grown so_far =
    let before = lines_at (take place rows) in
    grown
    ∙ ap (λ m. m ++ option_to_list (said row.now)) so_far
    ∙ sym (ap (filter_map said) (lines-more rows place row within is)
    ∙ filter_map-append said before (row.now ∷ [])
    ∙ ap (λ own. filter_map said before ++ own) (one-or-none (said row.now)))

-- a turn of a loop that looks for the earliest fault of the rows of a table
pub faults-turn : FaultsJoin
    → (faults_in : DirectiveLine → List Fault) (found here now : Option Fault)
    (rows : List (Bor DirectiveLine)) (place : ℕ) (row : Bor DirectiveLine)
    → place < length rows → row ≡ get_or rows place row → now ≡ sooner found here
    → here ≡ least_of (faults_in row.now)
    → found ≡ least_of (flat_map faults_in (lines_at (take place rows)))
    → now ≡ least_of (flat_map faults_in (lines_at (take (place + 1) rows)))
faults-turn join faults_in found here now rows place row within is merged told so_far =
    let before = lines_at (take place rows) in
    rw (
      lines-more rows place row within is,
      flat_map-append,
      flat_map_one faults_in row.now,
      join (flat_map faults_in before) (faults_in row.now),
      ← so_far,
      ← told,
    )
    merged
  where
    flat_map_one : (f : DirectiveLine → List Fault) (line : DirectiveLine)
        → flat_map f (line ∷ []) ≡ f line
    flat_map_one f line = append-nil (f line)
