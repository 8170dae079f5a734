-- The table of directives: each has one row, and no name stands twice.
use Rattle.std.proofs.Common.{◌≡◌, ◌≢◌, ◌↔◌, ℕ, suc, ◌+◌, ◌<◌, ◌&&◌, ◌||◌, not, Bool, true}
use Rattle.std.proofs.Common.{false, cond, List, [], ◌∷◌, length, map, Option, Some, None, refl}
use Rattle.std.proofs.Common.{sym, ap, ◌∙◌, get_or, arith, rules}
use Rattle.std.specs.List.{All, AllPairs, Contains, filter, find, list_all, range_with_len}
use Rattle.std.specs.Option.{option_map, option_to_list}
use Rattle.std.specs.Str.{bytes_eq}
use Rattle.std.proofs.lemmas.Bool.{and_parts}
use Rattle.std.proofs.lemmas.Bool.Decides.{Decides-by_and}
use Rattle.std.proofs.lemmas.List.{get_or-map}
use Rattle.std.proofs.lemmas.List.Elements.{All-contains, All-contains_itself, All-filter}
use Rattle.std.proofs.lemmas.List.Elements.{filter_passes}
use Rattle.std.proofs.lemmas.List.FromFn.{get_or-range_with_len}
use Rattle.std.proofs.lemmas.List.Kept.{AllPairs-cons}
use Rattle.std.proofs.lemmas.Slice.Eq.{bytes_eq-Decides}
use denote.Enum.Bare.{tag_one, same_true, true_same}
use denote.Enum.Declared.{tag_of, variants}
use denote.Enum.Enum.{tag_below}
use Rattle.text_lines.specs.lists.Laws.{contains-filter}
use Rattle.aff_lines.specs.contracts.names.Directive.{the_type}
use Rattle.aff_lines.specs.contracts.names.Pass.{the_type as the_passes}
use Rattle.aff_lines.specs.declared.names.Described.{Described}
use Rattle.aff_lines.specs.declared.names.Directive.{Directive}
use Rattle.aff_lines.specs.declared.names.Pass.{Pass}
use Rattle.aff_lines.specs.Names.{Description, description_of, is_described, directive_in}
use Rattle.aff_lines.specs.Names.{names_of_directive}
use Rattle.aff_lines.specs.Names.{is_field_text, is_name_of_row, named_in, is_same_directive}
use Rattle.aff_lines.specs.Names.{is_of_pass, all_directives}
use Rattle.aff_lines.specs.Names.{all_names, directive_named, directives_in}

-- each directive has one row

-- the place of a directive among the variants of the enum, in whose order the rows stand
abbrev place_of : Directive → ℕ
place_of directive = tag_of the_type directive

abbrev listed-ones : List Directive
listed-ones = map directive_in all_directives

in-order : map place_of listed-ones ≡ range_with_len 0 (length listed-ones)
unfolding all_directives
in-order = refl

below-all : (directive : Directive) → place_of directive < length listed-ones
unfolding all_directives
below-all directive = tag_below (variants the_type) (the_type.to directive)

place-at : (place : ℕ) (d : Directive) → place < length listed-ones
    → place_of (get_or listed-ones place d) ≡ place
place-at place d within =
    let here : 0 + place ≡ place = omega arith in
    sym (get_or-map place_of listed-ones place d 0 within)
    ∙ ap (λ places. get_or places place 0) in-order
    ∙ get_or-range_with_len 0 (length listed-ones) place 0 within
    ∙ here

pub each-listed : (directive : Directive) → Contains listed-ones directive
each-listed directive = (
  place_of directive,
  below-all directive,
  tag_one the_type (search rules) _ _
      (place-at (place_of directive) directive (below-all directive)),
)

pub listed-once : AllPairs (λ (first other : Directive). first ≢ other) listed-ones
listed-once i j d before within same =
    let first : i < length listed-ones = omega (arith, before, within) in
    let equal : i ≡ j = sym (place-at i d first) ∙ ap place_of same ∙ place-at j d within in
    omega (arith, before, equal)

pub rows-of-pass : (pass : Pass) (row : Description) → Contains (directives_in pass) row
    ↔ (Contains all_directives row × (row.pass ≡ pass))
unfolding directives_in
rows-of-pass pass row = (
  λ among. (
    All-contains (Contains all_directives) (filter (is_of_pass pass) all_directives) row
        (All-filter (is_of_pass pass) (Contains all_directives) all_directives
        (All-contains_itself all_directives)) among,
    same_true the_passes tt row.pass pass
        (All-contains (λ d. is_of_pass pass d ≡ true) (filter (is_of_pass pass) all_directives) row
        (filter_passes (is_of_pass pass) all_directives) among),
  ),
  λ is. contains-filter (is_of_pass pass) all_directives row is.0
      (true_same the_passes row.pass pass is.1),
)

-- no name stands twice

all-by-test : {X : Type 0} (test : X → Bool) (xs : List X) → list_all test xs ≡ true
    → All (λ x. test x ≡ true) xs
all-by-test test xs =
    (Decides-by_and test (λ x. test x ≡ true) (list_all test) (λ x. (λ e. e, λ e. e)) refl
    (λ x xs. refl) xs).0

is-other : List ℕ → List ℕ → Bool
is-other name other = not (bytes_eq name other)

are-distinct : List (List ℕ) → Bool
are-distinct [] = true
are-distinct (name ∷ names) = list_all (is-other name) names && are-distinct names

other-differs : (name other : List ℕ) → is-other name other ≡ true → name ≢ other
unfolding is-other
other-differs name other differs same =
    absurd (cc (ap not ((bytes_eq-Decides name other).1 same), differs))

distinct-pairs : (names : List (List ℕ)) → are-distinct names ≡ true
    → AllPairs (λ (first other : List ℕ). first ≢ other) names
unfolding are-distinct
distinct-pairs [] distinct = λ i j d before within. absurd (omega (arith, within))
distinct-pairs (name ∷ names) distinct =
    let parts = and_parts (list_all (is-other name) names) (are-distinct names) distinct in
    AllPairs-cons (λ (first other : List ℕ). first ≢ other) name names
    (λ k d within. other-differs name (get_or names k d)
    (all-by-test (is-other name) names parts.0 k d within))
    (distinct-pairs names parts.1)

all-distinct : are-distinct all_names ≡ true
unfolding are-distinct is-other all_names all_directives
all-distinct = refl

pub names-once : AllPairs (λ (first other : List ℕ). first ≢ other) all_names
names-once = distinct-pairs all_names all-distinct

-- each name is found as one of its row's directive

is-that : Directive → Option Directive → Bool
is-that directive None = false
is-that directive (Some found) = is_same_directive found directive

leads-to : Directive → List ℕ → Bool
leads-to directive name = is-that directive (directive_named name)

is-found : Description → Bool
is-found row = list_all (leads-to row.directive) (names_of_directive row)

all-found : list_all is-found all_directives ≡ true
unfolding is-that leads-to is-found all_directives directive_named
all-found = refl

that-one : (directive : Directive) (found : Option Directive) → is-that directive found ≡ true
    → found ≡ Some directive
unfolding is-that
that-one directive None is = absurd (cc is)
that-one directive (Some found) is = ap Some (same_true the_type (search rules) found directive is)

pub name-found : (row : Description) (name : List ℕ) → Contains all_directives row
    → Contains (names_of_directive row) name → directive_named name ≡ Some row.directive
unfolding is-found leads-to
name-found row name among own =
    let all : list_all (leads-to row.directive) (names_of_directive row) ≡ true =
    All-contains (λ r. is-found r ≡ true) all_directives row
    (all-by-test is-found all_directives all-found) among in
    that-one row.directive (directive_named name)
    (All-contains (λ n. leads-to row.directive n ≡ true) (names_of_directive row) name
    (all-by-test (leads-to row.directive) (names_of_directive row) all) own)

-- what is found by a name has that name

second-name : (other : Option (List ℕ)) (first name : List ℕ) → is_field_text other name ≡ true
    → Contains (first ∷ option_to_list other) name
second-name None first name is = absurd (cc is)
second-name (Some other) first name is = (1, omega arith, (bytes_eq-Decides other name).0 is)

own-name : (row : Description) (name : List ℕ) → is_name_of_row name row ≡ true
    → Contains (names_of_directive row) name
own-name row name is = by-test (bytes_eq row.name name) refl
  where
    by-test : (b : Bool) → bytes_eq row.name name ≡ b → Contains (names_of_directive row) name
    by-test true same = (0, omega arith, (bytes_eq-Decides row.name name).0 same)
    by-test false differs =
        second-name row.other_name row.name name
        (sym (ap (λ b. b || is_field_text row.other_name name) differs) ∙ is)

abbrev pub RowWith : List Description → Directive → List ℕ → Type 0
RowWith rows directive name = (row : Description) × Contains rows row × (row.directive ≡ directive)
    × Contains (names_of_directive row) name

found-has : (name : List ℕ) (rows : List Description) (directive : Directive)
    → named_in name rows ≡ Some directive → RowWith rows directive name
found-has name [] directive is = absurd (cc is)
found-has name (row ∷ rows) directive is =
    by-test (λ found. found-has name rows directive found) (is_name_of_row name row) refl
  where
    by-test : (named_in name rows ≡ Some directive → RowWith rows directive name) → (b : Bool)
        → is_name_of_row name row ≡ b → RowWith (row ∷ rows) directive name
    by-test more true named =
        let found : Some row.directive ≡ Some directive =
        sym (ap (λ b. option_map directive_in
        (cond b (Some row) (find (is_name_of_row name) rows))) named) ∙ is in
        (row, (0, omega arith, refl), cc found, own-name row name named)
    by-test more false other =
        let found : named_in name rows ≡ Some directive =
        sym (ap (λ b. option_map directive_in
        (cond b (Some row) (find (is_name_of_row name) rows))) other) ∙ is in
        let later = more found in
        (later.0, (suc later.1.0, omega (arith, later.1.1), later.1.2), later.2, later.3)

pub named-has : (name : List ℕ) (directive : Directive) → directive_named name ≡ Some directive
    → RowWith all_directives directive name
unfolding directive_named
named-has name directive is = found-has name all_directives directive is

-- the code's rows are looked through as the table's

pub named_described : (name : List ℕ) (rows : List Described)
    → named_in name (map description_of rows) ≡ option_map (λ (row : Described). row.directive)
    (find (is_described name) rows)
named_described name [] = refl
named_described name (row ∷ rows) = by-test (is_described name row) (named_described name rows)
  where
    by-test : (b : Bool) → named_in name (map description_of rows) ≡ option_map
        (λ (row : Described). row.directive) (find (is_described name) rows)
        → option_map directive_in
        (cond b (Some (description_of row)) (find (is_name_of_row name) (map description_of rows)))
        ≡ option_map (λ (row : Described). row.directive)
        (cond b (Some row) (find (is_described name) rows))
    by-test true rest = refl
    by-test false rest = rest
