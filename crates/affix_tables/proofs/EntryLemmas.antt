-- What the entries of a table have at a text once a place is added.
use Rattle.std.proofs.Common.{◌≡◌, ◌∙◌, refl, sym, ap, subst, ℕ, Bool, true, false, cond}
use Rattle.std.proofs.Common.{true≢false, List, [], ◌∷◌, ◌++◌, append-nil, append_assoc, nat_eq}
use Rattle.std.proofs.Common.{IsPermutation, Option, Some, None, Vec, Global, if◌then◌else◌}
use Rattle.std.specs.Cmp.Lexicographic.{pointwise}
use Rattle.std.specs.Map.{lookup, set_value}
use Rattle.std.specs.Option.{option_map_or}
use Rattle.std.proofs.lemmas.Bool.{false_from_ne_true}
use Rattle.std.proofs.lemmas.List.Concat.{flat_map-append}
use Rattle.std.proofs.lemmas.List.Sorted.{IsPermutation-append_comm, IsPermutation-append_right}
use Rattle.std.proofs.lemmas.Slice.Eq.{bytes_eq-Decides}
use Rattle.affix_tables.specs.Tables.{places_at, all_places}

abbrev pub Key : Type 0
Key = Vec ℕ Global

abbrev Entry : Type 0
Entry = Key × Key

-- whether the key is the text
abbrev pub is_key : List ℕ → Key → Bool
is_key text key = pointwise nat_eq text key.items

-- the places of what was found
abbrev given : Option Key → List ℕ
given found = option_map_or (λ places. places.items) found []

pub both : (text other items : List ℕ) → pointwise nat_eq text items ≡ true
    → pointwise nat_eq other items ≡ true → pointwise nat_eq other text ≡ true
both text other items one two =
    (bytes_eq-Decides other text).1
    ((bytes_eq-Decides other items).0 two ∙ sym ((bytes_eq-Decides text items).0 one))

first_alone : (text other items : List ℕ) → pointwise nat_eq text items ≡ true
    → pointwise nat_eq other items ≡ false → pointwise nat_eq other text ≡ false
first_alone text other items one two = false_from_ne_true (pointwise nat_eq other text) (λ same.
    true≢false (sym
    ((bytes_eq-Decides other items).1
    ((bytes_eq-Decides other text).0 same ∙ (bytes_eq-Decides text items).0 one)) ∙ two))

second_alone : (text other items : List ℕ) → pointwise nat_eq text items ≡ false
    → pointwise nat_eq other items ≡ true → pointwise nat_eq other text ≡ false
second_alone text other items one two = false_from_ne_true (pointwise nat_eq other text) (λ same.
    true≢false (sym
    ((bytes_eq-Decides text items).1
    (sym ((bytes_eq-Decides other text).0 same) ∙ (bytes_eq-Decides other items).0 two)) ∙ one))

-- what is added at a text
abbrev added : Bool → ℕ → List ℕ
added is place = if is then place ∷ [] else []

-- the place goes to the places of a text that is there
pub places_at-set : (text other : List ℕ) (places longer : Key) (place : ℕ)
    → longer.items ≡ places.items ++ place ∷ [] → (entries : List Entry)
    → lookup (is_key text) entries ≡ Some places
    → places_at (set_value (is_key text) entries longer) other ≡ places_at entries other
    ++ added (pointwise nat_eq other text) place
places_at-set text other places longer place more [] there = absurd (cc)
places_at-set text other places longer place more (entry ∷ entries) there =
    by (is_key text entry.0) (is_key other entry.0) refl refl there
    (places_at-set text other places longer place more entries)
  where
    same_places : {key : Key} → Some key ≡ Some places → key.items ≡ places.items
    same_places is = cc

    by : (a b : Bool) → is_key text entry.0 ≡ a → is_key other entry.0 ≡ b
        → cond a (Some entry.1) (lookup (is_key text) entries) ≡ Some places
        → (lookup (is_key text) entries ≡ Some places
        → places_at (set_value (is_key text) entries longer) other ≡ places_at entries other
        ++ added (pointwise nat_eq other text) place)
        → places_at
        (cond a ((entry.0, longer) ∷ entries) (entry ∷ set_value (is_key text) entries longer))
        other ≡ given (cond b (Some entry.1) (lookup (is_key other) entries))
        ++ added (pointwise nat_eq other text) place
    by true true one two there rest =
        rw (two, both text other entry.0.items one two)
        (more ∙ ap (λ items. items ++ place ∷ []) (sym (same_places there)))
    by true false one two there rest =
        rw (two, first_alone text other entry.0.items one two)
        (sym (append-nil (given (lookup (is_key other) entries))))
    by false true one two there rest =
        rw (two, second_alone text other entry.0.items one two) (sym (append-nil entry.1.items))
    by false false one two there rest = rw two (rest there)

-- the place is the first one of a text that was not there
pub places_at-new : (text other : List ℕ) (key places : Key) (place : ℕ) → key.items ≡ text
    → places.items ≡ place ∷ [] → (entries : List Entry) → lookup (is_key text) entries ≡ None
    → places_at (entries ++ (key, places) ∷ []) other ≡ places_at entries other
    ++ added (pointwise nat_eq other text) place
places_at-new text other key places place is first [] there =
    ap (λ items. given (cond (pointwise nat_eq other items) (Some places) None)) is
    ∙ by (pointwise nat_eq other text)
  where
    by : (b : Bool) → given (cond b (Some places) None) ≡ added b place
    by true = first
    by false = refl
places_at-new text other key places place is first (entry ∷ entries) there =
    by (is_key text entry.0) (is_key other entry.0) refl refl there
    (places_at-new text other key places place is first entries)
  where
    by : (a b : Bool) → is_key text entry.0 ≡ a → is_key other entry.0 ≡ b
        → cond a (Some entry.1) (lookup (is_key text) entries) ≡ None
        → (lookup (is_key text) entries ≡ None → places_at (entries ++ (key, places) ∷ []) other
        ≡ places_at entries other ++ added (pointwise nat_eq other text) place)
        → given (cond b (Some entry.1) (lookup (is_key other) (entries ++ (key, places) ∷ [])))
        ≡ given (cond b (Some entry.1) (lookup (is_key other) entries))
        ++ added (pointwise nat_eq other text) place
    by true b one two there rest = absurd (cc)
    by false true one two there rest =
        rw (second_alone text other entry.0.items one two) (sym (append-nil entry.1.items))
    by false false one two there rest = rest there

-- ---- the places of all texts together
pub all_places-set : (text : List ℕ) (places longer : Key) (place : ℕ) → longer.items ≡ places.items
    ++ place ∷ [] → (entries : List Entry) → lookup (is_key text) entries ≡ Some places
    → IsPermutation (all_places (set_value (is_key text) entries longer))
    (all_places entries ++ place ∷ [])
all_places-set text places longer place more [] there = absurd (cc)
all_places-set text places longer place more (entry ∷ entries) there =
    by (is_key text entry.0) there (all_places-set text places longer place more entries)
  where
    same_places : {key : Key} → Some key ≡ Some places → key.items ≡ places.items
    same_places is = cc

    apart : (items others : List ℕ) → (items ++ place ∷ []) ++ others ≡ items
        ++ (place ∷ [] ++ others)
    apart items others = append_assoc items (place ∷ []) others

    together : (items others : List ℕ) → (items ++ others) ++ place ∷ [] ≡ items
        ++ (others ++ place ∷ [])
    together items others = append_assoc items others (place ∷ [])

    moved : (items others : List ℕ)
        → IsPermutation ((items ++ place ∷ []) ++ others) ((items ++ others) ++ place ∷ [])
    moved items others =
        subst (λ ys. IsPermutation ((items ++ place ∷ []) ++ others) ys)
        (sym (together items others))
        (subst (λ xs. IsPermutation xs (items ++ (others ++ place ∷ []))) (sym (apart items others))
        (IsPermutation-append_right items (place ∷ [] ++ others) (others ++ place ∷ [])
        (IsPermutation-append_comm (place ∷ []) others)))

    by : (a : Bool) → cond a (Some entry.1) (lookup (is_key text) entries) ≡ Some places
        → (lookup (is_key text) entries ≡ Some places
        → IsPermutation (all_places (set_value (is_key text) entries longer))
        (all_places entries ++ place ∷ []))
        → IsPermutation
        (all_places
        (cond a ((entry.0, longer) ∷ entries) (entry ∷ set_value (is_key text) entries longer)))
        (all_places (entry ∷ entries) ++ place ∷ [])
    by true there rest =
        subst (λ items. IsPermutation (items ++ all_places entries)
        ((entry.1.items ++ all_places entries) ++ place ∷ []))
        (sym (more ∙ ap (λ items. items ++ place ∷ []) (sym (same_places there))))
        (moved entry.1.items (all_places entries))
    by false there rest =
        subst (λ ys.
        IsPermutation (entry.1.items ++ all_places (set_value (is_key text) entries longer)) ys)
        (sym (together entry.1.items (all_places entries)))
        (IsPermutation-append_right entry.1.items
        (all_places (set_value (is_key text) entries longer)) (all_places entries ++ place ∷ [])
        (rest there))

pub all_places-new : (key places : Key) (place : ℕ) → places.items ≡ place ∷ []
    → (entries : List Entry) → all_places (entries ++ (key, places) ∷ []) ≡ all_places entries
    ++ place ∷ []
all_places-new key places place first entries =
    flat_map-append (λ (entry : Entry). entry.1.items) entries ((key, places) ∷ [])
    ∙ ap (λ items. all_places entries ++ items) (append-nil places.items ∙ first)
