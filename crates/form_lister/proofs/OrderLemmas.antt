-- Lists of words that rise by their characters, and the sets of these words.
use Rattle.std.proofs.Common.{◌≡◌, ◌∙◌, ◌↔◌, refl, sym, ap, ℕ, Bool, true, false, T}
use Rattle.std.proofs.Common.{true≢false, List, [], ◌∷◌, map, Contains, Option, None, Some}
use Rattle.std.proofs.Common.{is_some, Ordering, Less, Equal, Greater}
use Rattle.std.specs.Cmp.{IsEquivalence}
use Rattle.std.specs.FinMap.{entries, entries_sorted, keys, find, is_sorted, contains_key-keys}
use Rattle.std.specs.FinMap.{get-from_entries, IsAntisymmetric, nat_cmp-IsAntisymmetric}
use Rattle.std.specs.FinMap.{slice_cmp-IsAntisymmetric}
use Rattle.std.specs.FinMap.Entries.{below_all, is_some-find, same_entries}
use Rattle.std.specs.List.{AllByRecursion, list_any}
use Rattle.std.specs.List.Sorted.{IsStrictlySortedBy}
use Rattle.std.specs.Ordering.{eq_by_cmp, is_lt}
use Rattle.std.proofs.lemmas.Bool.{and_parts, and_from}
use Rattle.std.proofs.lemmas.Cmp.{eq_by_cmp_equiv, nat_list_cmp_total}
use Rattle.std.proofs.lemmas.Map.Views.{Contains-from_any, list_any-from_Contains, tells_apart}
use Rattle.form_lister.specs.Forms.{by_characters, word_set}

-- ---- the order tells words apart
apart : IsAntisymmetric by_characters
apart = slice_cmp-IsAntisymmetric nat_cmp-IsAntisymmetric

alike : IsEquivalence (eq_by_cmp by_characters)
alike = eq_by_cmp_equiv nat_list_cmp_total

one-word : (word other : List ℕ) → eq_by_cmp by_characters word other ≡ true → word ≡ other
one-word word other same = tells_apart apart word other same

-- ---- rows that rise, and their words
is-true : (b : Bool) → T b → b ≡ true
is-true true is = refl
is-true false is = absurd is

from-true : (b : Bool) → b ≡ true → T b
from-true true is = tt
from-true false is = absurd (true≢false (sym is))

is-less : (o : Ordering) → is_lt o ≡ true → o ≡ Less
is-less Less is = refl
is-less Equal is = absurd (true≢false (sym is))
is-less Greater is = absurd (true≢false (sym is))

abbrev Rows : Type 0
Rows = List (List ℕ × Unit {0})

abbrev rows : List (List ℕ) → Rows
rows words = map (λ word. (word, tt)) words

words-of : (words : List (List ℕ)) → map (λ row. row.0) (rows words) ≡ words
words-of [] = refl
words-of (word ∷ words) = ap (λ more. word ∷ more) (words-of words)

above : (word : List ℕ) (es : Rows) → below_all by_characters word es ≡ true
    → AllByRecursion (λ other. by_characters word other ≡ Less) (map (λ row. row.0) es)
above word [] is = tt
above word (row ∷ es) is =
    let parts = and_parts (is_lt (by_characters word row.0)) (below_all by_characters word es) is in
    (is-less (by_characters word row.0) parts.0, above word es parts.1)

rises : (es : Rows) → is_sorted by_characters es ≡ true
    → IsStrictlySortedBy by_characters (map (λ row. row.0) es)
unfolding IsStrictlySortedBy
rises [] is = tt
rises (row ∷ es) is =
    let parts = and_parts (below_all by_characters row.0 es) (is_sorted by_characters es) is in
    (above row.0 es parts.0, rises es parts.1)

below : (word : List ℕ) (words : List (List ℕ))
    → AllByRecursion (λ other. by_characters word other ≡ Less) words
    → below_all by_characters word (rows words) ≡ true
below word [] all = refl
below word (other ∷ words) all =
    and_from (is_lt (by_characters word other)) (below_all by_characters word (rows words))
    (ap is_lt all.0) (below word words all.1)

sorted : (words : List (List ℕ)) → IsStrictlySortedBy by_characters words
    → is_sorted by_characters (rows words) ≡ true
unfolding IsStrictlySortedBy
sorted [] rising = refl
sorted (word ∷ words) rising =
    and_from (below_all by_characters word (rows words)) (is_sorted by_characters (rows words))
    (below word words rising.0) (sorted words rising.1)

-- ---- sets
-- the words of a set rise
pub set-rises : (words : List (List ℕ)) → IsStrictlySortedBy by_characters (keys (word_set words))
set-rises words =
    rises (entries (word_set words))
    (is-true (is_sorted by_characters (entries (word_set words))) (entries_sorted (word_set words)))

-- what a look-up finds, by the words
found-word : (words : List (List ℕ)) (word : List ℕ)
    → is_some (find by_characters word (rows words)) ≡ list_any (eq_by_cmp by_characters word) words
found-word words word =
    is_some-find by_characters word (rows words)
    ∙ ap (list_any (eq_by_cmp by_characters word)) (words-of words)

-- and those of the set of a list are its words
pub set-members : (words : List (List ℕ)) (word : List ℕ)
    → Contains (keys (word_set words)) word ↔ Contains words word
set-members words word =
    let all = keys (word_set words) in
    let told : list_any (eq_by_cmp by_characters word) all
    ≡ list_any (eq_by_cmp by_characters word) words =
    sym (contains_key-keys (word_set words) word)
    ∙ ap is_some (get-from_entries nat_list_cmp_total (rows words) word)
    ∙ found-word words word in (
      λ inside. Contains-from_any one-word word words
          (sym told ∙ list_any-from_Contains alike word all inside),
      λ inside. Contains-from_any one-word word all
          (told ∙ list_any-from_Contains alike word words inside),
    )

same-answer : (a b : Bool) → (a ≡ true → b ≡ true) → (b ≡ true → a ≡ true) → a ≡ b
same-answer true b there back = sym (there refl)
same-answer false true there back = back refl
same-answer false false there back = refl

nothing-else : (found other : Option (Unit {0})) → is_some found ≡ is_some other → found ≡ other
nothing-else None None same = refl
nothing-else None (Some other) same = absurd (true≢false (sym same))
nothing-else (Some found) None same = absurd (true≢false same)
nothing-else (Some found) (Some other) same = refl

-- two lists that rise and have the same words are one
pub same-list : (words others : List (List ℕ)) → IsStrictlySortedBy by_characters words
    → IsStrictlySortedBy by_characters others
    → ((word : List ℕ) → Contains words word ↔ Contains others word) → words ≡ others
same-list words others rising rising' same =
    sym (words-of words)
    ∙ ap (map (λ row. row.0)) (same_entries by_characters nat_list_cmp_total apart (rows words)
    (rows others)
    (from-true (is_sorted by_characters (rows words)) (sorted words rising))
    (from-true (is_sorted by_characters (rows others)) (sorted others rising'))
    (λ word. nothing-else (find by_characters word (rows words))
    (find by_characters word (rows others))
    (found-word words word
    ∙ same-answer (list_any (eq_by_cmp by_characters word) words)
    (list_any (eq_by_cmp by_characters word) others)
    (λ has. list_any-from_Contains alike word others
    ((same word).0 (Contains-from_any one-word word words has)))
    (λ has. list_any-from_Contains alike word words
    ((same word).1 (Contains-from_any one-word word others has)))
    ∙ sym (found-word others word))))
    ∙ words-of others
