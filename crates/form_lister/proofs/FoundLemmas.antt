-- What is found stays so as words are put in, and how many forms there are at least.
use Rattle.std.proofs.Common.{◌≡◌, ◌∙◌, ◌⊎◌, inl, inr, refl, sym, ap, subst, ℕ, ◌+◌, ◌==◌, ◌<◌, ◌≤◌}
use Rattle.std.proofs.Common.{Bool, true, false, true≢false, List, [], ◌∷◌, ◌++◌, length, nat_eq}
use Rattle.std.proofs.Common.{get_or, Contains, Ordering, Less, Equal, Greater, arith}
use Rattle.std.proofs.Common.{if◌then◌else◌, ◌↔◌}
use Rattle.std.specs.Cmp.Lexicographic.{pointwise}
use Rattle.std.specs.List.{IsDistinct, list_any}
use Rattle.std.specs.List.Sorted.{IsSorted, IsPermutation}
use Rattle.std.specs.Ordering.{is_eq, is_lt, ordering_reverse}
use Rattle.std.proofs.lemmas.Bool.Decides.{nat_tests}
use Rattle.std.proofs.lemmas.Cmp.{nat_list_cmp_total, nat_list_eq_equiv}
use Rattle.std.proofs.lemmas.List.Elements.{Contains-append_left, Contains-push_cases}
use Rattle.std.proofs.lemmas.List.Sorted.{Contains-permutation, IsPermutation-sym}
use Rattle.std.proofs.lemmas.List.Sorted.{length_permutation}
use Rattle.std.proofs.lemmas.Map.Keys.{IsDistinct-IsPermutation, apart_from_distinct}
use Rattle.std.proofs.lemmas.Map.Keys.{sorted_from_all_adjacent}
use Rattle.std.proofs.lemmas.Map.Made.{length-le_from_is_member}
use Rattle.std.proofs.lemmas.Map.Text.{is_eq-slice_cmp}
use Rattle.std.proofs.lemmas.Map.Views.{Contains-from_any, list_any-from_Contains}
use Rattle.std.proofs.lemmas.Slice.Eq.{bytes_eq-Decides}
use Rattle.indexmap.specs.IndexSet.{insert_key}
use Rattle.indexmap.proofs.CallerLemmas.{Contains-insert_key}
use Rattle.spell_types.specs.declared.Lexicon.{Lexicon}
use Rattle.spell_types.specs.Licences.{is_barred}
use Rattle.form_lister.specs.Forms.{by_characters, IsForm, forms_of}
use Rattle.form_lister.specs.Found.{AreFound, HasAll, KeepsWords, HasForm, AreFormsSorted}
use Rattle.form_lister.specs.declared.found.Found.{Found}
use Rattle.form_lister.proofs.FormLemmas.{FormsLaw, are-forms}

-- ---- words in sets
one-word : (word other : List ℕ) → pointwise nat_eq word other ≡ true → word ≡ other
one-word word other same = (bytes_eq-Decides word other).0 same

in-set : (words : List (List ℕ)) (word : List ℕ) → list_any (pointwise nat_eq word) words ≡ true
    → Contains words word
in-set words word has = Contains-from_any one-word word words has

kept-in : (words : List (List ℕ)) (word other : List ℕ) → Contains words other
    → Contains (insert_key (pointwise nat_eq) words word) other
kept-in words word other inside = by (list_any (pointwise nat_eq word) words)
  where
    by : (b : Bool) → Contains (if b then words else words ++ word ∷ []) other
    by true = inside
    by false = Contains-append_left words (word ∷ []) other inside

put-or-kept : (words : List (List ℕ)) (word other : List ℕ)
    → Contains (insert_key (pointwise nat_eq) words word) other
    → Contains words other ⊎ (word ≡ other)
put-or-kept words word other = by (list_any (pointwise nat_eq word) words)
  where
    by : (b : Bool) → Contains (if b then words else words ++ word ∷ []) other
        → Contains words other ⊎ (word ≡ other)
    by true inside = inl inside
    by false inside = Contains-push_cases words word other inside

-- ---- a word that is known
pub no-word : (lexicon : Lexicon) (word : List ℕ) (found : Found) → (length word == 0) ≡ true
    → HasForm lexicon word found
no-word lexicon word found empty nonempty free = absurd (grind (arith, nat_tests, empty, nonempty))

pub known-form : (lexicon : Lexicon) (word : List ℕ) (found : Found)
    → list_any (pointwise nat_eq word) found.words.keys ≡ true
    → HasForm lexicon word found
known-form lexicon word found has nonempty free = in-set found.words.keys word has

pub known-barred : (lexicon : Lexicon) (limit : ℕ) (word : List ℕ) (found : Found)
    → AreFound lexicon limit found → list_any (pointwise nat_eq word) found.barred.keys ≡ true
    → HasForm lexicon word found
known-barred lexicon limit word found are has nonempty free =
    absurd (true≢false (sym (are.barred word (in-set found.barred.keys word has)) ∙ free))

pub barred-form : (lexicon : Lexicon) (word : List ℕ) (found : Found)
    → is_barred lexicon word ≡ true → HasForm lexicon word found
barred-form lexicon word found barred nonempty free = absurd (true≢false (sym barred ∙ free))

-- ---- a word that is new
pub some-word : (word : List ℕ) → (length word == 0) ≡ false → 0 < length word
some-word word some = grind (arith, nat_tests, some)

pub barred-more : (lexicon : Lexicon) (limit : ℕ) (word : List ℕ) (before now : Found)
    → AreFound lexicon limit before → is_barred lexicon word ≡ true
    → now.words.keys ≡ before.words.keys
    → now.barred.keys ≡ insert_key (pointwise nat_eq) before.barred.keys word
    → AreFound lexicon limit now
barred-more lexicon limit word before now are barred same put = record {
  words = λ other inside. are.words other (subst (λ ws. Contains ws other) same inside);
  barred = λ other inside. by other
      (put-or-kept before.barred.keys word other (subst (λ ws. Contains ws other) put inside));
  few = subst (λ ws. length ws ≤ limit) (sym same) are.few;
}
  where
    by : (other : List ℕ) → Contains before.barred.keys other ⊎ (word ≡ other)
        → is_barred lexicon other ≡ true
    by other (inl inside) = are.barred other inside
    by other (inr is) = subst (λ w. is_barred lexicon w ≡ true) is barred

module _ (lexicon : Lexicon) (limit : ℕ) (word : List ℕ) (before now : Found)
    (are : AreFound lexicon limit before)
    (put : now.words.keys ≡ insert_key (pointwise nat_eq) before.words.keys word) where
  pub word-kept : KeepsWords before now
  word-kept other inside =
      subst (λ ws. Contains ws other) (sym put) (kept-in before.words.keys word other inside)

  pub word-there : HasForm lexicon word now
  word-there nonempty free =
      subst (λ ws. Contains ws word) (sym put)
      (Contains-insert_key (pointwise nat_eq) one-word before.words.keys word)

  all-forms : IsForm lexicon word → (other : List ℕ) → Contains now.words.keys other
      → IsForm lexicon other
  all-forms form other inside =
      by (put-or-kept before.words.keys word other (subst (λ ws. Contains ws other) put inside))
    where
      by : Contains before.words.keys other ⊎ (word ≡ other) → IsForm lexicon other
      by (inl before) = are.words other before
      by (inr is) = subst (IsForm lexicon) is form

  pub word-more : IsForm lexicon word → now.barred.keys ≡ before.barred.keys
      → length now.words.keys ≤ limit
      → AreFound lexicon limit now
  word-more form same few = record {
    words = all-forms form;
    barred = λ other inside. are.barred other (subst (λ ws. Contains ws other) same inside);
    few = few;
  }

  -- as no word stands there twice, the forms are no fewer
  pub no-fewer : ((lexicon : Lexicon) (word : List ℕ)
      → Contains (forms_of lexicon) word ↔ IsForm lexicon word)
      → IsForm lexicon word → IsDistinct (pointwise nat_eq) now.words.keys
      → length now.words.keys ≤ length (forms_of lexicon)
  no-fewer law form unique =
      length-le_from_is_member nat_list_eq_equiv now.words.keys (forms_of lexicon) unique
      (λ other has. list_any-from_Contains nat_list_eq_equiv other (forms_of lexicon)
      ((law lexicon other).1 (all-forms form other (in-set now.words.keys other has))))

-- ---- the list
by-order : (o other : Ordering) → other ≡ ordering_reverse o → is_lt other ≡ false → is_eq o ≡ false
    → o ≡ Less
by-order Less other back above apart = refl
by-order Equal other back above apart = absurd (true≢false apart)
by-order Greater other back above apart = absurd (true≢false (sym (ap is_lt back) ∙ above))

pub in-order : (words list : List (List ℕ)) → IsDistinct (pointwise nat_eq) words
    → IsPermutation words list → IsSorted by_characters list
    → AreFormsSorted words list
in-order words list unique moved sorted = record {
  rising = sorted_from_all_adjacent nat_list_cmp_total list [] (λ k within.
      let word = get_or list k [] in
      let next = get_or list (k + 1) [] in
      by-order (by_characters word next) (by_characters next word)
      (nat_list_cmp_total.antisymm next word) (sorted k [] (omega arith) within)
      (is_eq-slice_cmp word next
      ∙ apart_from_distinct (pointwise nat_eq) list k (k + 1) []
      (IsDistinct-IsPermutation (pointwise nat_eq) nat_list_eq_equiv.symm words list moved unique)
      (omega arith) within));
  same = λ word. (
    λ inside. Contains-permutation list words word (IsPermutation-sym words list moved) inside,
    λ inside. Contains-permutation words list word moved inside,
  );
  long = length_permutation words list moved;
}

-- where all forms were found it is the list of the forms
pub list-is : (lexicon : Lexicon) (limit : ℕ) (found : Found) (list : List (List ℕ)) → FormsLaw
    → AreFound lexicon limit found → HasAll lexicon found → AreFormsSorted found.words.keys list
    → list ≡ forms_of lexicon
list-is lexicon limit found list law are all sorted =
    are-forms law lexicon list sorted.rising (λ word. (
      λ inside. are.words word ((sorted.same word).0 inside),
      λ form. (sorted.same word).1 (all word form),
    ))
