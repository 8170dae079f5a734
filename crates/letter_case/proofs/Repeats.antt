-- A list of words, and the same without repeats.
use Rattle.std.proofs.Common.{◌≡◌, ℕ, Bool, true, false, not, cond, ◌&&◌, ◌||◌, List, [], ◌∷◌, ◌++◌}
use Rattle.std.proofs.Common.{filter, fold, refl, sym, ap, ◌∙◌, append_assoc, append-nil}
use Rattle.std.proofs.lemmas.Grind.{fold-append}
use Rattle.std.proofs.lemmas.List.Folds.{list_any-append}
use Rattle.std.proofs.lemmas.Slice.Eq.{bytes_eq-Decides}
use Rattle.spell_types.specs.Cases.{is_same_word, is_among, without_repeats, covered_by}
use Rattle.spell_types.specs.Cases.{spellings_of_capital, spellings_of_capitals}
use Rattle.spell_types.specs.Cases.{spellings_of_sharps}
use Rattle.letter_case.specs.Found.{with_word}

-- two filters, one after the other, are one
filter-filter : {X : Type 0} (p q r : X → Bool) → ((x : X) → r x ≡ (q x && p x)) → (xs : List X)
    → filter p (filter q xs) ≡ filter r xs
filter-filter p q r both [] = refl
filter-filter p q r both (x ∷ xs) =
    let rest = filter-filter p q r both xs in
    rw (both x)
    (elim (q x) as
    (λ b. filter p (cond b (x ∷ filter q xs) (filter q xs)) ≡ cond (b && p x) (x ∷ filter r xs)
    (filter r xs)) [
      | true ↦ elim (p x) as
          (λ b. cond b (x ∷ filter p (filter q xs)) (filter p (filter q xs))
          ≡ cond b (x ∷ filter r xs) (filter r xs)) [
            | true ↦ ap (λ ys. x ∷ ys) rest
            | false ↦ rest
          ]
      | false ↦ rest
    ])

filter-all : {X : Type 0} (xs : List X) → filter (λ _. true) xs ≡ xs
filter-all [] = refl
filter-all (x ∷ xs) = ap (λ ys. x ∷ ys) (filter-all xs)

-- whether the words hold no word like this
abbrev is_new : List (List ℕ) → List ℕ → Bool
is_new words word = not (is_among words word)

pub same-≡ : (word other : List ℕ) → is_same_word word other ≡ true → word ≡ other
same-≡ word other same = (bytes_eq-Decides word other).0 same

-- a word that isn't among these is another than one that is
new_is_other : (words : List (List ℕ)) (word : List ℕ) → is_among words word ≡ true
    → (other : List ℕ) → is_new words other ≡ (not (is_same_word word other) && is_new words other)
new_is_other words word there other =
    elim (is_same_word word other) as
    (λ b. is_same_word word other ≡ b → is_new words other ≡ (not b && is_new words other)) [
      | true ↦ λ same. ap not (sym (ap (is_among words) (same-≡ word other same)) ∙ there)
      | false ↦ λ _. refl
    ] refl

new_at_push : (words : List (List ℕ)) (word other : List ℕ)
    → is_new (words ++ word ∷ []) other ≡ (not (is_same_word word other) && is_new words other)
new_at_push words word other =
    ap not (list_any-append (λ w. is_same_word w other) words (word ∷ []))
    ∙ (elim (is_same_word word other) as
    (λ b. not (is_among words other || (b || false)) ≡ (not b && is_new words other)) [
      | true ↦ elim (is_among words other) as (λ b. not (b || true) ≡ false)
          [ true ↦ refl | false ↦ refl ]
      | false ↦ elim (is_among words other) as (λ b. not (b || false) ≡ not b)
          [ true ↦ refl | false ↦ refl ]
    ])

-- adding words one by one, each unless it is there, leaves them without repeats
pub fold-with_word : (words more : List (List ℕ))
    → fold with_word words more ≡ words ++ filter (is_new words) (without_repeats more)
fold-with_word words [] = sym (append-nil words)
fold-with_word words (word ∷ more) =
    elim (is_among words word) as
    (λ b. is_among words word ≡ b
    → fold with_word (cond b words (words ++ word ∷ [])) more ≡ words ++ cond (not b)
    (word ∷ filter (is_new words)
    (filter (λ other. not (is_same_word word other)) (without_repeats more))) (filter (is_new words)
    (filter (λ other. not (is_same_word word other)) (without_repeats more)))) [
      | true ↦ λ there. fold-with_word words more
          ∙ ap (λ found. words ++ found)
          (sym (filter-filter (is_new words) (λ other. not (is_same_word word other)) (is_new words)
          (new_is_other words word there) (without_repeats more)))
      | false ↦ λ _. fold-with_word (words ++ word ∷ []) more
          ∙ (append_assoc words (word ∷ []) _
          ∙ ap (λ found. words ++ (word ∷ found))
          (sym (filter-filter (is_new words) (λ other. not (is_same_word word other))
          (is_new (words ++ word ∷ [])) (new_at_push words word) (without_repeats more))))
    ] refl

-- what is found in the end, from what was found step by step
pub found_are_covered : (sharps : Bool) (word made : List ℕ)
    (start first then next last : List (List ℕ)) → start ≡ [] → made ≡ word
    → first ≡ with_word start made
    → then ≡ fold with_word first (spellings_of_capital word)
    → next ≡ fold with_word then (spellings_of_capitals word)
    → last ≡ fold with_word next (spellings_of_sharps sharps word) → last ≡ covered_by sharps word
unfolding covered_by
found_are_covered sharps word made start first then next last none same one two three four =
    four ∙ ap (λ found. fold with_word found (spellings_of_sharps sharps word))
    (three ∙ ap (λ found. fold with_word found (spellings_of_capitals word))
    (two ∙ ap (λ found. fold with_word found (spellings_of_capital word)) begun))
    ∙ sym (fold-append with_word (fold with_word (word ∷ []) (spellings_of_capital word))
    (spellings_of_capitals word) (spellings_of_sharps sharps word))
    ∙ sym (fold-append with_word (word ∷ []) (spellings_of_capital word)
    (spellings_of_capitals word ++ spellings_of_sharps sharps word))
    ∙ fold-with_word []
    (word ∷ (spellings_of_capital word ++
    (spellings_of_capitals word ++ spellings_of_sharps sharps word)))
    ∙ filter-all (without_repeats
    (word ∷ (spellings_of_capital word ++
    (spellings_of_capitals word ++ spellings_of_sharps sharps word))))
  where
    begun : first ≡ with_word [] word
    begun = one ∙ ap (λ words. with_word words made) none ∙ ap (with_word []) same
