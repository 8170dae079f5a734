-- A dictionary without words generates the numbers, and nothing else.
use Rattle.std.proofs.Common.{◌≡◌, ◌∙◌, refl, ap, ℕ, zero, suc, ◌==◌, Bool, true, false}
use Rattle.std.proofs.Common.{◌&&◌, ◌||◌, List, [], ◌∷◌, length, nat_le}
use Rattle.std.specs.List.{list_any}
use Rattle.mark_types.specs.spell_types.Bases.{is_base, is_right_spelling, compound_question}
use Rattle.mark_types.specs.spell_types.Breaks.{is_broken, is_broken_within}
use Rattle.mark_types.specs.spell_types.Cases.{covered_by, is_same_word}
use Rattle.mark_types.specs.spell_types.Compounds.{is_compound, is_made_up, make_up, lists_within}
use Rattle.mark_types.specs.spell_types.Conversions.{converted, best_fit}
use Rattle.mark_types.specs.spell_types.Licences.{is_barred}
use Rattle.mark_types.specs.spell_types.Numbers.{is_number}
use Rattle.mark_types.specs.spell_types.Yields.{accepts, is_accepted_undotted, is_broken_by}
use Rattle.mark_types.specs.spell_types.Yields.{looked_up}
use Rattle.mark_types.specs.spell_types.Yields.{most_characters, yields}
use Rattle.mark_types.specs.spell_types.Blank.{blank_lexicon}

none-any : {X : Type 0} (P : X → Bool) → ((x : X) → P x ≡ false) → (xs : List X)
    → list_any P xs ≡ false
none-any P none [] = refl
none-any P none (x ∷ xs) = ap (λ b. b || list_any P xs) (none x) ∙ none-any P none xs

and-false : (b : Bool) → (b && false) ≡ false
and-false true = refl
and-false false = refl

or-false : (b : Bool) → (b || false) ≡ b
or-false true = refl
or-false false = refl

no_parts : (written spelling word : List ℕ)
    → is_made_up (compound_question blank_lexicon written spelling) word ≡ false
unfolding is_made_up make_up
no_parts written spelling word = by (length word)
  where
    by : (bound : ℕ)
        → list_any (make_up (compound_question blank_lexicon written spelling) word) (lists_within bound [])
        ≡ false
    by zero = ap (λ b. b || false) (and-false (is_same_word [] word))
    by (suc bound) = ap (λ b. b || false) (and-false (is_same_word [] word))

no_spelling : (written spelling : List ℕ) → is_right_spelling blank_lexicon written spelling ≡ false
unfolding is_right_spelling is_compound is_barred
no_spelling written spelling = ap (λ b. b && true) (no_parts written spelling spelling)

no_base : (word : List ℕ) → is_base blank_lexicon word ≡ false
unfolding is_base is_barred
no_base word =
    none-any (is_right_spelling blank_lexicon word) (no_spelling word) (covered_by false word)

no_pieces : (word : List ℕ) → is_broken_by blank_lexicon word ≡ false
unfolding is_broken_by is_broken is_barred
no_pieces word = by (length word)
  where
    by : (bound : ℕ)
        → is_broken_within (is_base blank_lexicon) (is_barred blank_lexicon) [] bound word ≡ false
    by zero = no_base word
    by (suc bound) = ap (λ b. b || false) (no_base word)

as_written : (written : List ℕ) → looked_up blank_lexicon written ≡ written
unfolding looked_up converted best_fit
as_written [] = refl
as_written (c ∷ rest) = ap (λ more. c ∷ more) (as_written rest)

numbers : (word : List ℕ)
    → accepts blank_lexicon word ≡ ((length word == 0) || is_number word)
unfolding accepts is_accepted_undotted
numbers word =
    ap (λ b. (length word == 0)
    || (is_number word || (nat_le (length word) most_characters && (b || false)))) (no_pieces word)
    ∙ ap (λ b. (length word == 0) || (is_number word || b)) (and-false (nat_le (length word) most_characters))
    ∙ ap (λ b. (length word == 0) || b) (or-false (is_number word))

pub yields_numbers : (written : List ℕ)
    → yields blank_lexicon written ≡ ((length written == 0) || is_number written)
unfolding yields
yields_numbers written = ap (accepts blank_lexicon) (as_written written) ∙ numbers written
