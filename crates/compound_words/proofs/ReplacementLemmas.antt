-- Words that pairs make, and which of them stand alone.
use Rattle.std.proofs.Common.{◌≡◌, ◌∙◌, refl, sym, ap, ap₂, ℕ, zero, suc, ◌+◌, ◌<◌, Bool, true}
use Rattle.std.proofs.Common.{false, cond, ◌&&◌, ◌||◌, List, [], ◌∷◌, map, get_or, length}
use Rattle.std.proofs.Common.{not-suc-le-zero, le_of_suc-le-suc}
use Rattle.std.specs.List.{filter, flat_map, list_any, range_with_len}
use Rattle.std.proofs.lemmas.List.Folds.{list_any_at, list_any-append}
use Rattle.spell_types.specs.lists.Laws.{contains-range, range_more}
use Rattle.spell_types.specs.declared.Lexicon.{Lexicon}
use Rattle.spell_types.specs.declared.derivations.Derivation.{Derivation}
use Rattle.spell_types.specs.declared.licences.Case.TheVariants.{Same}
use Rattle.spell_types.specs.Bases.{is_alone_in_case}
use Rattle.spell_types.specs.Derivations.{all_derivations}
use Rattle.spell_types.specs.Licences.{has_form, is_alone, is_derived}

-- ---- words that stand alone
-- a word is written as it is spelled
as-spelled : (lexicon : Lexicon) (d : Derivation)
    → is_alone_in_case Same lexicon d ≡ is_alone lexicon d
unfolding is_alone_in_case
as-spelled lexicon d = and-true (is_alone lexicon d)
  where
    and-true : (b : Bool) → (b && true) ≡ b
    and-true true = refl
    and-true false = refl

-- a word stands alone where one of its derivations does that may stand for it as it is written
pub alone_as_spelled : (lexicon : Lexicon) (word : List ℕ)
    → is_derived (is_alone_in_case Same) lexicon word ≡ is_derived is_alone lexicon word
alone_as_spelled lexicon word = each (all_derivations lexicon)
  where
    each : (ds : List Derivation)
        → list_any (λ d. is_alone_in_case Same lexicon d && has_form lexicon word d) ds
        ≡ list_any (λ d. is_alone lexicon d && has_form lexicon word d) ds
    each [] = refl
    each (d ∷ ds) =
        ap₂ (λ alone more. (alone && has_form lexicon word d) || more) (as-spelled lexicon d)
        (each ds)

-- ---- what is made at the places of a word that pass a test
module _ {X : Type 0} (make : ℕ → X) (test : ℕ → Bool) (holds : X → Bool) where
  abbrev made : List ℕ → List X
  made places = map make (filter test places)

  abbrev found_at : ℕ → Bool
  found_at place = test place && holds (make place)

  -- it holds of one of them where it is found at one of the places
  any-made : (places : List ℕ) → list_any holds (made places) ≡ list_any found_at places
  any-made [] = refl
  any-made (place ∷ places) = by (test place) (any-made places)
    where
      by : (b : Bool) {more : Bool} → list_any holds (made places) ≡ more
          → list_any holds (map make (cond b (place ∷ filter test places) (filter test places)))
          ≡ ((b && holds (make place)) || more)
      by true is = ap (λ more. holds (make place) || more) is
      by false is = is

  -- it holds of what is made at one place
  pub one_found : (count place : ℕ) → place < count → found_at place ≡ true
      → true ≡ list_any holds (made (range_with_len 0 count))
  one_found count place within found =
      let inside = contains-range count place within in
      sym (any-made (range_with_len 0 count)
      ∙ list_any_at found_at (range_with_len 0 count) inside.0 place inside.1
      (ap found_at inside.2 ∙ found))

  -- it holds of nothing that is made at one place more
  pub none_more : (place : ℕ) → found_at place ≡ false
      → list_any holds (made (range_with_len 0 place)) ≡ false
      → list_any holds (made (range_with_len 0 (place + 1))) ≡ false
  none_more place fails before =
      any-made (range_with_len 0 (place + 1))
      ∙ ap (list_any found_at) (range_more place)
      ∙ list_any-append found_at (range_with_len 0 place) (place ∷ [])
      ∙ ap₂ (λ earlier last. earlier || (last || false))
      (sym (any-made (range_with_len 0 place)) ∙ before) fails

-- ---- words that pairs make, one pair after another
pub pair_found : {X Y : Type 0} (make : X → List Y) (holds : Y → Bool) (xs : List X) (i : ℕ) (x : X)
    → i < length xs → x ≡ get_or xs i x → list_any holds (make x) ≡ true
    → true ≡ list_any holds (flat_map make xs)
pair_found make holds [] i x within at found = absurd (not-suc-le-zero within)
pair_found make holds (y ∷ xs) zero x within at found =
    sym (list_any-append holds (make y) (flat_map make xs)
    ∙ ap (λ b. b || list_any holds (flat_map make xs))
    (ap (λ z. list_any holds (make z)) (sym at) ∙ found))
pair_found make holds (y ∷ xs) (suc i) x within at found =
    or-true (list_any holds (make y))
    (pair_found make holds xs i x (le_of_suc-le-suc within) at found)
    ∙ sym (list_any-append holds (make y) (flat_map make xs))
  where
    or-true : (b : Bool) {c : Bool} → true ≡ c → true ≡ (b || c)
    or-true true is = refl
    or-true false is = is
