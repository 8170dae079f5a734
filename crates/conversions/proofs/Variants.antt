-- What is made at the places of a word that pass a test, one place more.
use Rattle.std.proofs.Common.{◌≡◌, ◌∙◌, sym, ap, ℕ, ◌+◌, Bool, true, false, List, [], ◌∷◌, ◌++◌}
use Rattle.std.proofs.Common.{cond, map, append_assoc}
use Rattle.std.specs.List.{filter, range_with_len}
use Rattle.std.proofs.lemmas.List.{append-nil, map-append}
use Rattle.std.proofs.lemmas.List.Elements.{filter-append}
use Rattle.spell_types.specs.lists.Laws.{range_more}

module _ {X : Type 0} (make : ℕ → X) (test : ℕ → Bool) where
  abbrev pub made_before : ℕ → List X
  made_before place = map make (filter test (range_with_len 0 place))

  pub one_more : (place : ℕ) (b : Bool) → test place ≡ b
      → made_before (place + 1) ≡ made_before place ++ map make (cond b (place ∷ []) [])
  one_more place b is =
      ap (λ places. map make (filter test places)) (range_more place)
      ∙ ap (map make) (filter-append test (range_with_len 0 place) (place ∷ []))
      ∙ map-append make (filter test (range_with_len 0 place)) (filter test (place ∷ []))
      ∙ ap (λ t. made_before place ++ map make (cond t (place ∷ []) [])) is

  pub place_added : (old found now : List X) (place : ℕ) (x : X) → test place ≡ true
      → x ≡ make place → found ≡ old ++ made_before place → now ≡ found ++ x ∷ []
      → now ≡ old ++ made_before (place + 1)
  place_added old found now place x passes is before grown =
      grown ∙ ap (λ y. found ++ y ∷ []) is ∙ ap (λ xs. xs ++ make place ∷ []) before
      ∙ append_assoc old (made_before place) (make place ∷ [])
      ∙ ap (λ xs. old ++ xs) (sym (one_more place true passes))

  pub place_passed_over : (old found : List X) (place : ℕ) → test place ≡ false
      → found ≡ old ++ made_before place → found ≡ old ++ made_before (place + 1)
  place_passed_over old found place fails before =
      before ∙ ap (λ xs. old ++ xs)
      (sym (one_more place false fails ∙ append-nil (made_before place)))
