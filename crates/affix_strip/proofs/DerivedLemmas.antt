-- What holds of licensed derivations alone holds of one of a word's where it holds of one of all
-- that there are.
use Rattle.std.proofs.Common.{◌≡◌, ◌∙◌, refl, ap, ℕ, Bool, true, false, cond, ◌&&◌, ◌||◌, List, []}
use Rattle.std.proofs.Common.{◌∷◌, Option, None, Some}
use Rattle.std.specs.List.{filter, list_any}
use Rattle.std.proofs.lemmas.Bool.{and_parts}
use Rattle.spell_types.specs.declared.Lexicon.{Lexicon}
use Rattle.spell_types.specs.declared.derivations.Derivation.{Derivation}
use Rattle.spell_types.specs.declared.licences.Case.{Case}
use Rattle.spell_types.specs.Bases.{is_alone_in_case}
use Rattle.spell_types.specs.Derivations.{Named, named, all_derivations}
use Rattle.spell_types.specs.Licences.{is_allowed, holds_of, has_form, meets_need, meets_circumfix}
use Rattle.spell_types.specs.Licences.{meets_signs, is_alone, is_licensed, is_forbidden, is_derived}
use Rattle.spell_types.specs.Licences.{is_barred}
use Rattle.affix_strip.specs.Found.{derivations_of}

-- ---- among the licensed
module _ (holds licensed form : Derivation → Bool)
    (implied : (d : Derivation) → holds d ≡ true → licensed d ≡ true) where
  any-licensed : (ds : List Derivation) → list_any holds (filter (λ d. licensed d && form d) ds)
      ≡ list_any (λ d. holds d && form d) ds
  any-licensed [] = refl
  any-licensed (d ∷ ds) = by (any-licensed ds) (holds d) (licensed d) (form d) refl (implied d)
    where
      kept : List Derivation
      kept = filter (λ e. licensed e && form e) ds

      by : {rest : Bool} → list_any holds kept ≡ rest → (h l f : Bool) → holds d ≡ h
          → (h ≡ true → l ≡ true)
          → list_any holds (cond (l && f) (d ∷ kept) kept) ≡ ((h && f) || rest)
      by more true true true is so = ap (λ b. b || list_any holds kept) is
      by more true true false is so = more
      by more true false f is so = absurd (cc (so refl))
      by more false true true is so = ap (λ b. b || list_any holds kept) is ∙ more
      by more false true false is so = more
      by more false false f is so = more

-- a test that licensed derivations alone pass finds the same among those of a word and among all
derived-found : (holds : Lexicon → Derivation → Bool) (lexicon : Lexicon) (word : List ℕ)
    → ((d : Derivation) → holds lexicon d ≡ true → is_licensed lexicon d ≡ true)
    → list_any (holds lexicon) (derivations_of lexicon word) ≡ is_derived holds lexicon word
unfolding derivations_of
derived-found holds lexicon word implied =
    any-licensed (holds lexicon) (is_licensed lexicon) (has_form lexicon word) implied
    (all_derivations lexicon)

-- ---- who is licensed
-- a derivation that meets the signs, and of which more holds, is licensed
has-licence : (lexicon : Lexicon) (more : Named → Bool) (found : Option Named)
    → holds_of (λ n. meets_signs lexicon.affixes.signs n && more n) found ≡ true
    → holds_of is_allowed found ≡ true
has-licence lexicon more None holds = holds
has-licence lexicon more (Some n) holds =
    (and_parts (is_allowed n)
    (meets_need lexicon.affixes.signs.need_affix n
    && meets_circumfix lexicon.affixes.signs.circumfix n)
    (and_parts (meets_signs lexicon.affixes.signs n) (more n) holds).0).0

forbidden-licensed : (lexicon : Lexicon) (d : Derivation) → is_forbidden lexicon d ≡ true
    → is_licensed lexicon d ≡ true
unfolding is_forbidden is_licensed
forbidden-licensed lexicon d = has-licence lexicon _ (named lexicon d)

alone-licensed : (case : Case) (lexicon : Lexicon) (d : Derivation)
    → is_alone_in_case case lexicon d ≡ true → is_licensed lexicon d ≡ true
unfolding is_alone_in_case is_alone is_licensed
alone-licensed case lexicon d in_case =
    has-licence lexicon _ (named lexicon d) (and_parts _ _ in_case).0

-- ---- the questions
pub barred_found : (lexicon : Lexicon) (word : List ℕ)
    → list_any (is_forbidden lexicon) (derivations_of lexicon word) ≡ is_barred lexicon word
unfolding is_barred
barred_found lexicon word = derived-found is_forbidden lexicon word (forbidden-licensed lexicon)

pub alone_found : (case : Case) (spelling : List ℕ) (lexicon : Lexicon)
    → list_any (is_alone_in_case case lexicon) (derivations_of lexicon spelling)
    ≡ is_derived (is_alone_in_case case) lexicon spelling
alone_found case spelling lexicon =
    derived-found (is_alone_in_case case) lexicon spelling (alone-licensed case lexicon)
