-- A dictionary accepts its forms.
use Rattle.std.proofs.Common.{◌≡◌, ◌∙◌, refl, ap, ℕ, zero, suc, ◌==◌, ◌≤◌, Bool}
use Rattle.std.proofs.Common.{true, not, ◌&&◌, ◌||◌, List, length, nat_le}
use Rattle.std.proofs.Common.{arith, if◌then◌else◌}
use Rattle.std.specs.List.{list_any, list_all}
use Rattle.std.proofs.lemmas.Bool.{and_from, or_left, or_right}
use Rattle.std.proofs.lemmas.Bool.Decides.{nat_tests}
use Rattle.std.proofs.lemmas.Cmp.{nat_list_eq_equiv}
use Rattle.spell_types.specs.lists.Laws.{any-contains}
use Rattle.spell_types.specs.declared.Lexicon.{Lexicon}
use Rattle.spell_types.specs.declared.breaks.Anchored.{Anchored}
use Rattle.spell_types.specs.declared.licences.Case.TheVariants.{Same, Sharp, Other}
use Rattle.spell_types.specs.Bases.{case_of, is_sharp_case, is_alone_in_case, is_right_spelling}
use Rattle.spell_types.specs.Bases.{is_base, compound_question}
use Rattle.spell_types.specs.Breaks.{is_broken, is_broken_within, ways_to_break}
use Rattle.spell_types.specs.Cases.{is_same_word, covered_by}
use Rattle.spell_types.specs.Compounds.{is_compound}
use Rattle.spell_types.specs.Derivations.{all_derivations}
use Rattle.spell_types.specs.Licences.{is_alone, is_derived, is_barred, is_word, has_form}
use Rattle.spell_types.specs.Numbers.{is_number}
use Rattle.spell_types.specs.Yields.{looked_up, is_broken_by, is_accepted_undotted, accepts}
use Rattle.spell_types.specs.Yields.{most_characters, yields}
use Rattle.form_lister.specs.Forms.{IsForm}
use Rattle.form_lister.proofs.FormLemmas.{Members, among-all}

same-word : (word : List ℕ) → is_same_word word word ≡ true
same-word word = nat_list_eq_equiv.refl word

-- a word that is spelled as it is written has its own case
own-case : (sharps : Bool) (word : List ℕ) → case_of sharps word word ≡ Same
unfolding case_of
own-case sharps word =
    ap (λ b. if b then Same else (if sharps && is_sharp_case word word then Sharp else Other))
    (same-word word)

-- its derivation stands for it
module _ (law : Members) (lexicon : Lexicon) (word : List ℕ) (is : IsForm lexicon word) where
  stands : is_derived (is_alone_in_case Same) lexicon word ≡ true
  unfolding is_alone_in_case
  stands =
      let d = is.stands.derivation in
      any-contains (λ d. is_alone_in_case Same lexicon d && has_form lexicon word d)
      (all_derivations lexicon) d
      (among-all law lexicon word d is.stands.alone is.stands.gives)
      (and_from (is_alone_in_case Same lexicon d) (has_form lexicon word d)
      (and_from (is_alone lexicon d) true is.stands.alone refl)
      (ap (is_word word) is.stands.gives ∙ same-word word))

  right : is_right_spelling lexicon word word ≡ true
  unfolding is_right_spelling
  right =
      let sharps = lexicon.affixes.options.sharps in
      and_from (not (is_barred lexicon word))
      (is_derived (is_alone_in_case (case_of sharps word word)) lexicon word
      || is_compound (compound_question lexicon word word) word) (ap not is.free)
      (or_left (is_derived (is_alone_in_case (case_of sharps word word)) lexicon word)
      (is_compound (compound_question lexicon word word) word)
      (ap (λ case. is_derived (is_alone_in_case case) lexicon word) (own-case sharps word)
      ∙ stands))

  base : is_base lexicon word ≡ true
  unfolding is_base covered_by
  base =
      and_from (not (is_barred lexicon word))
      (list_any (is_right_spelling lexicon word)
      (covered_by lexicon.affixes.options.sharps word)) (ap not is.free)
      (or_left (is_right_spelling lexicon word word) _ right)

whole : (accepted barred : List ℕ → Bool) (breaks : List Anchored) (bound : ℕ) (word : List ℕ)
    → accepted word ≡ true → is_broken_within accepted barred breaks bound word ≡ true
whole accepted barred breaks zero word is = is
whole accepted barred breaks (suc bound) word is =
    or_left (accepted word)
    (not (barred word) && list_any (list_all (is_broken_within accepted barred breaks bound))
    (ways_to_break breaks word)) is

pub form-accepted : Members → (lexicon : Lexicon) (word : List ℕ) → IsForm lexicon word
    → length word ≤ most_characters → looked_up lexicon word ≡ word → yields lexicon word ≡ true
unfolding yields accepts is_broken_by is_broken
form-accepted law lexicon word is few same =
    let short : nat_le (length word) most_characters ≡ true = grind (arith, nat_tests, few) in
    let broken =
    whole (is_base lexicon) (is_barred lexicon) lexicon.affixes.breaks (length word) word
    (base law lexicon word is) in
    ap (accepts lexicon) same
    ∙ or_right (length word == 0) _ (or_right (is_number word) _
    (and_from (nat_le (length word) most_characters)
    (is_broken_by lexicon word || is_accepted_undotted lexicon word) short
    (or_left (is_broken_by lexicon word) (is_accepted_undotted lexicon word) broken)))
