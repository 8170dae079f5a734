-- What a walk over all derivations of a word says: they are listed, or the answer to a question is
-- found.
use Rattle.std.proofs.Common.{◌≡◌, ◌∙◌, ◌↔◌, ◌⊎◌, inl, inr, refl, sym, ap, subst, ℕ, Bool, true}
use Rattle.std.proofs.Common.{false, true≢false, List, [], ◌∷◌, Contains, None, get_or, Result, Ok}
use Rattle.std.proofs.Common.{Err, IfOk, Some, slice_get}
use Rattle.std.specs.List.{list_any}
use Rattle.std.proofs.lemmas.Bool.{false_from_ne_true}
use Rattle.std.proofs.lemmas.List.Elements.{Contains-get_or}
use Rattle.std.proofs.lemmas.List.Folds.{list_any_at, list_any_none}
use Rattle.spell_types.specs.declared.Lexicon.{Lexicon}
use Rattle.spell_types.specs.declared.derivations.Derivation.{Derivation}
use Rattle.spell_types.specs.declared.Entry.{Entry}
use Rattle.spell_types.specs.Derivations.{form_of}
use Rattle.spell_types.specs.Flags.{has}
use Rattle.spell_types.specs.Licences.{is_forbidden, is_licensed}
use Rattle.affix_strip.specs.Found.{derivations_of}
use Rattle.affix_strip.specs.Parts.{Passes, sees_by, Shows, stem_of}
use Rattle.affix_strip.specs.Tables.{OfForbidden, AllowsNone}
use Rattle.affix_strip.proofs.BarringLemmas.{from-forbidden, no-affixes}
use Rattle.affix_strip.proofs.FoundLemmas.{Around, Gives, none-in, none-gives, bare-inside}
use Rattle.affix_strip.proofs.FoundLemmas.{gives-bare}
use Rattle.affix_strip.proofs.MemberLemmas.{derivations-members}

-- a list never ends the walk, so that it has all
pub listed : (lexicon : Lexicon) (word : List ℕ) (before now : List Derivation) (b : Bool)
    → before ≡ [] → Shows (Gives lexicon word) (record { passed = Contains before; ends = λ e. ⊥ })
    (record { passed = Contains now; ends = λ e. ⊥ }) b
    → (d : Derivation) → Contains now d ↔ Gives lexicon word d
listed lexicon word before now b none shown d = by b refl
  where
    only : Contains before d ⊎ Gives lexicon word d → Gives lexicon word d
    only (inl inside) = absurd (none-in (subst (λ ds. Contains ds d) none inside))
    only (inr gives) = gives

    by : (is_over : Bool) → b ≡ is_over → Contains now d ↔ Gives lexicon word d
    by true is = absurd (shown.ended is).ends
    by false is =
        (λ inside. only ((shown.passed is d).0 inside), λ gives. (shown.passed is d).1 (inr gives))

-- what follows for an answer
pub if_answered : {P Q : Bool → Type 0} {E : Type 0} (result : Result Bool E) → IfOk result P
    → ((b : Bool) → P b → Q b) → IfOk result Q
if_answered (Ok b) holds so = so b holds
if_answered (Err why) holds so = tt

-- where the walk was not over, what was shown fails
fails : {P : Derivation → Type 0} {passes last : Derivation → Bool} {b : Bool}
    → Shows P (sees_by passes) (sees_by last) b → b ≡ false → (d : Derivation) → P d
    → passes d ≡ false
fails {P} {passes} {last} shown is d holds =
    false_from_ne_true (passes d)
    (λ passed. true≢false
    (sym ((shown.same is d).0 passed) ∙ (shown.passed is d).1 (inr holds)))

-- the walk was over exactly where a derivation passes
pub answered : (lexicon : Lexicon) (word : List ℕ) (passes last : Derivation → Bool) (b : Bool)
    → Shows (Gives lexicon word) (sees_by passes) (sees_by last) b
    → b ≡ list_any passes (derivations_of lexicon word)
answered lexicon word passes last b shown = by b refl
  where
    one : (d : Derivation) → passes d ≡ true → Contains (derivations_of lexicon word) d
        → true ≡ list_any passes (derivations_of lexicon word)
    one d holds (k, within, at) =
        sym (list_any_at passes (derivations_of lexicon word) k d within (ap passes at ∙ holds))

    by : (is_over : Bool) → b ≡ is_over → is_over ≡ list_any passes (derivations_of lexicon word)
    by true is =
        let end = shown.ended is in
        one end.at end.ends ((derivations-members lexicon word end.at).1 end.sought)
    by false is =
        sym (list_any_none passes (derivations_of lexicon word) (λ k d within.
        fails shown is (get_or (derivations_of lexicon word) k d)
        ((derivations-members lexicon word (get_or (derivations_of lexicon word) k d)).0
        (Contains-get_or (derivations_of lexicon word) k d within))))

-- no word is forbidden
pub none-forbidden : (lexicon : Lexicon) (word : List ℕ) → OfForbidden lexicon (λ entry. ⊥)
    → false ≡ list_any (is_forbidden lexicon) (derivations_of lexicon word)
none-forbidden lexicon word none =
    sym (list_any_none (is_forbidden lexicon) (derivations_of lexicon word) (λ k d within.
    false_from_ne_true (is_forbidden lexicon (get_or (derivations_of lexicon word) k d)) (λ holds.
    let from = from-forbidden lexicon (get_or (derivations_of lexicon word) k d) holds in
    none (get_or (derivations_of lexicon word) k d).entry from.entry from.at from.forbidden)))

-- none of the derivations of a word comes from a forbidden entry
pub none-from : (lexicon : Lexicon) (word : List ℕ)
    → ((d : Derivation) → is_licensed lexicon d ≡ true → form_of lexicon d ≡ Some word
    → (entry : Entry) → slice_get lexicon.entries d.entry ≡ Some entry
    → has entry.flags lexicon.affixes.signs.forbidden ≡ true → ⊥)
    → false ≡ list_any (is_forbidden lexicon) (derivations_of lexicon word)
none-from lexicon word none =
    sym (list_any_none (is_forbidden lexicon) (derivations_of lexicon word) (λ k d within.
    false_from_ne_true (is_forbidden lexicon (get_or (derivations_of lexicon word) k d)) (λ holds.
    let at = get_or (derivations_of lexicon word) k d in
    let from = from-forbidden lexicon at holds in
    let gives = (derivations-members lexicon word at).0
    (Contains-get_or (derivations_of lexicon word) k d within) in
    none at gives.0 gives.1 from.entry from.at from.forbidden)))

-- a forbidden word is that of an entry
pub barred-bare : (lexicon : Lexicon) (word : List ℕ) (last : Derivation → Bool) (b : Bool)
    → OfForbidden lexicon (AllowsNone lexicon.affixes.rules)
    → Shows (Passes lexicon (Around (None ∷ []) None (None ∷ [])) (stem_of lexicon) word)
    (sees_by (is_forbidden lexicon)) (sees_by last) b
    → b ≡ list_any (is_forbidden lexicon) (derivations_of lexicon word)
barred-bare lexicon word last b none shown = by b refl
  where
    one : (d : Derivation) → is_forbidden lexicon d ≡ true
        → Contains (derivations_of lexicon word) d
        → true ≡ list_any (is_forbidden lexicon) (derivations_of lexicon word)
    one d holds (k, within, at) =
        sym (list_any_at (is_forbidden lexicon) (derivations_of lexicon word) k d within
        (ap (is_forbidden lexicon) at ∙ holds))

    bare : (d : Derivation) → is_forbidden lexicon d ≡ true → Gives lexicon word d
        → Passes lexicon (Around (None ∷ []) None (None ∷ [])) (stem_of lexicon) word d
    bare d holds gives =
        let from = from-forbidden lexicon d holds in
        let without =
        no-affixes lexicon.affixes.rules d from.entry
        (none d.entry from.entry from.at from.forbidden) from.allowed from.ordered in
        gives-bare lexicon word d without gives

    passed : b ≡ false → (d : Derivation) → Contains (derivations_of lexicon word) d
        → is_forbidden lexicon d ≡ false
    passed is d inside = false_from_ne_true (is_forbidden lexicon d) (λ holds.
        true≢false (sym holds
        ∙ fails shown is d (bare d holds ((derivations-members lexicon word d).0 inside))))

    by : (is_over : Bool) → b ≡ is_over
        → is_over ≡ list_any (is_forbidden lexicon) (derivations_of lexicon word)
    by true is =
        let end = shown.ended is in
        one end.at end.ends
        ((derivations-members lexicon word end.at).1
        (none-gives lexicon word end.at
        (bare-inside lexicon (None ∷ []) word end.at end.sought)))
    by false is =
        sym (list_any_none (is_forbidden lexicon) (derivations_of lexicon word)
        (λ k d within. passed is (get_or (derivations_of lexicon word) k d)
        (Contains-get_or (derivations_of lexicon word) k d within)))
