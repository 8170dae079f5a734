-- Which words are forms, and that their list rises.
use Rattle.std.proofs.Common.{◌≡◌, ◌∙◌, ◌↔◌, refl, sym, ap, ℕ, zero, suc, ◌<◌, Bool, true}
use Rattle.std.proofs.Common.{false, not, ◌&&◌, List, [], ◌∷◌, length, nat_lt, Contains}
use Rattle.std.proofs.Common.{Option, None, Some, not-suc-le-zero, le_of_suc-le-suc, arith}
use Rattle.std.specs.List.{filter, filter_map, cons_option}
use Rattle.std.specs.List.Sorted.{IsStrictlySortedBy}
use Rattle.std.proofs.lemmas.Bool.{and_parts, and_from}
use Rattle.std.proofs.lemmas.Bool.Decides.{nat_tests}
use Rattle.spell_types.specs.lists.Laws.{contains-head, contains-tail, contains-filter}
use Rattle.spell_types.specs.lists.Laws.{filter-among}
use Rattle.spell_types.specs.lists.Laws.{filter-holds}
use Rattle.spell_types.specs.declared.Lexicon.{Lexicon}
use Rattle.spell_types.specs.declared.derivations.Derivation.{Derivation}
use Rattle.spell_types.specs.Derivations.{Named, named, form_of, all_derivations}
use Rattle.spell_types.specs.JointLaws.{contains-filter_map}
use Rattle.spell_types.specs.Licences.{holds_of, is_licensed, is_alone, is_barred, meets_signs}
use Rattle.spell_types.specs.Licences.{may_stand_alone, is_allowed, meets_need, meets_circumfix}
use Rattle.affix_strip.specs.Found.{derives, derivations_of}
use Rattle.form_lister.specs.Forms.{IsForm, by_characters, words_alone, may_be_listed}
use Rattle.form_lister.specs.Forms.{forms_of}
use Rattle.form_lister.proofs.OrderLemmas.{set-rises, set-members, same-list}

-- ---- lists
-- what a map that may leave items out has of one item
record IsGiven {X Y : Type 0} (h : X → Option Y) (xs : List X) (y : Y) : Type 0 where
  pub x : X
  pub among : Contains xs x
  pub gives : h x ≡ Some y

given-later : {X Y : Type 0} (h : X → Option Y) (x : X) (xs : List X) (y : Y) → IsGiven h xs y
    → IsGiven h (x ∷ xs) y
given-later h x xs y is =
    record { x = is.x; among = contains-tail x is.x xs is.among; gives = is.gives }

given : {X Y : Type 0} (h : X → Option Y) (xs : List X) (y : Y) → Contains (filter_map h xs) y
    → IsGiven h xs y
given h [] y (k, within, at) = absurd (not-suc-le-zero within)
given h (x ∷ xs) y inside = by (h x) refl inside (given h xs y)
  where
    by : (found : Option _) → h x ≡ found → Contains (cons_option found (filter_map h xs)) y
        → (Contains (filter_map h xs) y → IsGiven h xs y)
        → IsGiven h (x ∷ xs) y
    by None is inside later = given-later h x xs y (later inside)
    by (Some first) is (zero, within, at) later =
        record { x = x; among = contains-head x xs; gives = is ∙ ap (λ z. Some z) at }
    by (Some first) is (suc k, within, at) later =
        given-later h x xs y (later (k, le_of_suc-le-suc within, at))

-- ---- derivations that stand alone
holds-too : (strong weak : Named → Bool) → ((n : Named) → strong n ≡ true → weak n ≡ true)
    → (found : Option Named) → holds_of strong found ≡ true → holds_of weak found ≡ true
holds-too strong weak so None is = is
holds-too strong weak so (Some n) is = so n is

pub alone-licensed : (lexicon : Lexicon) (d : Derivation) → is_alone lexicon d ≡ true
    → is_licensed lexicon d ≡ true
unfolding is_alone is_licensed
alone-licensed lexicon d is =
    let signs = lexicon.affixes.signs in
    holds-too (λ n. meets_signs signs n && may_stand_alone lexicon.affixes n) is_allowed
    (λ n both. (and_parts (is_allowed n)
    (meets_need signs.need_affix n && meets_circumfix signs.circumfix n)
    (and_parts (meets_signs signs n) (may_stand_alone lexicon.affixes n) both).0).0)
    (named lexicon d) is

-- what the derivations of a word are
abbrev pub Members : Type 0
Members = (lexicon : Lexicon) (word : List ℕ) (d : Derivation)
    → Contains (derivations_of lexicon word) d
    ↔ ((is_licensed lexicon d ≡ true) × (form_of lexicon d ≡ Some word))

pub among-all : Members → (lexicon : Lexicon) (word : List ℕ) (d : Derivation)
    → is_alone lexicon d ≡ true → form_of lexicon d ≡ Some word
    → Contains (all_derivations lexicon) d
unfolding derivations_of
among-all law lexicon word d alone gives =
    filter-among (derives lexicon word) (all_derivations lexicon) d
    ((law lexicon word d).1 (alone-licensed lexicon d alone, gives))

-- ---- forms
abbrev listed : Lexicon → List (List ℕ)
listed lexicon = filter (may_be_listed lexicon) (words_alone lexicon)

positive : (n : ℕ) → nat_lt 0 n ≡ true → 0 < n
positive n is = grind (arith, nat_tests)

is-positive : (n : ℕ) → 0 < n → nat_lt 0 n ≡ true
is-positive n above = grind (arith, nat_tests)

not-true : (b : Bool) → not b ≡ true → b ≡ false
not-true true is = sym is
not-true false is = refl

listed-form : (lexicon : Lexicon) (word : List ℕ) → Contains (listed lexicon) word
    → IsForm lexicon word
listed-form lexicon word inside =
    let test = may_be_listed lexicon in
    let tests = and_parts (nat_lt 0 (length word)) (not (is_barred lexicon word))
    (filter-holds test (words_alone lexicon) word inside) in
    let from = given (form_of lexicon) (filter (is_alone lexicon) (all_derivations lexicon)) word
    (filter-among test (words_alone lexicon) word inside) in
    record {
      nonempty = positive (length word) tests.0;
      stands = record {
        derivation = from.x;
        alone = filter-holds (is_alone lexicon) (all_derivations lexicon) from.x from.among;
        gives = from.gives;
      };
      free = not-true (is_barred lexicon word) tests.1;
    }

form-listed : Members → (lexicon : Lexicon) (word : List ℕ) → IsForm lexicon word
    → Contains (listed lexicon) word
form-listed law lexicon word is =
    let d = is.stands.derivation in
    contains-filter (may_be_listed lexicon) (words_alone lexicon) word
    (contains-filter_map (form_of lexicon) (filter (is_alone lexicon) (all_derivations lexicon)) d
    word (contains-filter (is_alone lexicon) (all_derivations lexicon) d
    (among-all law lexicon word d is.stands.alone is.stands.gives) is.stands.alone) is.stands.gives)
    (and_from (nat_lt 0 (length word)) (not (is_barred lexicon word))
    (is-positive (length word) is.nonempty) (ap not is.free))

pub forms-members : Members → (lexicon : Lexicon) (word : List ℕ)
    → Contains (forms_of lexicon) word ↔ IsForm lexicon word
unfolding forms_of
forms-members law lexicon word = (
  λ inside. listed-form lexicon word ((set-members (listed lexicon) word).0 inside),
  λ is. (set-members (listed lexicon) word).1 (form-listed law lexicon word is),
)

pub forms-rise : (lexicon : Lexicon) → IsStrictlySortedBy by_characters (forms_of lexicon)
unfolding forms_of
forms-rise lexicon = set-rises (listed lexicon)

-- what the forms are
abbrev pub FormsLaw : Type 0
FormsLaw = (lexicon : Lexicon) (word : List ℕ)
    → Contains (forms_of lexicon) word ↔ IsForm lexicon word

-- a list that rises and has the forms as its words is that of the forms
pub are-forms : FormsLaw → (lexicon : Lexicon) (words : List (List ℕ))
    → IsStrictlySortedBy by_characters words
    → ((word : List ℕ) → Contains words word ↔ IsForm lexicon word) → words ≡ forms_of lexicon
are-forms law lexicon words rising are =
    same-list words (forms_of lexicon) rising (forms-rise lexicon) (λ word. (
      λ inside. (law lexicon word).1 ((are word).0 inside),
      λ inside. (are word).1 ((law lexicon word).0 inside),
    ))
