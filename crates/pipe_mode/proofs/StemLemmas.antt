-- The derivations of a word are those that stand for it.
use Rattle.std.proofs.Common.{◌≡◌, ◌∙◌, ◌↔◌, ◌⊎◌, inl, inr, refl, sym, ap, subst, ℕ, ◌≤◌, Bool}
use Rattle.std.proofs.Common.{true, false, ◌&&◌, ◌||◌, cond, List, [], ◌∷◌, filter, length}
use Rattle.std.proofs.Common.{nat_lt, Contains, IsTrue, Option, Some, None}
use Rattle.std.proofs.Common.{not-suc-le-zero, arith}
use Rattle.std.specs.Cmp.{IsTotalOrder}
use Rattle.std.specs.Cmp.Lexicographic.{options_total}
use Rattle.std.specs.List.{flat_map}
use Rattle.std.proofs.lemmas.Bool.{and_parts}
use Rattle.std.proofs.lemmas.Bool.Decides.{nat_tests}
use Rattle.std.proofs.lemmas.Cmp.{nat_cmp_total, on_total, then_total}
use Rattle.std.proofs.lemmas.List.Elements.{Contains-append_cases}
use Rattle.std.proofs.lemmas.Map.Views.{Contains-from_any}
use Rattle.std.proofs.lemmas.Slice.Eq.{bytes_eq-Decides}
use Rattle.mark_types.specs.lists.Laws.{any-contains, contains-filter, contains-flat_map}
use Rattle.mark_types.specs.lists.Laws.{contains-head}
use Rattle.mark_types.specs.lists.Laws.{contains-tail, filter-among, filter-holds}
use Rattle.spell_types.specs.declared.Lexicon.{Lexicon}
use Rattle.spell_types.specs.declared.derivations.Derivation.{Derivation}
use Rattle.spell_types.specs.declared.licences.Case.{Case}
use Rattle.spell_types.specs.Bases.{allows_case, case_of, is_alone_in_case}
use Rattle.spell_types.specs.Cases.{covered_by, is_among, is_same_word, Covers}
use Rattle.spell_types.specs.Derivations.{Named, named, form_of}
use Rattle.spell_types.specs.Licences.{holds_of, is_licensed, is_alone, is_allowed}
use Rattle.spell_types.specs.Licences.{is_barred}
use Rattle.spell_types.specs.Licences.{may_stand_alone, meets_circumfix, meets_need}
use Rattle.spell_types.specs.Licences.{meets_signs}
use Rattle.spell_types.specs.Yields.{most_characters}
use Rattle.affix_strip.specs.Found.{derivation_cmp, derivations_of}
use Rattle.pipe_mode.specs.Stems.{derivations_as, least, told_derivation, word_derivations}
use Rattle.pipe_mode.specs.Stems.{IsAnsweredByStem, MayHaveStem, StandsFor}
use Rattle.pipe_mode.proofs.LeastLemmas.{at-most, least-among, least-below, least-none}

derivations-total : IsTotalOrder derivation_cmp
derivations-total =
    let places = options_total nat_cmp_total in
    let total = then_total (on_total (λ (d : Derivation). d.entry) nat_cmp_total)
    (then_total (on_total (λ (d : Derivation). d.prefix) places)
    (then_total (on_total (λ (d : Derivation). d.first) places)
    (on_total (λ (d : Derivation). d.second) places))) in
    record { antisymm = total.antisymm; trans = total.trans; congr = total.congr }

-- ---- lists
-- what lists of items have, one item's list has
record IsOf {X Y : Type 0} (f : X → List Y) (xs : List X) (y : Y) : Type 0 where
  pub x : X
  pub among : Contains xs x
  pub inside : Contains (f x) y

of-one : {X Y : Type 0} (f : X → List Y) (xs : List X) (y : Y) → Contains (flat_map f xs) y
    → IsOf f xs y
of-one f [] y (k, within, at) = absurd (not-suc-le-zero within)
of-one f (x ∷ xs) y inside =
    by (of-one f xs y) (Contains-append_cases (f x) (flat_map f xs) y inside)
  where
    by : (Contains (flat_map f xs) y → IsOf f xs y)
        → Contains (f x) y ⊎ Contains (flat_map f xs) y → IsOf f (x ∷ xs) y
    by more (inl first) = record { x = x; among = contains-head x xs; inside = first }
    by more (inr later) =
        let of = more later in
        record { x = of.x; among = contains-tail x of.x xs of.among; inside = of.inside }

among-listed : (words : List (List ℕ)) (word : List ℕ) → Contains words word
    → is_among words word ≡ true
among-listed words word inside =
    any-contains (λ other. is_same_word other word) words word inside
    ((bytes_eq-Decides word word).1 refl)

listed-among : (words : List (List ℕ)) (word : List ℕ) → is_among words word ≡ true
    → Contains words word
listed-among words word is =
    Contains-from_any {eq = λ word other. is_same_word other word}
    (λ word other same. sym ((bytes_eq-Decides other word).0 same)) word words is

-- ---- derivations that stand alone
holds-too : (strong weak : Named → Bool) → ((n : Named) → strong n ≡ true → weak n ≡ true)
    → (found : Option Named) → holds_of strong found ≡ true → holds_of weak found ≡ true
holds-too strong weak so None is = is
holds-too strong weak so (Some n) is = so n is

alone-licensed : (lexicon : Lexicon) (d : Derivation) → is_alone lexicon d ≡ true
    → is_licensed lexicon d ≡ true
unfolding is_alone is_licensed
alone-licensed lexicon d is =
    let signs = lexicon.affixes.signs in
    holds-too (λ n. meets_signs signs n && may_stand_alone lexicon.affixes n) is_allowed
    (λ n both. (and_parts (is_allowed n)
    (meets_need signs.need_affix n && meets_circumfix signs.circumfix n)
    (and_parts (meets_signs signs n) (may_stand_alone lexicon.affixes n) both).0).0)
    (named lexicon d) is

in-case-licensed : (case : Case) (lexicon : Lexicon) (d : Derivation)
    → is_alone_in_case case lexicon d ≡ true → is_licensed lexicon d ≡ true
unfolding is_alone_in_case
in-case-licensed case lexicon d is =
    alone-licensed lexicon d (and_parts (is_alone lexicon d) (allows_case case lexicon d) is).0

-- ---- derivations that stand for a word
abbrev pub Members : Type 0
Members = (lexicon : Lexicon) (word : List ℕ) (d : Derivation)
    → Contains (derivations_of lexicon word) d
    ↔ ((is_licensed lexicon d ≡ true) × (form_of lexicon d ≡ Some word))

abbrev pub CoveredWords : Type 0
CoveredWords = (sharps : Bool) (written word : List ℕ)
    → IsTrue (is_among (covered_by sharps written) word) ↔ Covers sharps written word

stands : Members → CoveredWords → (lexicon : Lexicon) (word : List ℕ) (d : Derivation)
    → Contains (word_derivations lexicon word) d → StandsFor lexicon word d
unfolding word_derivations
stands members covers lexicon word d inside =
    by (is_barred lexicon spelling) refl of.inside
  where
    sharps : Bool
    sharps = lexicon.affixes.options.sharps

    of : IsOf (derivations_as lexicon word) (covered_by sharps word) d
    of = of-one (derivations_as lexicon word) (covered_by sharps word) d inside

    spelling : List ℕ
    spelling = of.x

    alone : Derivation → Bool
    alone = is_alone_in_case (case_of sharps word spelling) lexicon

    by : (barred : Bool) → is_barred lexicon spelling ≡ barred
        → Contains (cond barred [] (filter alone (derivations_of lexicon spelling))) d
        → StandsFor lexicon word d
    by true is (k, within, at) = absurd (not-suc-le-zero within)
    by false is kept = record {
      spelling = spelling;
      form = ((members lexicon spelling d).0
          (filter-among alone (derivations_of lexicon spelling) d kept)).1;
      covered = (covers sharps word spelling).0
          (among-listed (covered_by sharps word) spelling of.among);
      right = is;
      alone = filter-holds alone (derivations_of lexicon spelling) d kept;
    }

listed : Members → CoveredWords → (lexicon : Lexicon) (word : List ℕ) (d : Derivation)
    → StandsFor lexicon word d → Contains (word_derivations lexicon word) d
unfolding word_derivations
listed members covers lexicon word d is =
    contains-flat_map (derivations_as lexicon word) (covered_by sharps word) is.spelling d
    (listed-among (covered_by sharps word) is.spelling
    ((covers sharps word is.spelling).1 is.covered))
    (subst
    (λ barred. Contains (cond barred [] (filter alone (derivations_of lexicon is.spelling))) d)
    (sym is.right)
    (contains-filter alone (derivations_of lexicon is.spelling) d
    ((members lexicon is.spelling d).1
    (in-case-licensed (case_of sharps word is.spelling) lexicon d is.alone, is.form)) is.alone))
  where
    sharps : Bool
    sharps = lexicon.affixes.options.sharps

    alone : Derivation → Bool
    alone = is_alone_in_case (case_of sharps word is.spelling) lexicon

-- ---- the derivation that a word is answered by
long-not : (n : ℕ) → nat_lt most_characters n ≡ false → n ≤ most_characters
long-not n is = grind (arith, nat_tests)

not-long : (n : ℕ) → n ≤ most_characters → nat_lt most_characters n ≡ false
not-long n short = grind (arith, nat_tests)

pub told : Members → CoveredWords → (lexicon : Lexicon) (word : List ℕ) (d : Derivation)
    → told_derivation lexicon word ≡ Some d → IsAnsweredByStem lexicon word d
unfolding told_derivation
told members covers lexicon word d is =
    by (nat_lt most_characters (length word)) refl (is_barred lexicon word) refl is
  where
    by : (long : Bool) → nat_lt most_characters (length word) ≡ long
        → (barred : Bool) → is_barred lexicon word ≡ barred
        → cond (long || barred) None (least (word_derivations lexicon word)) ≡ Some d
        → IsAnsweredByStem lexicon word d
    by true long barred right none = absurd cc
    by false long true right none = absurd cc
    by false long false right found = record {
      may = record { short = long-not (length word) long; right = right };
      stands = stands members covers lexicon word d
          (least-among derivation_cmp derivations-total (word_derivations lexicon word) d found);
      least = λ e too. at-most (derivation_cmp d e)
          (least-below derivation_cmp derivations-total (word_derivations lexicon word) d e found
          (listed members covers lexicon word e too));
    }

pub none-told : Members → CoveredWords → (lexicon : Lexicon) (word : List ℕ) (d : Derivation)
    → told_derivation lexicon word ≡ None → MayHaveStem lexicon word
    → ¬ (StandsFor lexicon word d)
unfolding told_derivation
none-told members covers lexicon word d is may stands =
    least-none derivation_cmp derivations-total (word_derivations lexicon word) d
    (subst (λ none. cond none None (least (word_derivations lexicon word)) ≡ None) neither is)
    (listed members covers lexicon word d stands)
  where
    neither : (nat_lt most_characters (length word) || is_barred lexicon word) ≡ false
    neither =
        ap (λ long. long || is_barred lexicon word) (not-long (length word) may.short) ∙ may.right
