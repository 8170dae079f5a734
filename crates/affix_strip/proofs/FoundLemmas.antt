-- What each part of the walk finds.
use Rattle.std.proofs.Common.{◌≡◌, ◌∙◌, ◌↔◌, ◌⊎◌, inl, inr, refl, sym, ap, subst, ℕ, zero, suc}
use Rattle.std.proofs.Common.{Bool, true, false, cond, true≢false, ◌||◌, List, [], ◌∷◌, length, map}
use Rattle.std.proofs.Common.{filter, slice_get, Contains, Option, None, Some, is_none, is_some}
use Rattle.std.proofs.Common.{arith}
use Rattle.std.specs.List.{list_any}
use Rattle.std.specs.Option.{option_map, option_map_or}
use Rattle.std.proofs.lemmas.Bool.{and_parts, and_from}
use Rattle.std.proofs.lemmas.List.Elements.{Contains-append_right}
use Rattle.std.proofs.lemmas.List.Folds.{list_any_at}
use Rattle.std.proofs.lemmas.Option.{slice_get-map}
use Rattle.spell_types.specs.declared.Entry.{Entry}
use Rattle.spell_types.specs.declared.Lexicon.{Lexicon}
use Rattle.spell_types.specs.declared.derivations.Derivation.{Derivation}
use Rattle.spell_types.specs.declared.rules.Rule.{Rule}
use Rattle.spell_types.specs.declared.rules.Side.TheVariants.{Prefix, Suffix}
use Rattle.spell_types.specs.Derivations.{affix_on, rule_on, is_right, form_of, derivation_of}
use Rattle.spell_types.specs.Flags.{has}
use Rattle.spell_types.specs.Licences.{is_licensed}
use Rattle.spell_types.specs.lists.Laws.{any-at}
use Rattle.affix_strip.specs.Parts.{put_on, stem_of, with_first, with_suffixes, with_all, Any}
use Rattle.affix_strip.specs.Parts.{Outside, Passes, AtSome, From, FromAll, RuleFrom, Peels}
use Rattle.affix_strip.specs.Peeling.{Peeled, ArePeeled, may_undo_at}
use Rattle.entry_table.specs.EntryTable.{AreEntriesOf}
use Rattle.affix_strip.specs.Tables.{IsReady, may_be_outer, may_undo_outer}
use Rattle.affix_strip.specs.declared.walk.IndexedLexicon.{IndexedLexicon}
use Rattle.affix_strip.proofs.ShowLemmas.{some-same}
use Rattle.affix_strip.proofs.InverseLemmas.{rule_on-side}
use Rattle.affix_strip.proofs.LicenceLemmas.{licensed-order, form-parts, IsCarrier, carrier}
use Rattle.affix_strip.proofs.StepLemmas.{IsAffix, none-put, step-none, step-peeled}
use Rattle.affix_strip.proofs.TableLemmas.{on-rule}
use Rattle.affix_strip.proofs.UndoneWords.{LeadsBack}

the_first : (lexicon : Lexicon) → IsAffix lexicon Suffix (λ d. d.first)
the_first lexicon = record { right = λ d is. (licensed-order lexicon d is).first }

the_second : (lexicon : Lexicon) → IsAffix lexicon Suffix (λ d. d.second)
the_second lexicon = record { right = λ d is. (licensed-order lexicon d is).second }

the_prefix : (lexicon : Lexicon) → IsAffix lexicon Prefix (λ d. d.prefix)
the_prefix lexicon = record { right = λ d is. (licensed-order lexicon d is).prefix }

-- ---- one or the other
both-ways : {P Q R : Derivation → Type 0} → ((d : Derivation) → P d ↔ Q d)
    → ((d : Derivation) → Q d ↔ R d) → (d : Derivation) → P d ↔ R d
both-ways one two d = (λ holds. (two d).0 ((one d).0 holds), λ holds. (one d).1 ((two d).1 holds))

one-or-other : {P Q P' Q' R : Derivation → Type 0} → ((d : Derivation) → P d ↔ P' d)
    → ((d : Derivation) → Q d ↔ Q' d) → ((d : Derivation) → (P' d ⊎ Q' d) ↔ R d) → (d : Derivation)
    → (P d ⊎ Q d) ↔ R d
one-or-other {P} {Q} {P'} {Q'} one two both d =
    (λ either. (both d).0 (there either), λ holds. back ((both d).1 holds))
  where
    there : P d ⊎ Q d → P' d ⊎ Q' d
    there (inl holds) = inl ((one d).0 holds)
    there (inr holds) = inr ((two d).0 holds)

    back : P' d ⊎ Q' d → P d ⊎ Q d
    back (inl holds) = inl ((one d).1 holds)
    back (inr holds) = inr ((two d).1 holds)

-- ---- lists of named rules
pub none-in : {X : Type 0} {x : X} → Contains [] x → ⊥
none-in (k, within, at) = omega (arith, within)

none-of : {X : Type 0} (xs : List X) (x : X) → length xs ≡ 0 → Contains xs x → ⊥
none-of xs x empty (k, within, at) = omega (arith, within, empty)

only-none : (n : Option ℕ) → Contains (None ∷ []) n ↔ (n ≡ None)
only-none n = (λ inside. there inside, λ is. (0, omega arith, sym is))
  where
    there : Contains (None ∷ []) n → n ≡ None
    there (zero, within, at) = sym at
    there (suc k, within, at) = absurd (omega (arith, within))

-- a rule of a list that passes a test is named
record IsKept (test : ℕ → Bool) (places : List ℕ) (named : Option ℕ) : Type 0 where
  place : ℕ
  is : named ≡ Some place
  among : Contains places place
  passed : test place ≡ true

kept-from : (test : ℕ → Bool) (places : List ℕ) (named : Option ℕ)
    → Contains (map (λ place. Some place) (filter test places)) named → IsKept test places named
kept-from test [] named inside = absurd (none-in inside)
kept-from test (place ∷ places) named inside =
    by (test place) refl inside (kept-from test places named)
  where
    later : IsKept test places named → IsKept test (place ∷ places) named
    later is = record {
      place = is.place;
      is = is.is;
      among = Contains-append_right (place ∷ []) places is.place is.among;
      passed = is.passed;
    }

    first : test place ≡ true → Contains (Some place ∷ map (λ p. Some p) (filter test places)) named
        → (Contains (map (λ p. Some p) (filter test places)) named → IsKept test places named)
        → IsKept test (place ∷ places) named
    first passed (zero, within, at) rest =
        record { place = place; is = sym at; among = (0, omega arith, refl); passed = passed }
    first passed (suc k, within, at) rest = later (rest (k, omega (arith, within), at))

    by : (b : Bool) → test place ≡ b
        → Contains (map (λ p. Some p) (cond b (place ∷ filter test places) (filter test places)))
        named → (Contains (map (λ p. Some p) (filter test places)) named → IsKept test places named)
        → IsKept test (place ∷ places) named
    by true passed inside rest = first passed inside rest
    by false failed inside rest = later (rest inside)

from-kept : (test : ℕ → Bool) (places : List ℕ) (place : ℕ) → Contains places place
    → test place ≡ true → Contains (map (λ p. Some p) (filter test places)) (Some place)
from-kept test [] place inside passed = absurd (none-in inside)
from-kept test (other ∷ places) place (zero, within, at) passed =
    subst (λ b.
    Contains (map (λ p. Some p) (cond b (other ∷ filter test places) (filter test places)))
    (Some place)) (sym (ap test at ∙ passed)) (0, omega arith, ap (λ p. Some p) at)
from-kept test (other ∷ places) place (suc k, within, at) passed =
    by (test other) (from-kept test places place (k, omega (arith, within), at) passed)
  where
    by : (b : Bool) → Contains (map (λ p. Some p) (filter test places)) (Some place)
        → Contains (map (λ p. Some p) (cond b (other ∷ filter test places) (filter test places)))
        (Some place)
    by true inside =
        Contains-append_right (Some other ∷ []) (map (λ p. Some p) (filter test places))
        (Some place) inside
    by false inside = inside

-- one item that passes a test is enough
one-passes : (test : ℕ → Bool) (places : List ℕ) (place : ℕ) → Contains places place
    → test place ≡ true → list_any test places ≡ true
one-passes test places place (k, within, at) passed =
    list_any_at test places k place within (ap test at ∙ passed)

-- ---- entries
-- derivations with these affixes
abbrev With : Option ℕ → Option ℕ → Option ℕ → Derivation → Type 0
With prefix first second d = (d.prefix ≡ prefix) × ((d.first ≡ first) × (d.second ≡ second))

-- derivations with one of these outer affixes, and this first suffix
abbrev pub Around : List (Option ℕ) → Option ℕ → List (Option ℕ) → Derivation → Type 0
Around prefixes first seconds d = Outside prefixes seconds d × (d.first ≡ first)

entry-of : (lexicon : Lexicon) (stem entries : List ℕ) → AreEntriesOf lexicon.entries stem entries
    → (d : Derivation) → stem_of lexicon d ≡ Some stem → Contains entries d.entry
entry-of lexicon stem entries are d is = by (slice_get lexicon.entries d.entry) refl is
  where
    by : (found : Option Entry) → slice_get lexicon.entries d.entry ≡ found
        → option_map (λ (e : Entry). e.word) found ≡ Some stem → Contains entries d.entry
    by None at word = absurd (cc)
    by (Some entry) at word = (are.are d.entry).1 (entry, at, cc)

from-is : (lexicon : Lexicon) (prefix first second : Option ℕ) (stem entries : List ℕ)
    → AreEntriesOf lexicon.entries stem entries → (d : Derivation)
    → From lexicon prefix first second entries d
    ↔ Passes lexicon (With prefix first second) (stem_of lexicon) stem d
from-is lexicon prefix first second stem entries are d = (
  λ some. there some,
  λ passes. record {
    item = d.entry;
    among = entry-of lexicon stem entries are d passes.at;
    is = (same passes.has, passes.licensed);
  },
)
  where
    word-at : (found : Option Entry) (entry : Entry) → found ≡ Some entry → entry.word ≡ stem
        → option_map (λ (e : Entry). e.word) found ≡ Some stem
    word-at found entry at word = ap (option_map (λ (e : Entry). e.word)) at ∙ ap (λ w. Some w) word

    known : (place : ℕ)
        → ((entry : Entry) × (slice_get lexicon.entries place ≡ Some entry) × (entry.word ≡ stem))
        → stem_of lexicon (derivation_of place prefix first second) ≡ Some stem
    known place (entry, at, word) = word-at (slice_get lexicon.entries place) entry at word

    there : From lexicon prefix first second entries d
        → Passes lexicon (With prefix first second) (stem_of lexicon) stem d
    there some = record {
      licensed = some.is.1;
      has = (
        ap (λ (e : Derivation). e.prefix) some.is.0,
        (
          ap (λ (e : Derivation). e.first) some.is.0,
          ap (λ (e : Derivation). e.second) some.is.0,
        ),
      );
      at = ap (stem_of lexicon) some.is.0 ∙ known some.item ((are.are some.item).0 some.among);
    }

    same : With prefix first second d → d ≡ derivation_of d.entry prefix first second
    same (one, (two, three)) =
        ap (λ p. derivation_of d.entry p d.first d.second) one
        ∙ ap (λ f. derivation_of d.entry prefix f d.second) two
        ∙ ap (derivation_of d.entry prefix first) three

pub from-all : (lexicon : Lexicon) (prefixes : List (Option ℕ)) (first : Option ℕ)
    (seconds : List (Option ℕ)) (stem entries : List ℕ) → AreEntriesOf lexicon.entries stem entries
    → (d : Derivation) → FromAll lexicon prefixes first seconds entries d
    ↔ Passes lexicon (Around prefixes first seconds) (stem_of lexicon) stem d
from-all lexicon prefixes first seconds stem entries are d = (
  λ some. there some
      ((from-is lexicon some.item first some.is.item stem entries are d).0 some.is.is),
  λ passes. record {
    item = d.prefix;
    among = passes.has.0.0;
    is = record {
      item = d.second;
      among = passes.has.0.1;
      is = (from-is lexicon d.prefix first d.second stem entries are d).1
          (record {
            licensed = passes.licensed;
            has = (refl, (passes.has.1, refl));
            at = passes.at;
          });
    };
  },
)
  where
    there : (some : FromAll lexicon prefixes first seconds entries d)
        → Passes lexicon (With some.item first some.is.item) (stem_of lexicon) stem d
        → Passes lexicon (Around prefixes first seconds) (stem_of lexicon) stem d
    there some passes = record {
      licensed = passes.licensed;
      has = (
        (
          subst (λ n. Contains prefixes n) (sym passes.has.0) some.among,
          subst (λ n. Contains seconds n) (sym passes.has.1.1) some.is.among,
        ),
        passes.has.1.0,
      );
      at = passes.at;
    }

-- ---- the first suffix
abbrev FirstPeels : Lexicon → List (Option ℕ) → List (Option ℕ) → Peeled → Derivation → Type 0
FirstPeels lexicon prefixes seconds =
    Peels lexicon Suffix (λ d. d.first) (Outside prefixes seconds) (stem_of lexicon)

rules-peeled : (lexicon : Lexicon) (prefixes seconds : List (Option ℕ)) (peeled : Peeled)
    (entries : List ℕ) → AreEntriesOf lexicon.entries peeled.0 entries
    → (d : Derivation) → AtSome (RuleFrom lexicon prefixes seconds peeled.0 entries) peeled.1 d
    ↔ FirstPeels lexicon prefixes seconds peeled d
rules-peeled lexicon prefixes seconds peeled entries are =
    some-same (RuleFrom lexicon prefixes seconds peeled.0 entries)
    (λ place d. (may_undo_at lexicon.affixes Suffix peeled.0 place ≡ true)
    × Passes lexicon (Around prefixes (Some place) seconds) (stem_of lexicon) peeled.0 d)
    peeled.1
    (λ place d. (
      λ both. (
        both.0,
        (from-all lexicon prefixes (Some place) seconds peeled.0 entries are d).0
            both.1,
      ),
      λ both. (
        both.0,
        (from-all lexicon prefixes (Some place) seconds peeled.0 entries are d).1
            both.1,
      ),
    ))

pub rules-peels : (lexicon : Lexicon) (prefixes seconds : List (Option ℕ)) (peeled : Peeled)
    (rest places entries : List ℕ) → rest ≡ peeled.0 → places ≡ peeled.1
    → AreEntriesOf lexicon.entries peeled.0 entries
    → (d : Derivation) → AtSome (RuleFrom lexicon prefixes seconds rest entries) places d
    ↔ FirstPeels lexicon prefixes seconds peeled d
rules-peels lexicon prefixes seconds peeled rest places entries left at are =
    subst (λ text. (d : Derivation) → AtSome (RuleFrom lexicon prefixes seconds text entries) places
    d ↔ FirstPeels lexicon prefixes seconds peeled d) (sym left)
    (subst (λ ps. (d : Derivation) → AtSome (RuleFrom lexicon prefixes seconds peeled.0 entries) ps
    d ↔ FirstPeels lexicon prefixes seconds peeled d) (sym at)
    (rules-peeled lexicon prefixes seconds peeled entries are))

pub no-rules : (lexicon : Lexicon) (prefixes seconds : List (Option ℕ)) (peeled : Peeled)
    (entries : List ℕ) → AreEntriesOf lexicon.entries peeled.0 entries → length entries ≡ 0
    → (d : Derivation) → FirstPeels lexicon prefixes seconds peeled d → ⊥
no-rules lexicon prefixes seconds peeled entries are empty d some =
    none-of entries d.entry empty (entry-of lexicon peeled.0 entries are d some.is.1.at)

-- a word that is no entry's comes without suffixes from none
pub no-bare : (lexicon : Lexicon) (prefixes : List (Option ℕ)) (text : List ℕ)
    → AreEntriesOf lexicon.entries text []
    → (d : Derivation) → Passes lexicon (λ d. Outside prefixes (None ∷ []) d × (d.first ≡ None))
    (stem_of lexicon) text d → ⊥
no-bare lexicon prefixes text are d passes =
    none-of [] d.entry refl (entry-of lexicon text [] are d passes.at)

-- one affix, or none
either : (lexicon : Lexicon) (named : Derivation → Option ℕ) (parts : Derivation → Type 0)
    (way : Derivation → Option (List ℕ)) (text : List ℕ) (d : Derivation)
    → (Passes lexicon (λ d. parts d × (named d ≡ None)) way text d
    ⊎ Passes lexicon (λ d. parts d × (is_some (named d) ≡ true)) way text d)
    ↔ Passes lexicon parts way text d
either lexicon named parts way text d = (λ one. there one, λ passes. back passes (named d) refl)
  where
    there : Passes lexicon (λ d. parts d × (named d ≡ None)) way text d
        ⊎ Passes lexicon (λ d. parts d × (is_some (named d) ≡ true)) way text d
        → Passes lexicon parts way text d
    there (inl passes) = record { licensed = passes.licensed; has = passes.has.0; at = passes.at }
    there (inr passes) = record { licensed = passes.licensed; has = passes.has.0; at = passes.at }

    back : Passes lexicon parts way text d → (n : Option ℕ) → named d ≡ n
        → Passes lexicon (λ d. parts d × (named d ≡ None)) way text d
        ⊎ Passes lexicon (λ d. parts d × (is_some (named d) ≡ true)) way text d
    back passes None is =
        inl (record { licensed = passes.licensed; has = (passes.has, is); at = passes.at })
    back passes (Some place) is =
        inr (record {
          licensed = passes.licensed;
          has = (passes.has, ap is_some is);
          at = passes.at;
        })

-- the same derivations by parts that are said otherwise
other-parts : (lexicon : Lexicon) (parts others : Derivation → Type 0)
    (way : Derivation → Option (List ℕ)) (text : List ℕ) → ((d : Derivation) → parts d ↔ others d)
    → (d : Derivation) → Passes lexicon parts way text d ↔ Passes lexicon others way text d
other-parts lexicon parts others way text same d = (
  λ passes. record { licensed = passes.licensed; has = (same d).0 passes.has; at = passes.at },
  λ passes. record { licensed = passes.licensed; has = (same d).1 passes.has; at = passes.at },
)

-- with a first suffix
abbrev WithFirst : List (Option ℕ) → List (Option ℕ) → Derivation → Type 0
WithFirst prefixes seconds d = Outside prefixes seconds d × (is_some d.first ≡ true)

pub firsts-passing : LeadsBack
    → (lexicon : Lexicon) (prefixes seconds : List (Option ℕ)) (text : List ℕ)
    (endings : List Peeled) → ArePeeled lexicon.affixes.rules Suffix text endings
    → (d : Derivation) → AtSome (FirstPeels lexicon prefixes seconds) endings d
    ↔ Passes lexicon (WithFirst prefixes seconds) (with_first lexicon) text d
firsts-passing leads_back lexicon prefixes seconds text endings are =
    step-peeled lexicon Suffix (λ d. d.first) (the_first lexicon) (stem_of lexicon) leads_back
    (Outside prefixes seconds) text endings are

pub no-seconds : (lexicon : Lexicon) (prefixes seconds : List (Option ℕ)) (text : List ℕ)
    → length seconds ≡ 0 → (d : Derivation)
    → Passes lexicon (WithFirst prefixes seconds) (with_first lexicon) text d → ⊥
no-seconds lexicon prefixes seconds text empty d passes =
    none-of seconds d.second empty passes.has.0.1

-- ---- the second suffix
-- a rule that is a second suffix has a flag that some suffix carries
outer-may : (dictionary : IndexedLexicon) → IsReady dictionary → (d : Derivation) (place : ℕ)
    → is_licensed dictionary.lexicon d ≡ true → d.second ≡ Some place
    → may_be_outer dictionary place ≡ true
outer-may dictionary ready d place licensed is =
    by (rule_on dictionary.lexicon.affixes.rules Suffix place) refl
  where
    carries : (rule : Rule) → rule_on dictionary.lexicon.affixes.rules Suffix place ≡ Some rule
        → IsCarrier dictionary.lexicon.affixes.rules rule
        → has ready.seconds.set (Some rule.flag) ≡ true
    carries rule on by =
        ready.seconds.carried.flags by.place place by.rule rule
        (on-rule dictionary.lexicon.affixes.rules Suffix by.place by.rule by.on)
        (rule_on-side dictionary.lexicon.affixes.rules Suffix by.place by.rule by.on)
        (on-rule dictionary.lexicon.affixes.rules Suffix place rule on) by.carries

    right : is_some (rule_on dictionary.lexicon.affixes.rules Suffix place) ≡ true
    right = ap (is_right dictionary.lexicon.affixes.rules Suffix) (sym is)
        ∙ (licensed-order dictionary.lexicon d licensed).second

    by : (found : Option Rule) → rule_on dictionary.lexicon.affixes.rules Suffix place ≡ found
        → may_be_outer dictionary place ≡ true
    by None on = absurd (true≢false (sym right ∙ ap is_some on))
    by (Some rule) on =
        ap (λ seconds. option_map_or (λ may. may) (slice_get seconds place) false) ready.seconds.are
        ∙ ap (λ found. option_map_or (λ may. may) found false)
        (slice_get-map (λ (r : Rule). has ready.seconds.set (Some r.flag))
        dictionary.lexicon.affixes.rules place
        ∙ ap (option_map (λ (r : Rule). has ready.seconds.set (Some r.flag)))
        (on-rule dictionary.lexicon.affixes.rules Suffix place rule on))
        ∙ carries rule on
        (carrier dictionary.lexicon d rule licensed
        (ap (affix_on dictionary.lexicon.affixes.rules Suffix) is ∙ on))

-- where no rule may be one there is none
pub no-seconds-at : (dictionary : IndexedLexicon) (prefixes : List (Option ℕ))
    (endings : List Peeled) → IsReady dictionary → dictionary.tables.has_seconds ≡ false
    → (d : Derivation)
    → AtSome (Peels dictionary.lexicon Suffix (λ d. d.second) (λ d. Contains prefixes d.prefix)
    (with_first dictionary.lexicon)) endings d → ⊥
no-seconds-at dictionary prefixes endings ready none d some =
    let at = some.is in
    true≢false (sym
    (by at.item (slice_get dictionary.tables.seconds.items at.item) refl
    (outer-may dictionary ready d at.item at.is.1.licensed at.is.1.has.1))
    ∙ sym ready.has_seconds ∙ none)
  where
    by : (place : ℕ) (found : Option Bool) → slice_get dictionary.tables.seconds.items place ≡ found
        → option_map_or (λ may. may) found false ≡ true
        → list_any (λ may. may) dictionary.tables.seconds.items ≡ true
    by place None at holds = absurd (cc)
    by place (Some may) at holds =
        any-at (λ may. may) dictionary.tables.seconds.items place may at holds

-- a second suffix stands behind a first one
first-inside : (lexicon : Lexicon) (d : Derivation) (place : ℕ) → is_licensed lexicon d ≡ true
    → d.second ≡ Some place → is_some d.first ≡ true
first-inside lexicon d place licensed is =
    sym (ap (λ n. is_none n || is_some d.first) is) ∙ (licensed-order lexicon d licensed).inside

abbrev OuterPeels : Lexicon → List (Option ℕ) → Peeled → Derivation → Type 0
OuterPeels lexicon prefixes =
    Peels lexicon Suffix (λ d. d.second) (λ d. Contains prefixes d.prefix) (with_first lexicon)

pub no-outer : (dictionary : IndexedLexicon) (prefixes : List (Option ℕ)) (peeled : Peeled)
    → IsReady dictionary → list_any (may_be_outer dictionary) peeled.1 ≡ false
    → (d : Derivation) → OuterPeels dictionary.lexicon prefixes peeled d → ⊥
no-outer dictionary prefixes peeled ready none d some =
    true≢false (sym
    (one-passes (may_be_outer dictionary) peeled.1 some.item some.among
    (outer-may dictionary ready d some.item some.is.1.licensed some.is.1.has.1)) ∙ none)

outer-peeled : (dictionary : IndexedLexicon) (prefixes seconds : List (Option ℕ)) (peeled : Peeled)
    → IsReady dictionary
    → seconds ≡ map (λ place. Some place) (filter (may_undo_outer dictionary peeled.0) peeled.1)
    → (d : Derivation)
    → Passes dictionary.lexicon (WithFirst prefixes seconds) (with_first dictionary.lexicon)
    peeled.0 d ↔ OuterPeels dictionary.lexicon prefixes peeled d
outer-peeled dictionary prefixes seconds peeled ready are d = (
  λ passes. there d passes
      (kept-from (may_undo_outer dictionary peeled.0) peeled.1 d.second
      (subst (λ ns. Contains ns d.second) are passes.has.0.1)),
  λ some. back d some,
)
  where
    there : (d : Derivation)
        → Passes dictionary.lexicon (WithFirst prefixes seconds) (with_first dictionary.lexicon)
        peeled.0 d → IsKept (may_undo_outer dictionary peeled.0) peeled.1 d.second
        → OuterPeels dictionary.lexicon prefixes peeled d
    there d passes is = record {
      item = is.place;
      among = is.among;
      is = (
        (and_parts (may_be_outer dictionary is.place)
            (may_undo_at dictionary.lexicon.affixes Suffix peeled.0 is.place) is.passed).1,
        record { licensed = passes.licensed; has = (passes.has.0.0, is.is); at = passes.at },
      );
    }

    back : (d : Derivation) → OuterPeels dictionary.lexicon prefixes peeled d
        → Passes dictionary.lexicon (WithFirst prefixes seconds) (with_first dictionary.lexicon)
        peeled.0 d
    back d some =
        let passes = some.is.1 in
        let test = and_from (may_be_outer dictionary some.item)
        (may_undo_at dictionary.lexicon.affixes Suffix peeled.0 some.item)
        (outer-may dictionary ready d some.item passes.licensed passes.has.1) some.is.0 in
        let inside =
        from-kept (may_undo_outer dictionary peeled.0) peeled.1 some.item some.among test in
        record {
          licensed = passes.licensed;
          has = (
            (
              passes.has.0,
              subst (λ n. Contains seconds n) (sym passes.has.1)
                  (subst (λ ns. Contains ns (Some some.item)) (sym are) inside),
            ),
            first-inside dictionary.lexicon d some.item passes.licensed passes.has.1,
          );
          at = passes.at;
        }

pub outer-passing : (dictionary : IndexedLexicon) (prefixes seconds : List (Option ℕ))
    (peeled : Peeled) (inner places : List ℕ) → inner ≡ peeled.0 → places ≡ peeled.1
    → IsReady dictionary
    → seconds ≡ map (λ place. Some place) (filter (may_undo_outer dictionary inner) places)
    → (d : Derivation)
    → Passes dictionary.lexicon (WithFirst prefixes seconds) (with_first dictionary.lexicon) inner d
    ↔ OuterPeels dictionary.lexicon prefixes peeled d
outer-passing dictionary prefixes seconds peeled inner places left at ready are =
    subst (λ text. (d : Derivation)
    → Passes dictionary.lexicon (WithFirst prefixes seconds) (with_first dictionary.lexicon)
    text d ↔ OuterPeels dictionary.lexicon prefixes peeled d) (sym left)
    (outer-peeled dictionary prefixes seconds peeled ready
    (are ∙ ap (λ text. map (λ place. Some place) (filter (may_undo_outer dictionary text) places))
    left ∙ ap (λ ps. map (λ place. Some place) (filter (may_undo_outer dictionary peeled.0) ps))
    at))

-- derivations with one of these prefixes
abbrev Behind : List (Option ℕ) → Derivation → Type 0
Behind prefixes d = Contains prefixes d.prefix

-- no suffix, or a first one
pub inside-passing : LeadsBack → (lexicon : Lexicon) (prefixes : List (Option ℕ)) (text : List ℕ)
    (endings : List Peeled) → ArePeeled lexicon.affixes.rules Suffix text endings
    → (d : Derivation)
    → (Passes lexicon (Around prefixes None (None ∷ [])) (stem_of lexicon) text d
    ⊎ AtSome (FirstPeels lexicon prefixes (None ∷ [])) endings d)
    ↔ Passes lexicon (Outside prefixes (None ∷ [])) (with_first lexicon) text d
inside-passing leads_back lexicon prefixes text endings are =
    one-or-other
    (step-none lexicon Suffix (λ d. d.first) (the_first lexicon) (stem_of lexicon)
    (Around prefixes None (None ∷ [])) (λ d has. has.1) text)
    (firsts-passing leads_back lexicon prefixes (None ∷ []) text endings are)
    (either lexicon (λ d. d.first) (Outside prefixes (None ∷ [])) (with_first lexicon) text)

-- no second suffix, or one
pub behind-passing : LeadsBack → (lexicon : Lexicon) (prefixes : List (Option ℕ)) (text : List ℕ)
    (endings : List Peeled) → ArePeeled lexicon.affixes.rules Suffix text endings
    → (d : Derivation)
    → (Passes lexicon (Outside prefixes (None ∷ [])) (with_first lexicon) text d
    ⊎ AtSome (OuterPeels lexicon prefixes) endings d)
    ↔ Passes lexicon (Behind prefixes) (with_suffixes lexicon) text d
behind-passing leads_back lexicon prefixes text endings are =
    one-or-other
    (both-ways (other-parts lexicon (Outside prefixes (None ∷ []))
    (λ d. Behind prefixes d × (d.second ≡ None)) (with_first lexicon) text (λ d. (
      λ has. (has.0, (only-none d.second).0 has.1),
      λ has. (has.0, (only-none d.second).1 has.1),
    )))
    (step-none lexicon Suffix (λ d. d.second) (the_second lexicon) (with_first lexicon)
    (λ d. Behind prefixes d × (d.second ≡ None)) (λ d has. has.1) text))
    (step-peeled lexicon Suffix (λ d. d.second) (the_second lexicon) (with_first lexicon) leads_back
    (Behind prefixes) text endings are)
    (either lexicon (λ d. d.second) (Behind prefixes) (with_suffixes lexicon) text)

-- without suffixes it is one of them
-- without a suffix, with a first one, or with a second one too
pub all-behind : LeadsBack → (lexicon : Lexicon) (prefixes : List (Option ℕ)) (text : List ℕ)
    (endings : List Peeled) → ArePeeled lexicon.affixes.rules Suffix text endings
    → (d : Derivation)
    → (Passes lexicon (Around prefixes None (None ∷ [])) (stem_of lexicon) text d
    ⊎ (AtSome (FirstPeels lexicon prefixes (None ∷ [])) endings d
    ⊎ AtSome (OuterPeels lexicon prefixes) endings d))
    ↔ Passes lexicon (Behind prefixes) (with_suffixes lexicon) text d
all-behind leads_back lexicon prefixes text endings are d = (λ e. there e, λ p. back (behind.1 p))
  where
    inside : (Passes lexicon (Around prefixes None (None ∷ [])) (stem_of lexicon) text d
        ⊎ AtSome (FirstPeels lexicon prefixes (None ∷ [])) endings d)
        ↔ Passes lexicon (Outside prefixes (None ∷ [])) (with_first lexicon) text d
    inside = inside-passing leads_back lexicon prefixes text endings are d

    behind : (Passes lexicon (Outside prefixes (None ∷ [])) (with_first lexicon) text d
        ⊎ AtSome (OuterPeels lexicon prefixes) endings d)
        ↔ Passes lexicon (Behind prefixes) (with_suffixes lexicon) text d
    behind = behind-passing leads_back lexicon prefixes text endings are d

    there : Passes lexicon (Around prefixes None (None ∷ [])) (stem_of lexicon) text d
        ⊎ (AtSome (FirstPeels lexicon prefixes (None ∷ [])) endings d
        ⊎ AtSome (OuterPeels lexicon prefixes) endings d)
        → Passes lexicon (Behind prefixes) (with_suffixes lexicon) text d
    there (inl bare) = behind.0 (inl (inside.0 (inl bare)))
    there (inr (inl first)) = behind.0 (inl (inside.0 (inr first)))
    there (inr (inr outer)) = behind.0 (inr outer)

    first-back : Passes lexicon (Around prefixes None (None ∷ [])) (stem_of lexicon) text d
        ⊎ AtSome (FirstPeels lexicon prefixes (None ∷ [])) endings d
        → Passes lexicon (Around prefixes None (None ∷ [])) (stem_of lexicon) text d
        ⊎ (AtSome (FirstPeels lexicon prefixes (None ∷ [])) endings d
        ⊎ AtSome (OuterPeels lexicon prefixes) endings d)
    first-back (inl bare) = inl bare
    first-back (inr first) = inr (inl first)

    back : Passes lexicon (Outside prefixes (None ∷ [])) (with_first lexicon) text d
        ⊎ AtSome (OuterPeels lexicon prefixes) endings d
        → Passes lexicon (Around prefixes None (None ∷ [])) (stem_of lexicon) text d
        ⊎ (AtSome (FirstPeels lexicon prefixes (None ∷ [])) endings d
        ⊎ AtSome (OuterPeels lexicon prefixes) endings d)
    back (inl passes) = first-back (inside.1 passes)
    back (inr outer) = inr (inr outer)

pub bare-inside : (lexicon : Lexicon) (prefixes : List (Option ℕ)) (text : List ℕ) (d : Derivation)
    → Passes lexicon (Around prefixes None (None ∷ [])) (stem_of lexicon) text d
    → Passes lexicon (Behind prefixes) (with_suffixes lexicon) text d
bare-inside lexicon prefixes text d passes =
    let inside =
    (step-none lexicon Suffix (λ d. d.first) (the_first lexicon) (stem_of lexicon)
    (Around prefixes None (None ∷ [])) (λ d has. has.1) text d).0 passes in
    let alone : Passes lexicon (λ d. Behind prefixes d × (d.second ≡ None)) (with_first lexicon)
    text d = record {
      licensed = inside.licensed;
      has = (inside.has.0.0, (only-none d.second).0 inside.has.0.1);
      at = inside.at;
    } in
    let all = (step-none lexicon Suffix (λ d. d.second) (the_second lexicon) (with_first lexicon)
    (λ d. Behind prefixes d × (d.second ≡ None)) (λ d has. has.1) text d).0 alone in
    record { licensed = all.licensed; has = all.has.0; at = all.at }

pub no-prefixes : (lexicon : Lexicon) (prefixes : List (Option ℕ)) (text : List ℕ)
    → length prefixes ≡ 0 → (d : Derivation)
    → Passes lexicon (Behind prefixes) (with_suffixes lexicon) text d → ⊥
no-prefixes lexicon prefixes text empty d passes = none-of prefixes d.prefix empty passes.has

-- ---- the prefix
abbrev FrontPeels : Lexicon → Peeled → Derivation → Type 0
FrontPeels lexicon = Peels lexicon Prefix (λ d. d.prefix) Any (with_suffixes lexicon)

front-peeled : (lexicon : Lexicon) (prefixes : List (Option ℕ)) (peeled : Peeled)
    → prefixes ≡ map (λ place. Some place)
    (filter (may_undo_at lexicon.affixes Prefix peeled.0) peeled.1)
    → (d : Derivation) → Passes lexicon (Behind prefixes) (with_suffixes lexicon) peeled.0 d
    ↔ FrontPeels lexicon peeled d
front-peeled lexicon prefixes peeled are d = (
  λ passes. there d passes
      (kept-from (may_undo_at lexicon.affixes Prefix peeled.0) peeled.1 d.prefix
      (subst (λ ns. Contains ns d.prefix) are passes.has)),
  λ some. back d some,
)
  where
    there : (d : Derivation) → Passes lexicon (Behind prefixes) (with_suffixes lexicon) peeled.0 d
        → IsKept (may_undo_at lexicon.affixes Prefix peeled.0) peeled.1 d.prefix
        → FrontPeels lexicon peeled d
    there d passes is = record {
      item = is.place;
      among = is.among;
      is = (is.passed, record { licensed = passes.licensed; has = (tt, is.is); at = passes.at });
    }

    back : (d : Derivation) → FrontPeels lexicon peeled d
        → Passes lexicon (Behind prefixes) (with_suffixes lexicon) peeled.0 d
    back d some =
        let passes = some.is.1 in
        let inside =
        from-kept (may_undo_at lexicon.affixes Prefix peeled.0) peeled.1 some.item
        some.among some.is.0 in
        record {
          licensed = passes.licensed;
          has = subst (λ n. Contains prefixes n) (sym passes.has.1)
              (subst (λ ns. Contains ns (Some some.item)) (sym are) inside);
          at = passes.at;
        }

pub front-passing : (lexicon : Lexicon) (prefixes : List (Option ℕ)) (peeled : Peeled)
    (rest places : List ℕ) → rest ≡ peeled.0 → places ≡ peeled.1
    → prefixes ≡ map (λ place. Some place) (filter (may_undo_at lexicon.affixes Prefix rest) places)
    → (d : Derivation) → Passes lexicon (Behind prefixes) (with_suffixes lexicon) rest d
    ↔ FrontPeels lexicon peeled d
front-passing lexicon prefixes peeled rest places left at are =
    subst (λ text. (d : Derivation) → Passes lexicon (Behind prefixes) (with_suffixes lexicon) text
    d ↔ FrontPeels lexicon peeled d) (sym left)
    (front-peeled lexicon prefixes peeled
    (are ∙ ap (λ text. map (λ place. Some place)
    (filter (may_undo_at lexicon.affixes Prefix text) places)) left
    ∙ ap (λ ps. map (λ place. Some place)
    (filter (may_undo_at lexicon.affixes Prefix peeled.0) ps)) at))

-- ---- all
-- licensed, and of this form
abbrev pub Gives : Lexicon → List ℕ → Derivation → Type 0
Gives lexicon text d = (is_licensed lexicon d ≡ true) × (form_of lexicon d ≡ Some text)

gives-passes : (lexicon : Lexicon) (text : List ℕ) (d : Derivation)
    → Passes lexicon Any (with_all lexicon) text d ↔ Gives lexicon text d
gives-passes lexicon text d = (
  λ passes. (passes.licensed, form-parts lexicon d passes.licensed ∙ passes.at),
  λ gives. record {
    licensed = gives.0;
    has = tt;
    at = sym (form-parts lexicon d gives.0)
        ∙ gives.1;
  },
)

pub all-passing : LeadsBack → (lexicon : Lexicon) (text : List ℕ) (fronts : List Peeled)
    → ArePeeled lexicon.affixes.rules Prefix text fronts
    → (d : Derivation)
    → (Passes lexicon (Behind (None ∷ [])) (with_suffixes lexicon) text d
    ⊎ AtSome (FrontPeels lexicon) fronts d) ↔ Gives lexicon text d
all-passing leads_back lexicon text fronts are =
    both-ways
    (one-or-other
    (both-ways (other-parts lexicon (Behind (None ∷ [])) (λ d. Any d × (d.prefix ≡ None))
    (with_suffixes lexicon) text (λ d. (
      λ inside. (tt, (only-none d.prefix).0 inside),
      λ has. (only-none d.prefix).1 has.1,
    )))
    (step-none lexicon Prefix (λ d. d.prefix) (the_prefix lexicon) (with_suffixes lexicon)
    (λ d. Any d × (d.prefix ≡ None)) (λ d has. has.1) text))
    (step-peeled lexicon Prefix (λ d. d.prefix) (the_prefix lexicon) (with_suffixes lexicon)
    leads_back Any text fronts are)
    (either lexicon (λ d. d.prefix) Any (with_all lexicon) text))
    (gives-passes lexicon text)

-- without a prefix it is one of them
pub none-gives : (lexicon : Lexicon) (text : List ℕ) (d : Derivation)
    → Passes lexicon (Behind (None ∷ [])) (with_suffixes lexicon) text d → Gives lexicon text d
none-gives lexicon text d passes =
    let all = (step-none lexicon Prefix (λ d. d.prefix) (the_prefix lexicon) (with_suffixes lexicon)
    (Behind (None ∷ [])) (λ d has. (only-none d.prefix).0 has) text d).0 passes in
    (all.licensed, form-parts lexicon d all.licensed ∙ all.at)

-- one without affixes is found at the word itself
pub gives-bare : (lexicon : Lexicon) (text : List ℕ) (d : Derivation) → (d.prefix ≡ None)
    × ((d.first ≡ None) × (d.second ≡ None)) → Gives lexicon text d
    → Passes lexicon (Around (None ∷ []) None (None ∷ [])) (stem_of lexicon) text d
gives-bare lexicon text d (prefix, (first, second)) gives = record {
  licensed = gives.0;
  has = (((only-none d.prefix).1 prefix, (only-none d.second).1 second), first);
  at =
      sym (none-put lexicon Suffix (stem_of lexicon d))
      ∙ sym (ap (λ n. put_on lexicon Suffix n (stem_of lexicon d)) first)
      ∙ sym (none-put lexicon Suffix (with_first lexicon d))
      ∙ sym (ap (λ n. put_on lexicon Suffix n (with_first lexicon d)) second)
      ∙ sym (none-put lexicon Prefix (with_suffixes lexicon d))
      ∙ sym (ap (λ n. put_on lexicon Prefix n (with_suffixes lexicon d)) prefix)
      ∙ sym (form-parts lexicon d gives.0) ∙ gives.1;
}

pub are-same : {entries : List Entry} {word places now : List ℕ} → now ≡ places
    → AreEntriesOf entries word places → AreEntriesOf entries word now
are-same {entries} {word} same are = subst (AreEntriesOf entries word) (sym same) are
