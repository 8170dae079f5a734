-- What makes a word accepted, one after another.
use Rattle.std.proofs.Common.{◌≡◌, ◌∙◌, refl, sym, ap, arith, ℕ, ◌<◌, ◌≤◌, ◌-◌, ◌==◌, Bool, true}
use Rattle.std.proofs.Common.{false, not, ◌&&◌, ◌||◌, List, length, nat_le, nat_lt, eq-eqb, ne_eqb}
use Rattle.std.proofs.Common.{le-leb}
use Rattle.std.proofs.lemmas.List.{length-take, take_all}
use Rattle.std.specs.List.{suffix_len, list_any}
use Rattle.spell_types.specs.declared.Lexicon.{Lexicon}
use Rattle.spell_types.specs.declared.breaks.Anchored.{Anchored}
use Rattle.spell_types.specs.Bases.{is_base, is_right_spelling}
use Rattle.spell_types.specs.Breaks.{is_broken}
use Rattle.spell_types.specs.Cases.{covered_by}
use Rattle.spell_types.specs.Conditions.{is_one_of}
use Rattle.spell_types.specs.Licences.{is_barred}
use Rattle.spell_types.specs.Numbers.{is_number, undotted, is_dot}
use Rattle.spell_types.specs.Yields.{accepts, is_broken_by, is_accepted_undotted}
use Rattle.spell_types.specs.Yields.{most_characters}
use Rattle.break_points.specs.Judging.{is_base_by, is_barred_by}
use Rattle.break_points.specs.Patterns.{BreakAlike}
use Rattle.word_verdict.specs.Accepting.{is_accepted_short, is_accepted_before_dots}
use Rattle.word_verdict.specs.Judging.{judged, judged_by}
use mathlib.Core.Path.{fun_ext}

-- the base words and the barred words are those of the judge

base-by : (barred base : Bool) → (barred ≡ true → base ≡ false) → (word : List ℕ)
    → is_base_by (λ w. judged_by barred base) word ≡ base
base-by true base implied word = sym (implied refl)
base-by false true implied word = refl
base-by false false implied word = refl

barred-by : (barred base : Bool) (word : List ℕ) → is_barred_by (λ w. judged_by barred base) word
    ≡ barred
barred-by true base word = refl
barred-by false true word = refl
barred-by false false word = refl

barred-no_base : (lexicon : Lexicon) (word : List ℕ) → is_barred lexicon word ≡ true
    → is_base lexicon word ≡ false
unfolding is_base
barred-no_base lexicon word barred =
    ap (λ b. not b
    && list_any (is_right_spelling lexicon word)
    (covered_by lexicon.affixes.options.sharps word)) barred

pub broken_as_judged : (lexicon : Lexicon) (breaks : List Anchored) (word : List ℕ)
    → BreakAlike breaks lexicon.affixes.breaks
    → is_broken (is_base_by (judged lexicon)) (is_barred_by (judged lexicon)) breaks word
    ≡ is_broken_by lexicon word
unfolding judged is_broken_by BreakAlike
broken_as_judged lexicon breaks word alike =
    ap (λ base. is_broken base (is_barred_by (judged lexicon)) breaks word)
    (fun_ext (λ w. base-by (is_barred lexicon w) (is_base lexicon w) (barred-no_base lexicon w) w))
    ∙ ap (λ barred. is_broken (is_base lexicon) barred breaks word)
    (fun_ext (λ w. barred-by (is_barred lexicon w) (is_base lexicon w) w))
    ∙ alike (is_base lexicon) (is_barred lexicon) word

-- the cases of a word that is looked up

accepts-parted : (lexicon : Lexicon) (word : List ℕ) (empty number short : Bool)
    → empty ≡ (length word == 0) → number ≡ is_number word
    → short ≡ nat_le (length word) most_characters
    → (empty || (number || (short && is_accepted_short lexicon word))) ≡ accepts lexicon word
unfolding accepts
accepts-parted lexicon word empty number short e n s =
    ap (λ x. x || (number || (short && is_accepted_short lexicon word))) e
    ∙ ap (λ x. (length word == 0) || (x || (short && is_accepted_short lexicon word))) n
    ∙ ap (λ x. (length word == 0) || (is_number word || (x && is_accepted_short lexicon word))) s

pub accepts_empty : (lexicon : Lexicon) (word : List ℕ) → length word ≡ 0
    → true ≡ accepts lexicon word
accepts_empty lexicon word empty =
    accepts-parted lexicon word true (is_number word) _ (sym (eq-eqb _ _ empty)) refl refl

pub accepts_number : (lexicon : Lexicon) (word : List ℕ) → is_number word ≡ true
    → true ≡ accepts lexicon word
accepts_number lexicon word number = or-true (length word == 0)
    ∙ accepts-parted lexicon word (length word == 0) true _ refl (sym number) refl
  where
    or-true : (b : Bool) → true ≡ (b || true)
    or-true true = refl
    or-true false = refl

pub refuses_long : (lexicon : Lexicon) (word : List ℕ) → is_number word ≡ false → 100 < length word
    → false ≡ accepts lexicon word
refuses_long lexicon word number long =
    accepts-parted lexicon word false false false (sym (ne_eqb _ _ (λ e. omega (arith, e, long))))
    (sym number) (sym (not-le (length word) 100 long))
  where
    not-le : (n m : ℕ) → m < n → nat_le n m ≡ false
    not-le n m more = grind arith

pub accepts_short_ones : (lexicon : Lexicon) (word : List ℕ) → 0 < length word
    → is_number word ≡ false → length word ≤ 100
    → is_accepted_short lexicon word ≡ accepts lexicon word
accepts_short_ones lexicon word some number short =
    accepts-parted lexicon word false false true (sym (ne_eqb _ _ (λ e. omega (arith, e, some))))
    (sym number) (sym (le-leb _ _ short))

-- a word without dots at its end

undotted-whole : (word : List ℕ) → length (undotted word) ≡ length word → undotted word ≡ word
unfolding undotted
undotted-whole word same =
    take_all _ word (omega (arith, length-take (length word - suffix_len is_dot word) word, same))

pub refuses_undotted : (lexicon : Lexicon) (word rest : List ℕ) → rest ≡ undotted word
    → length rest ≡ length word → is_broken_by lexicon word ≡ false → is_number word ≡ false
    → false ≡ is_accepted_short lexicon word
unfolding is_accepted_undotted
refuses_undotted lexicon word rest is same broken number =
    let whole = undotted-whole word (ap length (sym is) ∙ same) in
    none (is_one_of lexicon.affixes.wordchars 46) (nat_lt 0 (length word))
    ∙ ap (λ n. false
    || (is_one_of lexicon.affixes.wordchars 46 && (nat_lt 0 (length word) && (false || n))))
    (sym number)
    ∙ ap (λ b. b
    || (is_one_of lexicon.affixes.wordchars 46
    && (nat_lt 0 (length word) && (b || is_number word)))) (sym broken)
    ∙ ap (λ r. is_broken_by lexicon word || is_accepted_before_dots lexicon r) (sym whole)
  where
    none : (a b : Bool) → false ≡ (a && (b && false))
    none true true = refl
    none true false = refl
    none false b = refl

pub accepts_undotted : (lexicon : Lexicon) (word rest : List ℕ) (answer : Bool)
    → rest ≡ undotted word → is_broken_by lexicon word ≡ false
    → answer ≡ is_accepted_before_dots lexicon rest
    → answer ≡ is_accepted_short lexicon word
unfolding is_accepted_undotted
accepts_undotted lexicon word rest answer is broken says =
    says ∙ ap (is_accepted_before_dots lexicon) is
    ∙ ap (λ b. b || is_accepted_before_dots lexicon (undotted word)) (sym broken)
