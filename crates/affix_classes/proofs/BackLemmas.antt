-- Changing one end of a word, and changing it back.
use Rattle.std.proofs.Common.{◌≡◌, ℕ, ◌-◌, Bool, true, false, cond, ◌&&◌, List, ◌++◌, length, take}
use Rattle.std.proofs.Common.{drop, nat_eq, Option, Some, None, ◌↔◌, refl, sym, ap, ◌∙◌}
use Rattle.std.proofs.lemmas.Bool.Decides.{Decides-eqb}
use Rattle.std.proofs.Math.Seq.{drop-append_seam}
use Rattle.std.proofs.lemmas.Slice.Eq.{starts_is, ends_is}
use Rattle.std.specs.Prelude.{Result, Ok, Err, IfOk}
use Rattle.std.specs.List.{starts_with, ends_with}
use Rattle.std.proofs.lemmas.Bool.{and_parts}
use Rattle.spell_types.specs.declared.rules.Side.{Side}
use Rattle.spell_types.specs.declared.rules.Side.TheVariants.{Prefix, Suffix}
use Rattle.spell_types.specs.declared.rules.Rule.{Rule}
use Rattle.spell_types.specs.Conditions.{fits_front, fits_back}
use Rattle.spell_types.specs.Attaching.{may_strip, attached_suffix, attached_prefix, attached_on}
use Rattle.spell_types.specs.Attaching.{attached, IsUndone}
use Rattle.spell_types.specs.lists.Laws.{take-joined}
use Rattle.affix_classes.specs.Undoing.{undone_suffix, undone_prefix, undone_on}

-- where the old part stands at this end of a word, the new part stands there after the change, and
-- changing back gives the word
record IsReversible (has : List ℕ → List ℕ → Bool)
    (change : List ℕ → List ℕ → List ℕ → List ℕ) : Type 0 where
  put : (old new word : List ℕ) → has word old ≡ true → has (change old new word) new ≡ true
  back : (old new word : List ℕ) → has word old ≡ true → change new old (change old new word) ≡ word

ends_reverse : IsReversible (ends_with nat_eq)
    (λ old new word. take (length word - length old) word ++ new)
ends_reverse = record {
  put = λ old new word has.
      (ends_is Decides-eqb (take (length word - length old) word ++ new) new _ refl).1
      (take (length word - length old) word) refl;
  back = λ old new word has. ap (λ front. front ++ old)
      (take-joined (take (length word - length old) word) new)
      ∙ sym ((ends_is Decides-eqb word old _ refl).0 has);
}

starts_reverse : IsReversible (starts_with nat_eq) (λ old new word. new ++ drop (length old) word)
starts_reverse = record {
  put = λ old new word has. (starts_is Decides-eqb (new ++ drop (length old) word) new _ refl).1
      (drop (length old) word) refl;
  back = λ old new word has. ap (λ rest. old ++ rest)
      (drop-append_seam new (drop (length old) word))
      ∙ sym ((starts_is Decides-eqb word old _ refl).0 has);
}

given : {X : Type 0} (b : Bool) (x y : X) → cond b (Some x) None ≡ Some y → (b ≡ true) × (x ≡ y)
given true x y is = (refl, cc)
given false x y is = cc

giving : {X : Type 0} (a b : Bool) (x y : X) → a ≡ true → b ≡ true → x ≡ y
    → cond (a && b) (Some x) None ≡ Some y
giving a b x y one two same = rw (one, two) (ap (λ z. Some z) same)

-- what a change under a test of the new word gives, the change back under a test of the old word
-- gives back
there : (has : List ℕ → List ℕ → Bool) (change : List ℕ → List ℕ → List ℕ → List ℕ)
    (P : List ℕ → Bool) → IsReversible has change → (strip add word stem : List ℕ)
    → cond (has word add && P (change add strip word)) (Some (change add strip word)) None
    ≡ Some stem → cond (has stem strip && P stem) (Some (change strip add stem)) None ≡ Some word
there has change P reversible strip add word stem is =
    let told = given _ (change add strip word) stem is in
    let tests = and_parts (has word add) _ told.0 in
    giving (has stem strip) (P stem) (change strip add stem) word
    (ap (λ s. has s strip) (sym told.1) ∙ reversible.put add strip word tests.0)
    (ap P (sym told.1) ∙ tests.1)
    (ap (change strip add) (sym told.1) ∙ reversible.back add strip word tests.0)

again : (has : List ℕ → List ℕ → Bool) (change : List ℕ → List ℕ → List ℕ → List ℕ)
    (P : List ℕ → Bool) → IsReversible has change → (strip add word stem : List ℕ)
    → cond (has stem strip && P stem) (Some (change strip add stem)) None ≡ Some word
    → cond (has word add && P (change add strip word)) (Some (change add strip word)) None
    ≡ Some stem
again has change P reversible strip add word stem is =
    let told = given _ (change strip add stem) word is in
    let tests = and_parts (has stem strip) (P stem) told.0 in
    let same : change add strip word ≡ stem =
    ap (change add strip) (sym told.1) ∙ reversible.back strip add stem tests.0 in
    giving (has word add) (P (change add strip word)) (change add strip word) stem
    (ap (λ w. has w add) (sym told.1) ∙ reversible.put strip add stem tests.0)
    (ap P same ∙ tests.1)
    same

undone_suffix-is : (full_strip : Bool) (rule : Rule) (word stem : List ℕ)
    → (undone_suffix full_strip rule word ≡ Some stem)
    ↔ (attached_suffix full_strip rule stem ≡ Some word)
undone_suffix-is full_strip rule word stem =
    let change = λ (old new w : List ℕ). take (length w - length old) w ++ new in
    let fits = λ (s : List ℕ). may_strip full_strip rule s && fits_back rule.condition s in (
      there (ends_with nat_eq) change fits ends_reverse rule.strip rule.add word stem,
      again (ends_with nat_eq) change fits ends_reverse rule.strip rule.add word stem,
    )

undone_prefix-is : (full_strip : Bool) (rule : Rule) (word stem : List ℕ)
    → (undone_prefix full_strip rule word ≡ Some stem)
    ↔ (attached_prefix full_strip rule stem ≡ Some word)
undone_prefix-is full_strip rule word stem =
    let change = λ (old new w : List ℕ). new ++ drop (length old) w in
    let fits = λ (s : List ℕ). may_strip full_strip rule s && fits_front rule.condition s in (
      there (starts_with nat_eq) change fits starts_reverse rule.strip rule.add word stem,
      again (starts_with nat_eq) change fits starts_reverse rule.strip rule.add word stem,
    )

-- the suffix that is undone is the one that was attached
undone_suffix-undone : (full_strip : Bool) (rule : Rule) (word : List ℕ) (found : Option (List ℕ))
    → rule.side ≡ Suffix → found ≡ undone_suffix full_strip rule word
    → IsUndone (attached full_strip rule) word found
unfolding attached
undone_suffix-undone full_strip rule word found side is stem =
    let by_side : attached_on rule.side full_strip rule stem ≡ attached_suffix full_strip rule
    stem = ap (λ s. attached_on s full_strip rule stem) side in
    let same = undone_suffix-is full_strip rule word stem in (
      (λ have. by_side ∙ same.0 (sym is ∙ have)),
      (λ have. is ∙ same.1 (sym by_side ∙ have)),
    )

-- and so for a prefix
undone_prefix-undone : (full_strip : Bool) (rule : Rule) (word : List ℕ) (found : Option (List ℕ))
    → rule.side ≡ Prefix → found ≡ undone_prefix full_strip rule word
    → IsUndone (attached full_strip rule) word found
unfolding attached
undone_prefix-undone full_strip rule word found side is stem =
    let by_side : attached_on rule.side full_strip rule stem ≡ attached_prefix full_strip rule
    stem = ap (λ s. attached_on s full_strip rule stem) side in
    let same = undone_prefix-is full_strip rule word stem in (
      (λ have. by_side ∙ same.0 (sym is ∙ have)),
      (λ have. is ∙ same.1 (sym by_side ∙ have)),
    )

-- and so for a rule of either side
pub undone-leads_back : (full_strip : Bool) (rule : Rule) (word : List ℕ)
    → IsUndone (attached full_strip rule) word (undone_on rule.side full_strip rule word)
undone-leads_back full_strip rule word = at rule.side refl
  where
    at : (side : Side) → rule.side ≡ side
        → IsUndone (attached full_strip rule) word (undone_on side full_strip rule word)
    at Prefix is =
        undone_prefix-undone full_strip rule word (undone_prefix full_strip rule word) is refl
    at Suffix is =
        undone_suffix-undone full_strip rule word (undone_suffix full_strip rule word) is refl

one_found : {X : Type 0} (found : Option X) (x y : X) → found ≡ Some x → found ≡ Some y → x ≡ y
one_found found x y one two = cc

at_one_side : (side : Side) (full_strip : Bool) (rule : Rule) (word stem other : List ℕ)
    → attached_on side full_strip rule stem ≡ Some word → attached_on side full_strip rule other
    ≡ Some word → stem ≡ other
at_one_side Prefix full_strip rule word stem other one two =
    one_found (undone_prefix full_strip rule word) stem other
    ((undone_prefix-is full_strip rule word stem).1 one)
    ((undone_prefix-is full_strip rule word other).1 two)
at_one_side Suffix full_strip rule word stem other one two =
    one_found (undone_suffix full_strip rule word) stem other
    ((undone_suffix-is full_strip rule word stem).1 one)
    ((undone_suffix-is full_strip rule word other).1 two)

-- a rule and a word leave at most one stem
pub attached-unique : (full_strip : Bool) (rule : Rule) (word stem other : List ℕ)
    → attached full_strip rule stem ≡ Some word → attached full_strip rule other ≡ Some word
    → stem ≡ other
unfolding attached
attached-unique full_strip rule word stem other one two =
    at_one_side rule.side full_strip rule word stem other one two

-- what is said of what was found, said of the result of the call
pub suffix-undone : {E : Type 0} (full_strip : Bool) (rule : Rule) (word : List ℕ)
    (result : Result (Option (List ℕ)) E) → rule.side ≡ Suffix
    → IfOk result (λ found. found ≡ undone_suffix full_strip rule word)
    → IfOk result (λ found. IsUndone (attached full_strip rule) word found)
suffix-undone full_strip rule word (Ok found) side is =
    undone_suffix-undone full_strip rule word found side is
suffix-undone full_strip rule word (Err why) side is = tt

pub prefix-undone : {E : Type 0} (full_strip : Bool) (rule : Rule) (word : List ℕ)
    (result : Result (Option (List ℕ)) E) → rule.side ≡ Prefix
    → IfOk result (λ found. found ≡ undone_prefix full_strip rule word)
    → IfOk result (λ found. IsUndone (attached full_strip rule) word found)
prefix-undone full_strip rule word (Ok found) side is =
    undone_prefix-undone full_strip rule word found side is
prefix-undone full_strip rule word (Err why) side is = tt
