-- What a visitor is shown, one thing after another.
use Rattle.std.proofs.Common.{◌≡◌, ◌↔◌, ◌⊎◌, inl, inr, refl, sym, subst, ℕ, ◌+◌, ◌<◌, ◌≤◌, Bool}
use Rattle.std.proofs.Common.{true, false, true≢false, List, [], ◌∷◌, ◌++◌, length, take, take_all}
use Rattle.std.proofs.Common.{get_or, Contains, Result, Ok, Err, IfOk, arith}
use Rattle.std.proofs.lemmas.List.{take_more}
use Rattle.std.proofs.lemmas.List.Elements.{Contains-append_left, Contains-get_or, Contains-push}
use Rattle.std.proofs.lemmas.List.Elements.{Contains-push_cases}
use Rattle.spell_types.specs.declared.derivations.Derivation.{Derivation}
use Rattle.affix_strip.specs.Parts.{Sight, AtSome, Shows}

-- there was nothing to show
pub shows-none : {P : Derivation → Type 0} {before : Sight} → ((d : Derivation) → P d → ⊥)
    → Shows P before before false
shows-none {P} {before} none = record {
  ended = λ is. absurd (true≢false (sym is));
  passed = λ is d. (λ inside. inl inside, λ either. back d either);
  same = λ is d. (λ ends. ends, λ ends. ends);
}
  where
    back : (d : Derivation) → before.passed d ⊎ P d → before.passed d
    back d (inl inside) = inside
    back d (inr holds) = absurd (none d holds)

module _ {P Q : Derivation → Type 0} {before now : Sight} {b : Bool} where
  -- one of those that more holds for ended the walk
  pub shows-end : ((d : Derivation) → P d → Q d) → Shows P before now b → b ≡ true
      → Shows Q before now true
  shows-end so shown over = record {
    ended = λ is. let end =
        shown.ended over in
        record { at = end.at; sought = so end.at end.sought; ends = end.ends };
    passed = λ is. absurd (true≢false is);
    same = λ is. absurd (true≢false is);
  }

  pub shows-same : ((d : Derivation) → P d ↔ Q d) → Shows P before now b → Shows Q before now b
  shows-same same shown = record {
    ended = λ is. let end = shown.ended is in
        record { at = end.at; sought = (same end.at).0 end.sought; ends = end.ends };
    passed = λ is d. (
      λ inside. there d ((shown.passed is d).0 inside),
      λ either. (shown.passed is d).1 (back d either),
    );
    same = shown.same;
  }
    where
      there : (d : Derivation) → before.passed d ⊎ P d → before.passed d ⊎ Q d
      there d (inl inside) = inl inside
      there d (inr holds) = inr ((same d).0 holds)

      back : (d : Derivation) → before.passed d ⊎ Q d → before.passed d ⊎ P d
      back d (inl inside) = inl inside
      back d (inr holds) = inr ((same d).1 holds)

-- the same of the answer of a call
pub answer-same : {P Q : Derivation → Type 0} (before now : Sight) {E : Type 0}
    (result : Result Bool E) → ((d : Derivation) → P d ↔ Q d) → IfOk result (Shows P before now)
    → IfOk result (Shows Q before now)
answer-same before now (Ok b) same shown = shows-same same shown
answer-same before now (Err why) same shown = tt

-- one thing was shown and did not end the walk, and then another
module _ {P Q R : Derivation → Type 0} {before between now : Sight} {a b : Bool} where
  pub shows-then : ((d : Derivation) → (P d ⊎ Q d) ↔ R d) → Shows P before between a → a ≡ false
      → Shows Q between now b → Shows R before now b
  shows-then both one on two = record {
    ended = λ is. let end = two.ended is in
        record {
          at = end.at;
          sought = (both end.at).0 (inr end.sought);
          ends = (one.same on end.at).1 end.ends;
        };
    passed = λ is d. (
      λ inside. there d ((two.passed is d).0 inside),
      λ either. (two.passed is d).1 (back d either),
    );
    same = λ is d. (
      λ ends. (two.same is d).0 ((one.same on d).0 ends),
      λ ends. (one.same on d).1 ((two.same is d).1 ends),
    );
  }
    where
      front : (d : Derivation) → before.passed d ⊎ P d → before.passed d ⊎ R d
      front d (inl inside) = inl inside
      front d (inr holds) = inr ((both d).0 (inl holds))

      there : (d : Derivation) → between.passed d ⊎ Q d → before.passed d ⊎ R d
      there d (inl inside) = front d ((one.passed on d).0 inside)
      there d (inr holds) = inr ((both d).0 (inr holds))

      split : (d : Derivation) → P d ⊎ Q d → between.passed d ⊎ Q d
      split d (inl holds) = inl ((one.passed on d).1 (inr holds))
      split d (inr holds) = inr holds

      back : (d : Derivation) → before.passed d ⊎ R d → between.passed d ⊎ Q d
      back d (inl inside) = inl ((one.passed on d).1 (inl inside))
      back d (inr holds) = split d ((both d).1 holds)

pub answer-then : {P Q R : Derivation → Type 0} {before between : Sight} (now : Sight) {a : Bool}
    {E : Type 0} (result : Result Bool E) → ((d : Derivation) → (P d ⊎ Q d) ↔ R d)
    → Shows P before between a → a ≡ false
    → IfOk result (Shows Q between now) → IfOk result (Shows R before now)
answer-then now (Ok b) both one on two = shows-then both one on two
answer-then now (Err why) both one on two = tt

-- ---- a loop over items
module _ {X : Type 0} (P : X → Derivation → Type 0) where
  none-of-none : (d : Derivation) → AtSome P [] d → ⊥
  none-of-none d some = none some.among
    where
      none : {item : X} → Contains [] item → ⊥
      none (k, within, at) = omega (arith, within)

  pub loop-first : {before : Sight} (items : List X)
      → Shows (AtSome P (take 0 items)) before before false
  loop-first items = shows-none none-of-none

  some-more : (items : List X) (item : X) (d : Derivation) → (AtSome P items d ⊎ P item d)
      ↔ AtSome P (items ++ item ∷ []) d
  some-more items item d = (
    λ either. there either,
    λ some. back some (Contains-push_cases items item some.item some.among),
  )
    where
      there : AtSome P items d ⊎ P item d → AtSome P (items ++ item ∷ []) d
      there (inl some) =
          record {
            item = some.item;
            among = Contains-append_left items (item ∷ []) some.item some.among;
            is = some.is;
          }
      there (inr holds) = record { item = item; among = Contains-push items item; is = holds }

      back : (some : AtSome P (items ++ item ∷ []) d) → Contains items some.item
          ⊎ (item ≡ some.item) → AtSome P items d ⊎ P item d
      back some (inl among) = inl (record { item = some.item; among = among; is = some.is })
      back some (inr same) = inr (subst (λ x. P x d) (sym same) some.is)

  module _ {before between now : Sight} {b : Bool} (items : List X) (i : ℕ) (item default : X)
      (within : i < length items) (is : item ≡ get_or items i default)
      (one : Shows (AtSome P (take i items)) before between false)
      (two : Shows (P item) between now b) where
    pub loop-more : b ≡ false → Shows (AtSome P (take (i + 1) items)) before now false
    loop-more on =
        subst (λ some. Shows (AtSome P some) before now false)
        (sym (take_more items i default within))
        (shows-then (some-more (take i items) (get_or items i default)) one refl
        (subst (λ x. Shows (P x) between now false) is (subst (Shows (P item) between now) on two)))

    -- an item ended the walk
    pub loop-end : b ≡ true → Shows (AtSome P items) before now true
    loop-end over = record {
      ended = λ so. let end = two.ended over in record {
        at = end.at;
        sought = record {
          item = item;
          among = subst (λ x. Contains items x) (sym is) (Contains-get_or items i default within);
          is = end.sought;
        };
        ends = (one.same refl end.at).1 end.ends;
      };
      passed = λ so. absurd (true≢false so);
      same = λ so. absurd (true≢false so);
    }

  pub loop-last : {before now : Sight} (items : List X) (i : ℕ) → length items ≤ i
      → Shows (AtSome P (take i items)) before now false → Shows (AtSome P items) before now false
  loop-last {before} {now} items i past shown =
      subst (λ some. Shows (AtSome P some) before now false) (take_all i items past) shown

pub some-same : {X : Type 0} (P Q : X → Derivation → Type 0) (items : List X)
    → ((item : X) (d : Derivation) → P item d ↔ Q item d) → (d : Derivation) → AtSome P items d
    ↔ AtSome Q items d
some-same P Q items same d = (
  λ some. record { item = some.item; among = some.among; is = (same some.item d).0 some.is },
  λ some. record { item = some.item; among = some.among; is = (same some.item d).1 some.is },
)
