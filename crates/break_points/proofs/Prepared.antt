-- Patterns in order, each once, break words as those which they were made of.
use Rattle.std.proofs.Common.{◌≡◌, ◌∙◌, refl, sym, ap, ap₂, subst, ℕ, zero, suc, ◌+◌, ◌<◌, Bool}
use Rattle.std.proofs.Common.{true, false, ◌&&◌, List, [], ◌∷◌, length, map, get_or, nat_eq}
use Rattle.std.proofs.Common.{IsPermutation, arith}
use Rattle.std.specs.Cmp.{IsTotalOrder, IsEquivalence, bool_cmp_total, both_tied, both_ways}
use Rattle.std.specs.Cmp.Lexicographic.{pointwise, slice_cmp, texts_ties}
use Rattle.std.specs.List.{Contains, Any, dedup}
use Rattle.std.specs.List.Sorted.{IsSorted, IsStrictlySortedBy}
use Rattle.std.specs.Ordering.{nat_cmp, bool_cmp, ordering_then, ordering_reverse, eq_by_cmp, is_eq}
use Rattle.std.specs.Ordering.{is_lt}
use Rattle.std.specs.declared.cmp.Ordering.{Ordering}
use Rattle.std.specs.declared.cmp.Ordering.TheVariants.{Less, Equal, Greater}
use Rattle.std.proofs.lemmas.Bool.{false≢true}
use Rattle.std.proofs.lemmas.Bool.Decides.{nat_tests}
use Rattle.std.proofs.lemmas.Cmp.{nat_list_cmp_total, on_total, then_total, eq_by_cmp_equiv}
use Rattle.std.proofs.lemmas.List.Kept.{IsStrictlySortedBy-dedup, Any-dedup, Contains-from_dedup}
use Rattle.std.proofs.lemmas.List.Sorted.{Contains-permutation, IsPermutation-sym}
use Rattle.spell_types.specs.lists.Laws.{contains-map}
use Rattle.spell_types.specs.declared.breaks.Anchored.{Anchored}
use Rattle.spell_types.specs.Breaks.{is_broken, IsBroken, whole, between, behind, before}
use Rattle.text_order.specs.TextOrder.{AreInOrder}
use Rattle.break_points.specs.Patterns.{BreakPattern, anchored_of, BreakAlike}
use Rattle.break_points.proofs.Texts.{made-of}
use Rattle.break_points.proofs.Trees.{broken_tree, tree_broken}
use mathlib.Core.Bool.{beq}

-- ---- the order of patterns, and their equality
abbrev pub pattern_cmp : BreakPattern → BreakPattern → Ordering
pattern_cmp p q =
    ordering_then (slice_cmp nat_cmp p.0.items q.0.items)
    (ordering_then (bool_cmp p.1.0 q.1.0) (bool_cmp p.1.1 q.1.1))

pattern-total : IsTotalOrder pattern_cmp
pattern-total =
    let total = then_total (on_total (λ (p : BreakPattern). p.0.items) nat_list_cmp_total)
    (then_total (on_total (λ (p : BreakPattern). p.1.0) bool_cmp_total)
    (on_total (λ (p : BreakPattern). p.1.1) bool_cmp_total)) in
    record { antisymm = total.antisymm; trans = total.trans; congr = total.congr }

equal-text : (xs ys : List ℕ) → slice_cmp nat_cmp xs ys ≡ Equal → xs ≡ ys
equal-text [] [] is = refl
equal-text [] (y ∷ ys) is = absurd (cc)
equal-text (x ∷ xs) [] is = absurd (cc)
equal-text (x ∷ xs) (y ∷ ys) is = by (nat_cmp x y) refl (equal-text xs ys) is
  where
    same : (x y : ℕ) → nat_cmp x y ≡ Equal → x ≡ y
    same x y is = grind (arith, nat_tests)

    by : (o : Ordering) → nat_cmp x y ≡ o → (slice_cmp nat_cmp xs ys ≡ Equal → xs ≡ ys)
        → ordering_then o (slice_cmp nat_cmp xs ys) ≡ Equal → x ∷ xs ≡ y ∷ ys
    by Less at rest is = absurd (cc)
    by Equal at rest is = ap₂ (λ a rest. a ∷ rest) (same x y at) (rest is)
    by Greater at rest is = absurd (cc)

equal-bool : (a b : Bool) → bool_cmp a b ≡ Equal → a ≡ b
equal-bool true true is = refl
equal-bool true false is = absurd (cc)
equal-bool false true is = absurd (cc)
equal-bool false false is = refl

then-equal : (o more : Ordering) → ordering_then o more ≡ Equal → (o ≡ Equal) × (more ≡ Equal)
then-equal Less more is = absurd (cc)
then-equal Equal more is = (refl, is)
then-equal Greater more is = absurd (cc)

equal-pattern : (p q : BreakPattern) → pattern_cmp p q ≡ Equal → anchored_of p ≡ anchored_of q
equal-pattern p q is =
    let first = then-equal (slice_cmp nat_cmp p.0.items q.0.items) _ is in
    let rest = then-equal (bool_cmp p.1.0 q.1.0) _ first.1 in
    let text = equal-text p.0.items q.0.items first.0 in
    let front = equal-bool p.1.0 q.1.0 rest.0 in
    let back = equal-bool p.1.1 q.1.1 rest.1 in
    ap (λ t. let a : Anchored = record { text = t; front = p.1.0; back = p.1.1 } in a) text
    ∙ ap (λ f. let a : Anchored = record { text = q.0.items; front = f; back = p.1.1 } in a) front
    ∙ ap (λ b. let a : Anchored = record { text = q.0.items; front = q.1.0; back = b } in a) back

is-equal : (o : Ordering) → is_eq o ≡ true → o ≡ Equal
is-equal Less is = absurd (false≢true is)
is-equal Equal is = refl
is-equal Greater is = absurd (false≢true is)

-- ---- in order, each once
strict-next : (ps : List BreakPattern) → IsStrictlySortedBy pattern_cmp ps
    → (k : ℕ) (d : BreakPattern)
    → k + 1 < length ps → pattern_cmp (get_or ps k d) (get_or ps (k + 1) d) ≡ Less
unfolding IsStrictlySortedBy
strict-next [] up k d within = absurd (omega (arith, within))
strict-next (p ∷ []) up k d within = absurd (omega (arith, within))
strict-next (p ∷ q ∷ ps) up zero d within = up.0.0
strict-next (p ∷ q ∷ ps) up (suc k) d within =
    let later : suc (k + 1) ≡ suc k + 1 = omega arith in
    subst (λ n. pattern_cmp (get_or (q ∷ ps) k d) (get_or (p ∷ q ∷ ps) n d) ≡ Less) later
    (strict-next (q ∷ ps) up.1 k d (omega (arith, within)))

then-reversed : (o more : Ordering) → ordering_then o more ≡ Greater → is_lt o ≡ false
then-reversed Less more is = absurd (cc)
then-reversed Equal more is = refl
then-reversed Greater more is = refl

pub kept-in_order : (E : BreakPattern → BreakPattern → Bool)
    → ((p q : BreakPattern) → E p q ≡ eq_by_cmp pattern_cmp p q) → (moved kept : List BreakPattern)
    → IsSorted pattern_cmp moved → kept ≡ dedup E moved → AreInOrder kept
kept-in_order E ties moved kept sorted is = λ k d above within.
    let strict : IsStrictlySortedBy pattern_cmp kept =
    subst (IsStrictlySortedBy pattern_cmp) (sym is)
    (IsStrictlySortedBy-dedup pattern-total ties moved sorted) in
    let less : pattern_cmp (get_or kept k d) (get_or kept (k + 1) d) ≡ Less =
    strict-next kept strict k d within in
    then-reversed (slice_cmp nat_cmp (get_or kept (k + 1) d).0.items (get_or kept k d).0.items) _
    (pattern-total.antisymm (get_or kept (k + 1) d) (get_or kept k d) ∙ ap ordering_reverse less)

-- ---- words are broken alike
tree_more : (base barred : List ℕ → Bool) (breaks other : List Anchored)
    → ((b : Anchored) → Contains breaks b → Contains other b) → (word : List ℕ)
    → IsBroken base barred breaks word → IsBroken base barred other word
tree_more base barred breaks other more _ (whole word e) = whole word e
tree_more base barred breaks other more _
    (between word front rest b free among f k parts some_front some_rest front_tree rest_tree) =
    between word front rest b free (more b among) f k parts some_front some_rest
    (tree_more base barred breaks other more front front_tree)
    (tree_more base barred breaks other more rest rest_tree)
tree_more base barred breaks other more _ (behind word rest b free among f k is some tree) =
    behind word rest b free (more b among) f k is some
    (tree_more base barred breaks other more rest tree)
tree_more base barred breaks other more _ (before word front b free among f k is some tree) =
    before word front b free (more b among) f k is some
    (tree_more base barred breaks other more front tree)

broken_more : (base barred : List ℕ → Bool) (breaks other : List Anchored)
    → ((b : Anchored) → Contains breaks b → Contains other b) → (word : List ℕ)
    → is_broken base barred breaks word ≡ true → is_broken base barred other word ≡ true
broken_more base barred breaks other more word e =
    tree_broken base barred other word
    (tree_more base barred breaks other more word (broken_tree base barred breaks word e))

same-members : (breaks other : List Anchored)
    → ((b : Anchored) → Contains breaks b → Contains other b)
    → ((b : Anchored) → Contains other b → Contains breaks b) → BreakAlike breaks other
unfolding BreakAlike
same-members breaks other more less = λ base barred word.
    both_ways (is_broken base barred breaks word) (is_broken base barred other word)
    (broken_more base barred breaks other more word)
    (broken_more base barred other breaks less word)

pub kept-alike : (E : BreakPattern → BreakPattern → Bool)
    → ((p q : BreakPattern) → E p q ≡ eq_by_cmp pattern_cmp p q)
    → (copies moved kept : List BreakPattern) (breaks : List Anchored)
    → map anchored_of copies ≡ breaks
    → IsPermutation copies moved → kept ≡ dedup E moved
    → BreakAlike (map anchored_of kept) breaks
kept-alike E ties copies moved kept breaks are permutation is =
    same-members (map anchored_of kept) breaks forth back
  where
    alike : IsEquivalence (eq_by_cmp pattern_cmp)
    alike = eq_by_cmp_equiv pattern-total

    equivalence : IsEquivalence E
    equivalence = record {
      refl = λ p. ties p p ∙ alike.refl p;
      symm = λ p q. ties p q ∙ alike.symm p q ∙ sym (ties q p);
      congr = λ p q r same. ties p r ∙ alike.congr p q r (sym (ties p q) ∙ same) ∙ sym (ties q r);
    }

    forth : (b : Anchored) → Contains (map anchored_of kept) b → Contains breaks b
    forth b inside =
        let own = made-of anchored_of kept b inside in
        subst (λ bs. Contains bs b) are
        (subst (Contains (map anchored_of copies)) own.2 (contains-map anchored_of copies own.0
        (Contains-permutation moved copies own.0 (IsPermutation-sym copies moved permutation)
        (Contains-from_dedup E moved own.0 (subst (λ ps. Contains ps own.0) is own.1)))))

    one : (b : Anchored) (p : BreakPattern) → anchored_of p ≡ b
        → Any (λ q. E p q ≡ true) (dedup E moved)
        → Contains (map anchored_of kept) b
    one b p made (k, q, within, at, same) =
        subst (Contains (map anchored_of kept))
        (sym (equal-pattern p q (is-equal (pattern_cmp p q) (sym (ties p q) ∙ same))) ∙ made)
        (contains-map anchored_of kept q (subst (λ ps. Contains ps q) (sym is) (k, within, at)))

    back : (b : Anchored) → Contains breaks b → Contains (map anchored_of kept) b
    back b inside =
        let own = made-of anchored_of copies b (subst (λ bs. Contains bs b) (sym are) inside) in
        one b own.0 own.2
        (Any-dedup equivalence moved own.0
        (Contains-permutation copies moved own.0 permutation own.1))

-- ---- equality of patterns, as their order has it
abbrev pub same_pattern : BreakPattern → BreakPattern → Bool
same_pattern p q = pointwise nat_eq p.0.items q.0.items && (beq p.1.0 q.1.0 && beq p.1.1 q.1.1)

bool-ties : (a b : Bool) → beq a b ≡ is_eq (bool_cmp a b)
bool-ties true true = refl
bool-ties true false = refl
bool-ties false true = refl
bool-ties false false = refl

pub pattern-ties : (p q : BreakPattern) → same_pattern p q ≡ eq_by_cmp pattern_cmp p q
pattern-ties p q =
    both_tied (pointwise nat_eq p.0.items q.0.items) (beq p.1.0 q.1.0 && beq p.1.1 q.1.1)
    (slice_cmp nat_cmp p.0.items q.0.items)
    (ordering_then (bool_cmp p.1.0 q.1.0) (bool_cmp p.1.1 q.1.1))
    (texts_ties p.0.items q.0.items)
    (both_tied (beq p.1.0 q.1.0) (beq p.1.1 q.1.1) (bool_cmp p.1.0 q.1.0) (bool_cmp p.1.1 q.1.1)
    (bool-ties p.1.0 q.1.0) (bool-ties p.1.1 q.1.1))
