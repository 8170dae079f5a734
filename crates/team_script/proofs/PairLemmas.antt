-- The pairs that lines load, found one after another.
use Rattle.std.proofs.Common.{◌≡◌, ◌≢◌, ◌∙◌, ◌+◌, ◌≤◌, Bool, true, false, not, cond, ◌&&◌, ◌||◌}
use Rattle.std.proofs.Common.{List, [], ◌∷◌, ◌++◌, length, filter, Option, Some, None, Ok}
use Rattle.std.proofs.Common.{Err, refl, sym, ap, append_assoc, append-nil, length-append, arith}
use Rattle.std.proofs.Common.{if◌then◌else◌}
use Rattle.std.specs.Prelude.{nat_lt}
use Rattle.std.specs.List.{filter_map, cons_option}
use Rattle.std.specs.Str.{bytes_eq}
use Rattle.std.proofs.lemmas.Bool.{and_parts}
use Rattle.std.proofs.lemmas.Bool.Decides.{nat_tests}
use Rattle.std.proofs.lemmas.List.Folds.{list_any-append}
use Rattle.std.proofs.lemmas.Slice.Eq.{bytes_eq-Decides}
use Rattle.team_script.specs.declared.fault.ScriptFault.TheVariants.{ManyPairs}
use Rattle.team_script.specs.declared.line.SessionLine.{SessionLine}
use Rattle.team_script.specs.declared.pairs.Pair.{Pair}
use Rattle.team_script.specs.Pairs.{loaded_by, is_same, is_pair_among, each_pair_once, pairs_in}
use Rattle.team_script.specs.Pairs.{pair_limit}
use Rattle.team_script.specs.Due.{pairs_due}

-- two filters, one after the other, are one
filter-filter : {X : Type 0} (p q r : X → Bool) → ((x : X) → r x ≡ (q x && p x)) → (xs : List X)
    → filter p (filter q xs) ≡ filter r xs
filter-filter p q r both [] = refl
filter-filter p q r both (x ∷ xs) =
    let rest = filter-filter p q r both xs in
    rw (both x)
    (elim (q x) as
    (λ b. filter p (cond b (x ∷ filter q xs) (filter q xs)) ≡ cond (b && p x) (x ∷ filter r xs)
    (filter r xs)) [
      | true ↦ elim (p x) as
          (λ b. cond b (x ∷ filter p (filter q xs)) (filter p (filter q xs))
          ≡ cond b (x ∷ filter r xs) (filter r xs)) [
            | true ↦ ap (λ ys. x ∷ ys) rest
            | false ↦ rest
          ]
      | false ↦ rest
    ])

filter-all : {X : Type 0} (xs : List X) → filter (λ _. true) xs ≡ xs
filter-all [] = refl
filter-all (x ∷ xs) = ap (λ ys. x ∷ ys) (filter-all xs)

-- two pairs with the same names are one
pub same-≡ : (pair other : Pair) → is_same pair other ≡ true → pair ≡ other
same-≡ pair other same =
    let parts = and_parts (bytes_eq pair.aff other.aff) (bytes_eq pair.dic other.dic) same in
    let aff : pair.aff ≡ other.aff = (bytes_eq-Decides pair.aff other.aff).0 parts.0 in
    let dic : pair.dic ≡ other.dic = (bytes_eq-Decides pair.dic other.dic).0 parts.1 in
    ap (λ name. record { aff = name; dic = pair.dic }) aff
    ∙ ap (λ name. record { aff = other.aff; dic = name }) dic

-- whether a pair is the same as none of these
abbrev is_new : List Pair → Pair → Bool
is_new pairs pair = not (is_pair_among pairs pair)

-- a pair that is new beside some is another than one of them
new-is_other : (pairs : List Pair) (pair : Pair) → is_pair_among pairs pair ≡ true
    → (other : Pair) → is_new pairs other ≡ (not (is_same pair other) && is_new pairs other)
new-is_other pairs pair there other =
    elim (is_same pair other) as
    (λ b. is_same pair other ≡ b → is_new pairs other ≡ (not b && is_new pairs other)) [
      | true ↦ λ same. ap not (sym (ap (is_pair_among pairs) (same-≡ pair other same)) ∙ there)
      | false ↦ λ _. refl
    ] refl

new-push : (pairs : List Pair) (pair other : Pair)
    → is_new (pairs ++ pair ∷ []) other ≡ (not (is_same pair other) && is_new pairs other)
new-push pairs pair other =
    ap not (list_any-append (λ p. is_same p other) pairs (pair ∷ []))
    ∙ (elim (is_same pair other) as
    (λ b. not (is_pair_among pairs other || (b || false)) ≡ (not b && is_new pairs other)) [
      | true ↦ elim (is_pair_among pairs other) as (λ b. not (b || true) ≡ false)
          [ true ↦ refl | false ↦ refl ]
      | false ↦ elim (is_pair_among pairs other) as (λ b. not (b || false) ≡ not b)
          [ true ↦ refl | false ↦ refl ]
    ])

-- the pairs of the rest that are not among these
abbrev new_in : List Pair → List Pair → List Pair
new_in pairs named = filter (is_new pairs) (each_pair_once named)

new-known : (pairs : List Pair) (pair : Pair) (named : List Pair) → is_pair_among pairs pair ≡ true
    → new_in pairs (pair ∷ named) ≡ new_in pairs named
new-known pairs pair named there =
    ap (λ b. cond (not b) (pair ∷ filter (is_new pairs)
    (filter (λ other. not (is_same pair other)) (each_pair_once named))) (filter (is_new pairs)
    (filter (λ other. not (is_same pair other)) (each_pair_once named)))) there
    ∙ filter-filter (is_new pairs) (λ other. not (is_same pair other)) (is_new pairs)
    (new-is_other pairs pair there) (each_pair_once named)

new-first : (pairs : List Pair) (pair : Pair) (named : List Pair) → is_pair_among pairs pair ≡ false
    → new_in pairs (pair ∷ named) ≡ pair ∷ new_in (pairs ++ pair ∷ []) named
new-first pairs pair named new =
    ap (λ b. cond (not b) (pair ∷ filter (is_new pairs)
    (filter (λ other. not (is_same pair other)) (each_pair_once named))) (filter (is_new pairs)
    (filter (λ other. not (is_same pair other)) (each_pair_once named)))) new
    ∙ ap (λ found. pair ∷ found)
    (filter-filter (is_new pairs) (λ other. not (is_same pair other)) (is_new (pairs ++ pair ∷ []))
    (new-push pairs pair) (each_pair_once named))

-- these pairs are found, and those of the rest that are not among them are still to come
pub record AreFound (lines rest : List SessionLine) (pairs : List Pair) : Type 0 where
  pub all : pairs ++ new_in pairs (filter_map loaded_by rest) ≡ pairs_in lines
  pub few : length pairs ≤ pair_limit

pub none-found : (lines : List SessionLine) → AreFound lines lines []
unfolding pairs_in
none-found lines = record {
  all = filter-all (each_pair_once (filter_map loaded_by lines));
  few = omega arith;
}

abbrev found_then : List Pair → List SessionLine → Option Pair → List Pair
found_then pairs rest loads = pairs ++ new_in pairs (cons_option loads (filter_map loaded_by rest))

pub nothing-loaded : {lines : List SessionLine} {pairs : List Pair} (line : SessionLine)
    (rest : List SessionLine)
    → loaded_by line ≡ None → AreFound lines (line ∷ rest) pairs → AreFound lines rest pairs
nothing-loaded {pairs = pairs} line rest loads are = record {
  all = sym (ap (found_then pairs rest) loads) ∙ are.all;
  few = are.few;
}

pub known-loaded : {lines : List SessionLine} {pairs : List Pair} (line : SessionLine)
    (rest : List SessionLine) (pair : Pair)
    → loaded_by line ≡ Some pair → is_pair_among pairs pair ≡ true
    → AreFound lines (line ∷ rest) pairs
    → AreFound lines rest pairs
known-loaded {pairs = pairs} line rest pair loads there are = record {
  all = ap (λ found. pairs ++ found) (sym (new-known pairs pair (filter_map loaded_by rest) there))
      ∙ sym (ap (found_then pairs rest) loads)
      ∙ are.all;
  few = are.few;
}

-- a pair that is new comes next
next-pair : {lines : List SessionLine} {pairs : List Pair} (line : SessionLine)
    (rest : List SessionLine) (pair : Pair)
    → loaded_by line ≡ Some pair → is_pair_among pairs pair ≡ false
    → AreFound lines (line ∷ rest) pairs
    → pairs ++ pair ∷ new_in (pairs ++ pair ∷ []) (filter_map loaded_by rest) ≡ pairs_in lines
next-pair {pairs = pairs} line rest pair loads new are =
    ap (λ found. pairs ++ found) (sym (new-first pairs pair (filter_map loaded_by rest) new))
    ∙ sym (ap (found_then pairs rest) loads)
    ∙ are.all

pub new-loaded : {lines : List SessionLine} {pairs : List Pair} (line : SessionLine)
    (rest : List SessionLine) (pair : Pair)
    → loaded_by line ≡ Some pair → is_pair_among pairs pair ≡ false → length pairs ≢ pair_limit
    → AreFound lines (line ∷ rest) pairs
    → AreFound lines rest (pairs ++ pair ∷ [])
new-loaded {pairs = pairs} line rest pair loads new room are =
    let long = length-append pairs (pair ∷ []) in
    let few = are.few in
    record {
      all = append_assoc pairs (pair ∷ [])
          (new_in (pairs ++ pair ∷ []) (filter_map loaded_by rest))
          ∙ next-pair line rest pair loads new are;
      few = omega arith;
    }

chosen : {A : Type 0} (test : Bool) (x y : A) → test ≡ true → (if test then x else y) ≡ x
chosen true x y is = refl
chosen false x y is = absurd (cc)

other : {A : Type 0} (test : Bool) (x y : A) → test ≡ false → (if test then x else y) ≡ y
other false x y is = refl
other true x y is = absurd (cc)

pub many-loaded : {lines : List SessionLine} {pairs : List Pair} (line : SessionLine)
    (rest : List SessionLine) (pair : Pair)
    → loaded_by line ≡ Some pair → is_pair_among pairs pair ≡ false → length pairs ≡ pair_limit
    → AreFound lines (line ∷ rest) pairs
    → pairs_due lines ≡ Err ManyPairs
unfolding pairs_due
many-loaded {lines = lines} {pairs = pairs} line rest pair loads new full are =
    chosen (nat_lt pair_limit (length (pairs_in lines))) (Err ManyPairs) (Ok (pairs_in lines)) more
  where
    long : length (pairs_in lines) ≡ length pairs
        + length (pair ∷ new_in (pairs ++ pair ∷ []) (filter_map loaded_by rest))
    long = sym (ap length (next-pair line rest pair loads new are))
        ∙ length-append pairs (pair ∷ new_in (pairs ++ pair ∷ []) (filter_map loaded_by rest))

    more : nat_lt pair_limit (length (pairs_in lines)) ≡ true
    more = grind (arith, nat_tests, long, full)

pub all-found : {lines : List SessionLine} {pairs : List Pair} (rest : List SessionLine)
    → rest ≡ [] → AreFound lines rest pairs
    → pairs_due lines ≡ Ok pairs
unfolding pairs_due
all-found {lines = lines} {pairs = pairs} rest none are =
    other (nat_lt pair_limit (length (pairs_in lines))) (Err ManyPairs) (Ok (pairs_in lines)) few
    ∙ ap Ok (sym whole)
  where
    whole : pairs ≡ pairs_in lines
    whole = sym (append-nil pairs)
        ∙ ap (λ xs. pairs ++ new_in pairs (filter_map loaded_by xs)) (sym none)
        ∙ are.all

    few : nat_lt pair_limit (length (pairs_in lines)) ≡ false
    few = grind (arith, nat_tests, ap length whole, are.few)
