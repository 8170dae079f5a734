-- The least of numbers, where they are there.
use Rattle.std.proofs.Common.{◌≡◌, ◌∙◌, refl, sym, ap, subst, ℕ, ◌+◌, ◌<◌, ◌≤◌, nat_le, Bool, true}
use Rattle.std.proofs.Common.{false, ◌⊎◌, inl, inr, List, [], ◌∷◌, ◌++◌, length, map, take, get_or}
use Rattle.std.proofs.Common.{Option, None, Some, arith, cond}
use Rattle.std.specs.Borrow.{Bor}
use Rattle.std.specs.List.{AllByRecursion}
use Rattle.std.proofs.lemmas.Bool.Decides.{nat_tests}
use Rattle.std.proofs.lemmas.List.{take_more, map-append}
use Rattle.compound_words.specs.Counting.{least_of_two, fewest, IsFewest, OneOf}
use Rattle.compound_words.specs.Rests.{rests_at}
use Rattle.compound_words.specs.declared.rests.FirstPart.{FirstPart}

pub least-none : (a : Option ℕ) → least_of_two a None ≡ a
least-none None = refl
least-none (Some n) = refl

pub least-assoc : (a b c : Option ℕ)
    → least_of_two a (least_of_two b c) ≡ least_of_two (least_of_two a b) c
least-assoc None b c = refl
least-assoc (Some n) None c = refl
least-assoc (Some n) (Some m) None = ap (λ z. z) (least-both n m)
  where
    least-both : (n m : ℕ)
        → least_of_two (Some n) (Some m) ≡ least_of_two (least_of_two (Some n) (Some m)) None
    least-both n m = sym (least-none (least_of_two (Some n) (Some m)))
least-assoc (Some n) (Some m) (Some k) = grind (arith, nat_tests)

fewest-snoc : (xs : List (Option ℕ)) (x : Option ℕ)
    → fewest (xs ++ x ∷ []) ≡ least_of_two (fewest xs) x
fewest-snoc [] x = least-none x
fewest-snoc (y ∷ xs) x = ap (least_of_two y) (fewest-snoc xs x) ∙ least-assoc y (fewest xs) x

-- one rest more
pub fewest-turn : (f : FirstPart → Option ℕ) (rests : List (Bor FirstPart)) (place : ℕ)
    (rest : Bor FirstPart) (found : Option ℕ) → place < length rests
    → rest ≡ get_or rests place rest
    → found ≡ fewest (map f (rests_at (take place rests)))
    → least_of_two found (f rest.now) ≡ fewest (map f (rests_at (take (place + 1) rests)))
fewest-turn f rests place rest found within is so_far =
    let before = take place rests in
    let whole : map f (rests_at (take (place + 1) rests)) ≡ map f
    (rests_at before) ++ f rest.now ∷ [] =
    ap (λ l. map f (rests_at l))
    (take_more rests place rest within ∙ ap (λ (l : Bor FirstPart). before ++ l ∷ []) (sym is))
    ∙ ap (map f) (map-append (λ (l : Bor FirstPart). l.now) before (rest ∷ []))
    ∙ map-append f (rests_at before) (rest.now ∷ []) in
    ap (λ o. least_of_two o (f rest.now)) so_far ∙ sym (fewest-snoc (map f (rests_at before)) (f rest.now))
    ∙ ap fewest (sym whole)

-- ---- the least number for which something holds
pub fewest-same : (P Q : ℕ → Type 0) → ((n : ℕ) → P n → Q n) → ((n : ℕ) → Q n → P n)
    → (found : Option ℕ) → IsFewest P found → IsFewest Q found
fewest-same P Q there back None none = λ n holds. none n (back n holds)
fewest-same P Q there back (Some m) is = (there m is.0, λ n holds. is.1 n (back n holds))

pub fewest-none : (P : ℕ → Type 0) → ((n : ℕ) → ¬ (P n)) → IsFewest P None
fewest-none P none = none

pub fewest-either : (P Q : ℕ → Type 0) (a b : Option ℕ) → IsFewest P a → IsFewest Q b
    → IsFewest (λ n. P n ⊎ Q n) (least_of_two a b)
fewest-either P Q None None p q = λ n holds. no n holds
  where
    no : (n : ℕ) → ¬ (P n ⊎ Q n)
    no n (inl is) = p n is
    no n (inr is) = q n is
fewest-either P Q None (Some m) p q = (inr q.0, λ n holds. below n holds)
  where
    below : (n : ℕ) → P n ⊎ Q n → m ≤ n
    below n (inl is) = absurd (p n is)
    below n (inr is) = q.1 n is
fewest-either P Q (Some m) None p q = (inl p.0, λ n holds. below n holds)
  where
    below : (n : ℕ) → P n ⊎ Q n → m ≤ n
    below n (inl is) = p.1 n is
    below n (inr is) = absurd (q n is)
fewest-either P Q (Some m) (Some k) p q = by (nat_le m k) refl
  where
    lower : nat_le m k ≡ true → (n : ℕ) → P n ⊎ Q n → m ≤ n
    lower test n (inl is) = p.1 n is
    lower test n (inr is) = let below = q.1 n is in grind (arith, nat_tests)

    upper : nat_le m k ≡ false → (n : ℕ) → P n ⊎ Q n → k ≤ n
    upper test n (inl is) = let below = p.1 n is in grind (arith, nat_tests)
    upper test n (inr is) = q.1 n is

    by : (b : Bool) → nat_le m k ≡ b → IsFewest (λ n. P n ⊎ Q n) (least_of_two (Some m) (Some k))
    by true test =
        subst (IsFewest (λ n. P n ⊎ Q n)) (sym (ap (λ c. cond c (Some m) (Some k)) test))
        (inl p.0, lower test)
    by false test =
        subst (IsFewest (λ n. P n ⊎ Q n)) (sym (ap (λ c. cond c (Some m) (Some k)) test))
        (inr q.0, upper test)

-- the fewest of a list of numbers, each of which is the least for its item
pub fewest-list : {X : Type 0} (L : X → ℕ → Type 0) (f : X → Option ℕ) (xs : List X)
    → AllByRecursion (λ x. IsFewest (L x) (f x)) xs
    → IsFewest (λ n. OneOf (λ x. L x n) xs) (fewest (map f xs))
fewest-list L f [] right = λ n holds. holds
fewest-list L f (x ∷ xs) right =
    fewest-either (L x) (λ n. OneOf (λ x. L x n) xs) (f x) (fewest (map f xs)) right.0
    (fewest-list L f xs right.1)
