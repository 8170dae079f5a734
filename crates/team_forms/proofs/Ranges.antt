-- Numbers one after another, and lists that are parted.
use Rattle.std.proofs.Common.{◌≡◌, ◌∙◌, refl, ap, ℕ, zero, suc, ◌+◌, List, [], ◌∷◌, ◌++◌, map, drop}
use Rattle.std.proofs.Common.{arith}
use Rattle.std.specs.List.{AllByRecursion, range_with_len}

-- in two parts
pub range-append : (a m n : ℕ) → range_with_len a (m + n) ≡ range_with_len a m
    ++ range_with_len (a + m) n
range-append a zero n = ap (range_with_len a) (none n) ∙ ap (λ k. range_with_len k n) (more a)
  where
    none : (n : ℕ) → zero + n ≡ n
    none n = omega arith

    more : (a : ℕ) → a ≡ a + zero
    more a = omega arith
range-append a (suc m) n =
    ap (range_with_len a) (next m n)
    ∙ ap (λ l. a ∷ l) (range-append (a + 1) m n
    ∙ ap (λ k. range_with_len (a + 1) m ++ range_with_len k n) (on a m))
  where
    next : (m n : ℕ) → suc m + n ≡ suc (m + n)
    next m n = omega arith

    on : (a m : ℕ) → a + 1 + m ≡ a + suc m
    on a m = omega arith

-- what is left behind the first
pub range-drop : (a m n : ℕ) → drop m (range_with_len a (m + n)) ≡ range_with_len (a + m) n
range-drop a zero n = ap (range_with_len a) (none n) ∙ ap (λ k. range_with_len k n) (more a)
  where
    none : (n : ℕ) → zero + n ≡ n
    none n = omega arith

    more : (a : ℕ) → a ≡ a + zero
    more a = omega arith
range-drop a (suc m) n =
    ap (λ k. drop (suc m) (range_with_len a k)) (next m n)
    ∙ range-drop (a + 1) m n ∙ ap (λ k. range_with_len k n) (on a m)
  where
    next : (m n : ℕ) → suc m + n ≡ suc (m + n)
    next m n = omega arith

    on : (a m : ℕ) → a + 1 + m ≡ a + suc m
    on a m = omega arith

pub map-drop : {X Y : Type 0} (f : X → Y) (n : ℕ) (xs : List X)
    → drop n (map f xs) ≡ map f (drop n xs)
map-drop f zero xs = refl
map-drop f (suc n) [] = refl
map-drop f (suc n) (x ∷ xs) = map-drop f n xs

-- what holds of all of two lists holds of all of each
pub parts-hold : {X : Type 0} (P : X → Type 0) (front back : List X)
    → AllByRecursion P (front ++ back) → AllByRecursion P front × AllByRecursion P back
parts-hold P [] back all = (tt, all)
parts-hold P (x ∷ front) back all =
    let rest = parts-hold P front back all.1 in ((all.0, rest.0), rest.1)

pub both-hold : {X : Type 0} (P : X → Type 0) (front back : List X) → AllByRecursion P front
    → AllByRecursion P back → AllByRecursion P (front ++ back)
both-hold P [] back first second = second
both-hold P (x ∷ front) back first second = (first.0, both-hold P front back first.1 second)
