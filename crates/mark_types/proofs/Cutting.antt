-- A list that is cut into parts.
use Rattle.std.proofs.Common.{◌≡◌, ◌<◌, Bool, true, false, cond, List, [], ◌∷◌, ◌++◌, length, map}
use Rattle.std.proofs.Common.{refl, ap, ◌∙◌, arith}
use Rattle.std.specs.List.{slice_split, onto_first, AllByRecursion}
use Rattle.std.proofs.lemmas.List.Splits.{length-slice_split}

onto_first-append : {X : Type 0} (x : X) (parts others : List (List X)) → 0 < length parts
    → onto_first x (parts ++ others) ≡ onto_first x parts ++ others
onto_first-append x [] others some = absurd (omega (arith, some))
onto_first-append x (part ∷ parts) others some = refl

-- where a separator stands, the parts before it and behind it are apart
pub slice_split-append : {X : Type 0} (p : X → Bool) (xs : List X) (y : X) (ys : List X)
    → p y ≡ true → slice_split p (xs ++ y ∷ ys) ≡ slice_split p xs ++ slice_split p ys
slice_split-append p [] y ys cut = rw cut refl
slice_split-append p (x ∷ xs) y ys cut =
    let rest = slice_split-append p xs y ys cut in
    elim (p x) as
    (λ b. cond b ([] ∷ slice_split p (xs ++ y ∷ ys))
    (onto_first x (slice_split p (xs ++ y ∷ ys)))
    ≡ cond b ([] ∷ slice_split p xs) (onto_first x (slice_split p xs)) ++ slice_split p ys) [
      | true ↦ ap (λ parts. [] ∷ parts) rest
      | false ↦ ap (onto_first x) rest ∙ onto_first-append x (slice_split p xs) (slice_split p ys)
          (omega (arith, length-slice_split p xs))
    ]

onto_first-map : {X Y : Type 0} (f : X → Y) (x : X) (parts : List (List X))
    → onto_first (f x) (map (map f) parts) ≡ map (map f) (onto_first x parts)
onto_first-map f x [] = refl
onto_first-map f x (part ∷ parts) = refl

pub slice_split-map : {X Y : Type 0} (f : X → Y) (p : X → Bool) (q : Y → Bool)
    (same : (x : X) → q (f x) ≡ p x) (xs : List X)
    → slice_split q (map f xs) ≡ map (map f) (slice_split p xs)
slice_split-map f p q same [] = refl
slice_split-map f p q same (x ∷ xs) =
    let rest = slice_split-map f p q same xs in
    rw (same x)
    (elim (p x) as
    (λ b. cond b ([] ∷ slice_split q (map f xs)) (onto_first (f x) (slice_split q (map f xs)))
    ≡ map (map f) (cond b ([] ∷ slice_split p xs) (onto_first x (slice_split p xs)))) [
      | true ↦ ap (λ parts. [] ∷ parts) rest
      | false ↦ ap (onto_first (f x)) rest ∙ onto_first-map f x (slice_split p xs)
    ])

-- the part stands in the list, behind this front and before this back
pub record IsPart {X : Type 0} (xs part : List X) : Type 0 where
  pub front : List X
  pub back : List X
  pub whole : xs ≡ front ++ (part ++ back)

-- each part stands in the list, the first of them at its beginning
record ArePartsOf {X : Type 0} (xs : List X) (first : List X) (parts : List (List X)) : Type 0 where
  rest : List X
  begins : xs ≡ first ++ rest
  others : AllByRecursion (IsPart xs) parts

part-cons : {X : Type 0} (x : X) (xs part : List X) → IsPart xs part → IsPart (x ∷ xs) part
part-cons x xs part stands =
    record { front = x ∷ stands.front; back = stands.back; whole = ap (λ ys. x ∷ ys) stands.whole }

parts-cons : {X : Type 0} (x : X) (xs : List X) (parts : List (List X))
    → AllByRecursion (IsPart xs) parts → AllByRecursion (IsPart (x ∷ xs)) parts
parts-cons x xs [] each = each
parts-cons x xs (part ∷ parts) each = (part-cons x xs part each.0, parts-cons x xs parts each.1)

-- what is known of the parts of a list, as a whole
abbrev AreParts : {X : Type 0} → List X → List (List X) → Type 0
AreParts xs [] = ⊥
AreParts xs (first ∷ parts) = ArePartsOf xs first parts

parts-onto_first : {X : Type 0} (x : X) (xs : List X) (parts : List (List X)) → AreParts xs parts
    → AreParts (x ∷ xs) (onto_first x parts)
parts-onto_first x xs [] stand = absurd stand
parts-onto_first x xs (first ∷ parts) stand =
    record {
      rest = stand.rest;
      begins = ap (λ ys. x ∷ ys) stand.begins;
      others = parts-cons x xs parts stand.others;
    }

parts-nil : {X : Type 0} (x : X) (xs : List X) (parts : List (List X)) → AreParts xs parts
    → AreParts (x ∷ xs) ([] ∷ parts)
parts-nil x xs [] stand = absurd stand
parts-nil x xs (first ∷ parts) stand =
    record {
      rest = x ∷ xs;
      begins = refl;
      others = (
        record
            { front = x ∷ []; back = stand.rest; whole = ap (λ ys. x ∷ ys) stand.begins },
        parts-cons x xs parts stand.others,
      );
    }

are_parts : {X : Type 0} (p : X → Bool) (xs : List X) → AreParts xs (slice_split p xs)
are_parts p [] = record { rest = []; begins = refl; others = tt }
are_parts p (x ∷ xs) =
    let rest = are_parts p xs in
    elim (p x) as
    (λ b. AreParts (x ∷ xs) (cond b ([] ∷ slice_split p xs) (onto_first x (slice_split p xs)))) [
      | true ↦ parts-nil x xs (slice_split p xs) rest
      | false ↦ parts-onto_first x xs (slice_split p xs) rest
    ]

all_parts : {X : Type 0} (xs : List X) (parts : List (List X)) → AreParts xs parts
    → AllByRecursion (IsPart xs) parts
all_parts xs [] stand = absurd stand
all_parts xs (first ∷ parts) stand =
    (record { front = []; back = stand.rest; whole = stand.begins }, stand.others)

-- each part of a list that is cut stands in the list
pub slice_split-parts : {X : Type 0} (p : X → Bool) (xs : List X)
    → AllByRecursion (IsPart xs) (slice_split p xs)
slice_split-parts p xs = all_parts xs (slice_split p xs) (are_parts p xs)
