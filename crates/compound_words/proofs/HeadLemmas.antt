-- Rests that are enough to be looked at.
use Rattle.std.proofs.Common.{◌≡◌, ◌∙◌, refl, sym, ap, subst, ℕ, zero, suc, ◌+◌, ◌<◌, Bool, true}
use Rattle.std.proofs.Common.{false, true≢false, cond, ◌⊎◌, inl, inr, List, [], ◌∷◌, ◌++◌, length}
use Rattle.std.proofs.Common.{map, filter, take, get_or, slice_get, Option, None, Some, arith}
use Rattle.std.proofs.Common.{append-nil, append_assoc}
use Rattle.std.specs.List.{list_any}
use Rattle.std.specs.Borrow.{Bor}
use Rattle.std.specs.Option.{option_map, option_to_list, is_some}
use Rattle.std.proofs.lemmas.Bool.Decides.{nat_tests}
use Rattle.std.proofs.lemmas.List.{take_more}
use Rattle.std.proofs.lemmas.List.Elements.{filter-append}
use Rattle.std.proofs.lemmas.Option.{slice_get-get_or}
use Rattle.spell_types.specs.declared.parts.Part.{Part}
use Rattle.spell_types.specs.Compounds.{Asked, are_joined}
use Rattle.compound_words.specs.declared.rests.FirstPart.{FirstPart}
use Rattle.compound_words.specs.Counting.{least_of_two, fewest, number_at, OneOf}
use Rattle.compound_words.specs.Rests.{Way, ByFlags, ByRule, count_of, numbers_at, may_precede}
use Rattle.compound_words.specs.Rests.{picked, number_before, CanStandFor}
use Rattle.compound_words.proofs.CountLemmas.{least-none, least-assoc}
use Rattle.compound_words.proofs.StepLemmas.{or-false}
use Rattle.compound_words.proofs.AddLemmas.{one-left, one-right}

least-swap : (a b : Option ℕ) → least_of_two a b ≡ least_of_two b a
least-swap None b = sym (least-none b)
least-swap (Some n) None = refl
least-swap (Some n) (Some m) = grind (arith, nat_tests)

-- the number with one rest, if the part may stand before it
abbrev number_of : Asked → Part → Way → FirstPart → Option ℕ
number_of a part way rest = cond (may_precede a part rest) (count_of rest way) None

number-next : (a : Asked) (part : Part) (way : Way) (rest : FirstPart) (rests : List FirstPart)
    → number_before a part way (rest ∷ rests)
    ≡ least_of_two (number_of a part way rest) (number_before a part way rests)
number-next a part way rest rests = by (may_precede a part rest)
  where
    by : (b : Bool)
        → fewest (map (λ r. count_of r way)
        (cond b (rest ∷ filter (may_precede a part) rests) (filter (may_precede a part) rests)))
        ≡ least_of_two (cond b (count_of rest way) None) (number_before a part way rests)
    by true = refl
    by false = refl

-- one rest more at the end
number-snoc : (a : Asked) (part : Part) (way : Way) (rests : List FirstPart) (rest : FirstPart)
    → number_before a part way (rests ++ rest ∷ [])
    ≡ least_of_two (number_before a part way rests) (number_of a part way rest)
number-snoc a part way [] rest =
    number-next a part way rest [] ∙ least-none (number_of a part way rest)
number-snoc a part way (other ∷ rests) rest =
    number-next a part way other (rests ++ rest ∷ [])
    ∙ ap (least_of_two (number_of a part way other)) (number-snoc a part way rests rest)
    ∙ least-assoc (number_of a part way other) (number_before a part way rests)
    (number_of a part way rest)
    ∙ ap (λ n. least_of_two n (number_of a part way rest)) (sym (number-next a part way other rests))

covered-number : (a : Asked) (part : Part) (way : Way) (other rest : FirstPart)
    → CanStandFor other rest
    → least_of_two (number_of a part way other) (number_of a part way rest) ≡ number_of a part way other
covered-number a part way other rest covers =
    ap (λ b. least_of_two (number_of a part way other) (cond b (count_of rest way) None))
    (sym (covers.same a part)) ∙ by (may_precede a part other)
  where
    by : (b : Bool)
        → least_of_two (cond b (count_of other way) None) (cond b (count_of rest way) None)
        ≡ cond b (count_of other way) None
    by true = covers.less way
    by false = refl

-- a rest that one of them covers changes nothing
number-covered : (a : Asked) (part : Part) (way : Way) (rests : List FirstPart) (rest : FirstPart)
    → OneOf (λ other. CanStandFor other rest) rests
    → least_of_two (number_before a part way rests) (number_of a part way rest)
    ≡ number_before a part way rests
number-covered a part way [] rest one = absurd one
number-covered a part way (other ∷ rests) rest one =
    ap (λ n. least_of_two n (number_of a part way rest)) (number-next a part way other rests)
    ∙ by (number-covered a part way rests rest) one ∙ sym (number-next a part way other rests)
  where
    first : Option ℕ
    first = number_of a part way other

    more : Option ℕ
    more = number_before a part way rests

    new : Option ℕ
    new = number_of a part way rest

    by : (OneOf (λ o. CanStandFor o rest) rests → least_of_two more new ≡ more)
        → CanStandFor other rest ⊎ OneOf (λ o. CanStandFor o rest) rests
        → least_of_two (least_of_two first more) new ≡ least_of_two first more
    by again (inl covers) =
        sym (least-assoc first more new) ∙ ap (least_of_two first) (least-swap more new)
        ∙ least-assoc first new more
        ∙ ap (λ n. least_of_two n more) (covered-number a part way other rest covers)
    by again (inr later) = sym (least-assoc first more new) ∙ ap (least_of_two first) (again later)

-- ---- one rest more is looked at
picked-append : (rests : List FirstPart) (places more : List ℕ)
    → picked rests (places ++ more) ≡ picked rests places ++ picked rests more
picked-append rests [] more = refl
picked-append rests (place ∷ places) more =
    ap (λ l. option_to_list (slice_get rests place) ++ l) (picked-append rests places more)
    ∙ sym (append_assoc (option_to_list (slice_get rests place)) (picked rests places)
    (picked rests more))

-- the numbers are those of the rests before a place
abbrev pub AreHeadsTo : List FirstPart → List ℕ → ℕ → Type 0
AreHeadsTo rests places count =
    (a : Asked) (part : Part) (way : Way)
    → number_before a part way (picked rests places) ≡ number_before a part way (take count rests)

more-taken : (rests : List FirstPart) (place : ℕ) (rest : FirstPart) → place < length rests
    → rest ≡ get_or rests place rest → take (place + 1) rests ≡ take place rests ++ rest ∷ []
more-taken rests place rest within is =
    take_more rests place rest within ∙ ap (λ r. take place rests ++ r ∷ []) (sym is)

pub heads-known : (rests : List FirstPart) (places : List ℕ) (place : ℕ) (rest : FirstPart)
    → place < length rests → rest ≡ get_or rests place rest → AreHeadsTo rests places place
    → OneOf (λ other. CanStandFor other rest) (picked rests places)
    → AreHeadsTo rests places (place + 1)
heads-known rests places place rest within is so_far one a part way =
    sym (number-covered a part way (picked rests places) rest one)
    ∙ ap (λ n. least_of_two n (number_of a part way rest)) (so_far a part way)
    ∙ sym (number-snoc a part way (take place rests) rest)
    ∙ ap (number_before a part way) (sym (more-taken rests place rest within is))

pub heads-new : (rests : List FirstPart) (places : List ℕ) (place : ℕ) (rest : FirstPart)
    → place < length rests → rest ≡ get_or rests place rest → AreHeadsTo rests places place
    → AreHeadsTo rests (places ++ place ∷ []) (place + 1)
heads-new rests places place rest within is so_far a part way =
    ap (number_before a part way)
    (picked-append rests places (place ∷ [])
    ∙ ap (λ o. picked rests places ++ (option_to_list o ++ []))
    (slice_get-get_or rests place rest within ∙ ap Some (sym is)))
    ∙ number-snoc a part way (picked rests places) rest
    ∙ ap (λ n. least_of_two n (number_of a part way rest)) (so_far a part way)
    ∙ sym (number-snoc a part way (take place rests) rest)
    ∙ ap (number_before a part way) (sym (more-taken rests place rest within is))

-- ---- what covers a rest
pub covers-from : (rest other : FirstPart)
    → ((a : Asked) (before : Part) → are_joined a before rest.part ≡ are_joined a before other.part)
    → least_of_two rest.by_flags other.by_flags ≡ rest.by_flags
    → list_any (list_any is_some) other.by_rules ≡ false → CanStandFor rest other
covers-from rest other same flags none = record { same = same; less = less }
  where
    no-number : (own : List (Option ℕ)) (step : ℕ) → list_any is_some own ≡ false
        → number_at own step ≡ None
    no-number [] step none = refl
    no-number (None ∷ own) zero none = refl
    no-number (Some n ∷ own) step none = absurd (true≢false none)
    no-number (None ∷ own) (suc step) none = no-number own step none

    no-numbers : (numbers : List (List (Option ℕ))) (rule step : ℕ)
        → list_any (list_any is_some) numbers ≡ false → numbers_at numbers rule step ≡ None
    no-numbers [] rule step none = refl
    no-numbers (own ∷ numbers) zero step none =
        no-number own step
        (or-false (list_any is_some own) (list_any (list_any is_some) numbers) none).0
    no-numbers (own ∷ numbers) (suc rule) step none =
        no-numbers numbers rule step
        (or-false (list_any is_some own) (list_any (list_any is_some) numbers) none).1

    less : (way : Way) → least_of_two (count_of rest way) (count_of other way) ≡ count_of rest way
    less ByFlags = flags
    less (ByRule rule step) =
        ap (least_of_two (numbers_at rest.by_rules rule step)) (no-numbers other.by_rules rule step none)
        ∙ least-none (numbers_at rest.by_rules rule step)

-- ---- the rests at places
picked-turn : (rests : List FirstPart) (places : List ℕ) (index : ℕ) → index < length places
    → picked rests (take (index + 1) places)
    ≡ picked rests (take index places) ++ option_to_list (slice_get rests (get_or places index 0))
picked-turn rests places index within =
    ap (picked rests) (take_more places index 0 within)
    ∙ picked-append rests (take index places) (get_or places index 0 ∷ [])
    ∙ ap (λ l. picked rests (take index places) ++ l)
    (append-nil (option_to_list (slice_get rests (get_or places index 0))))

pub picked-one : (P : FirstPart → Type 0) (rests : List FirstPart) (places : List ℕ)
    (index : ℕ) (rest : FirstPart) → index < length places
    → slice_get rests (get_or places index 0) ≡ Some rest → P rest → OneOf P (picked rests places)
picked-one P rests [] index rest within at holds = absurd (omega (arith, within))
picked-one P rests (first ∷ places) zero rest within at holds =
    one-left P (option_to_list (slice_get rests first)) (picked rests places)
    (subst (λ o. OneOf P (option_to_list o)) (sym at) (inl holds))
picked-one P rests (first ∷ places) (suc index) rest within at holds =
    one-right P (option_to_list (slice_get rests first)) (picked rests places)
    (picked-one P rests places index rest (omega (arith, within)) at holds)

-- the rest at one place more, if the part may stand before it
pub followers-turn : (a : Asked) (part : Part) (rests : List FirstPart) (places : List ℕ)
    (index : ℕ) (found : List FirstPart) → index < length places
    → found ≡ filter (may_precede a part) (picked rests (take index places))
    → found ++ filter (may_precede a part)
    (option_to_list (slice_get rests (get_or places index 0)))
    ≡ filter (may_precede a part) (picked rests (take (index + 1) places))
followers-turn a part rests places index found within so_far =
    ap (λ l. l ++ filter (may_precede a part)
    (option_to_list (slice_get rests (get_or places index 0)))) so_far
    ∙ sym (filter-append (may_precede a part) (picked rests (take index places))
    (option_to_list (slice_get rests (get_or places index 0))))
    ∙ ap (filter (may_precede a part)) (sym (picked-turn rests places index within))

-- the rest that is looked at
pub looked-at : (rests : List FirstPart) (place : ℕ) (got : Option (Bor FirstPart))
    (rest : Bor FirstPart) → option_map (λ r. r.now) got ≡ slice_get rests place → got ≡ Some rest
    → slice_get rests place ≡ Some rest.now
looked-at rests place got rest at is = sym at ∙ ap (option_map (λ r. r.now)) is
