-- The states of a rule, one set after another.
use Rattle.std.proofs.Common.{◌≡◌, ℕ, ◌+◌, ◌<◌, ◌≤◌, Bool, true, false, not, ◌&&◌, ◌||◌, List, []}
use Rattle.std.proofs.Common.{◌∷◌, ◌++◌, length, take, drop, set, get_or, replicate, refl, sym, ap}
use Rattle.std.proofs.Common.{◌∙◌, append_assoc, append-nil, zero, suc, if◌then◌else◌, arith}
use Rattle.std.proofs.lemmas.Bool.{ne_eqb}
use Rattle.std.proofs.lemmas.List.{length-replicate, drop_more, drop_all, take_all, take_more_set}
use Rattle.std.proofs.lemmas.List.{drop-set-lt}
use Rattle.spell_types.specs.declared.flags.Flag.{Flag}
use Rattle.spell_types.specs.declared.patterns.PatternStep.{PatternStep}
use Rattle.spell_types.specs.Patterns.{matches, fits_step, is_left_out, is_many, steps_after}
use Rattle.spell_types.specs.Patterns.{MatchesOneByOne}
use Rattle.compound_pattern.specs.States.{match_from, AreAfter}

-- ---- one set more
-- the states after the set, from a place on: whether the set leads to it from the one before it,
-- and whether that one is passed
abbrev pub advanced : List PatternStep → List Flag → Bool → Bool → List Bool → List Bool
advanced steps flags passes arrives [] = []
advanced [] flags passes arrives (state ∷ states) =
    arrives ∷ advanced [] flags passes arrives states
advanced (step ∷ more) flags passes arrives (state ∷ states) =
    let reached = state || passes in
    let fits = reached && fits_step step flags in
    (arrives || (fits && is_many step.times)) ∷ advanced more flags (reached && is_left_out step)
    (fits && not (fits && is_many step.times)) states

-- the states that are done, with what the others become, are what the first ones become
abbrev pub AreGoing : List PatternStep → List Flag → List Bool → ℕ → Bool → Bool → List Bool
    → Type 0
AreGoing steps flags first place passes arrives states =
    take place states ++ advanced (drop place steps) flags passes arrives (drop place states)
    ≡ advanced steps flags false false first

-- one state that is put in its place
one_more : (steps : List PatternStep) (flags : List Flag) (passes arrives state : Bool)
    (states : List Bool) (place : ℕ) → place < length states
    → take (place + 1) (set states place state) ++ advanced steps flags passes arrives
    (drop (place + 1) (set states place state))
    ≡ take place states ++ (state ∷ advanced steps flags passes arrives (drop (place + 1) states))
one_more steps flags passes arrives state states place within =
    ap (λ xs. xs ++ advanced steps flags passes arrives (drop (place + 1) (set states place state)))
    (take_more_set states place state within)
    ∙ ap (λ xs. (take place states ++ state ∷ []) ++ advanced steps flags passes arrives xs)
    (drop-set-lt (place + 1) states place state (omega arith))
    ∙ append_assoc (take place states) (state ∷ [])
    (advanced steps flags passes arrives (drop (place + 1) states))

-- a place behind the last step
pub advanced_end : (steps : List PatternStep) (flags : List Flag) (first states : List Bool)
    (place : ℕ) (passes arrives : Bool) → length steps ≤ place → place < length states
    → AreGoing steps flags first place passes arrives states
    → AreGoing steps flags first (place + 1) passes arrives (set states place arrives)
advanced_end steps flags first states place passes arrives past within going =
    one_more (drop (place + 1) steps) flags passes arrives arrives states place within
    ∙ ap (λ xs. take place states
    ++ (arrives ∷ advanced xs flags passes arrives (drop (place + 1) states)))
    (drop_all (place + 1) steps (omega (arith, past)))
    ∙ ap (λ xs. take place states ++ advanced [] flags passes arrives xs)
    (sym (drop_more states place false within))
    ∙ ap (λ xs. take place states ++ advanced xs flags passes arrives (drop place states))
    (sym (drop_all place steps past))
    ∙ going

-- a place before a step
pub advanced_more : (steps : List PatternStep) (flags : List Flag) (first states : List Bool)
    (place : ℕ) (passes arrives : Bool) (step : PatternStep) (takes many left : Bool)
    → place < length steps → step ≡ get_or steps place step → place < length states
    → takes ≡ ((get_or states place false || passes) && fits_step step flags)
    → many ≡ is_many step.times → left ≡ is_left_out step
    → AreGoing steps flags first place passes arrives states
    → AreGoing steps flags first (place + 1) ((get_or states place false || passes) && left)
    (takes && not (takes && many)) (set states place (arrives || (takes && many)))
advanced_more steps flags first states place passes arrives step takes many left among at within
    takes_is many_is left_is going =
    let state = get_or states place false in
    let others = drop (place + 1) steps in
    let rest = drop (place + 1) states in
    let front = take place states in
    let here_is : drop place steps ≡ step ∷ others =
    drop_more steps place step among ∙ ap (λ s. s ∷ others) (sym at) in
    one_more others flags ((state || passes) && left) (takes && not (takes && many))
    (arrives || (takes && many)) states place within
    ∙ ap (λ b. front
    ++ ((arrives || (takes && many)) ∷ advanced others flags ((state || passes) && b)
    (takes && not (takes && many)) rest)) left_is
    ∙ ap (λ b. front
    ++ ((arrives || (takes && b))
    ∷ advanced others flags ((state || passes) && is_left_out step) (takes && not (takes && b))
    rest)) many_is
    ∙ ap (λ b. front
    ++ ((arrives || (b && is_many step.times))
    ∷ advanced others flags ((state || passes) && is_left_out step)
    (b && not (b && is_many step.times)) rest)) takes_is
    ∙ ap (λ xs. front ++ advanced xs flags passes arrives (state ∷ rest)) (sym here_is)
    ∙ ap (λ xs. front ++ advanced (drop place steps) flags passes arrives xs)
    (sym (drop_more states place false within))
    ∙ going

pub same_going : (steps : List PatternStep) (flags : List Flag) (first : List Bool) (place : ℕ)
    (passes passes' arrives arrives' : Bool) (states states' : List Bool)
    → passes' ≡ passes → arrives' ≡ arrives → states' ≡ states
    → AreGoing steps flags first place passes arrives states
    → AreGoing steps flags first place passes' arrives' states'
same_going steps flags first place passes passes' arrives arrives' states states' p a s going =
    ap (λ b. take place states' ++ advanced (drop place steps) flags b arrives'
    (drop place states')) p
    ∙ ap (λ b. take place states' ++ advanced (drop place steps) flags passes b
    (drop place states')) a
    ∙ ap (λ xs. take place xs ++ advanced (drop place steps) flags passes arrives (drop place xs)) s
    ∙ going

-- at the end all places are done
pub advanced_all : (steps : List PatternStep) (flags : List Flag) (first states : List Bool)
    (place : ℕ) (passes arrives : Bool) → length states ≤ place
    → AreGoing steps flags first place passes arrives states
    → states ≡ advanced steps flags false false first
advanced_all steps flags first states place passes arrives past going =
    sym (append-nil states)
    ∙ ap (λ xs. xs ++ []) (sym (take_all place states past))
    ∙ ap (λ xs. take place states ++ advanced (drop place steps) flags passes arrives xs)
    (sym (drop_all place states past))
    ∙ going

-- ---- what the new states tell
-- the truth of one of three, in another order
turned : (m p f : Bool) → m || (p || f) ≡ (p || m) || f
turned true true f = refl
turned true false f = refl
turned false true f = refl
turned false false f = refl

-- what a place that is reached hands on, and what the steps from it on match: these two together
reached_place : (reached left fits many here others later after : Bool)
    → (((reached && fits) && many) && here)
    || ((((reached && fits) && not ((reached && fits) && many)) && others)
    || (((reached && left) && later) || after))
    ≡ (reached && ((left && later) || (fits && (if many then here else others)))) || after
reached_place false left fits many here others later after = refl
reached_place true left false many here others later after = turned false (left && later) after
reached_place true left true true here others later after = turned here (left && later) after
reached_place true left true false here others later after = turned others (left && later) after

parted : (arrives stays here more : Bool) → ((arrives || stays) && here) || more ≡ (arrives && here)
    || ((stays && here) || more)
parted true stays true more = refl
parted true true false more = refl
parted true false false more = refl
parted false stays here more = refl

joined : (state passes all after : Bool) → ((state || passes) && all) || after ≡ (passes && all)
    || ((state && all) || after)
joined true true true after = refl
joined true true false after = refl
joined true false all after = refl
joined false passes all after = refl

-- what the rest of a rule matches behind a step that takes a set
after_step : (step : PatternStep) (more : List PatternStep) (sets : List (List Flag))
    → matches (steps_after step more) sets
    ≡ (if is_many step.times then matches (step ∷ more) sets else matches more sets)
after_step step more sets = by (is_many step.times)
  where
    by : (b : Bool) → matches (if b then step ∷ more else more) sets
        ≡ (if b then matches (step ∷ more) sets else matches more sets)
    by true = refl
    by false = refl

-- the new states tell of the rest what the old ones told of the set and the rest
advanced-match_from : (law : MatchesOneByOne) (steps : List PatternStep) (flags : List Flag)
    (passes arrives : Bool) (states : List Bool) (rest : List (List Flag))
    → length states ≡ length steps + 1
    → match_from steps (advanced steps flags passes arrives states) rest
    ≡ (arrives && matches steps rest)
    || ((passes && matches steps (flags ∷ rest)) || match_from steps states (flags ∷ rest))
advanced-match_from law steps flags passes arrives [] rest size = absurd (omega (arith, size))
advanced-match_from law [] flags passes arrives (state ∷ []) rest size =
    let none : matches [] (flags ∷ rest) ≡ false =
    ne_eqb (length (flags ∷ rest)) 0 (λ e. omega (arith, e)) in
    by arrives passes state (matches [] rest)
    ∙ ap (λ b. (arrives && matches [] rest) || ((passes && b) || (state && b))) (sym none)
  where
    by : (a p s m : Bool) → a && m ≡ (a && m) || ((p && false) || (s && false))
    by true true true true = refl
    by true true false true = refl
    by true false true true = refl
    by true false false true = refl
    by true true true false = refl
    by true true false false = refl
    by true false true false = refl
    by true false false false = refl
    by false true true m = refl
    by false true false m = refl
    by false false true m = refl
    by false false false m = refl
advanced-match_from law [] flags passes arrives (state ∷ next ∷ states) rest size =
    absurd (omega (arith, size))
advanced-match_from law (step ∷ more) flags passes arrives (state ∷ states) rest size =
    let reached = state || passes in
    let fits = reached && fits_step step flags in
    let stays = fits && is_many step.times in
    let here = matches (step ∷ more) rest in
    let others = matches more rest in
    let later = matches more (flags ∷ rest) in
    let after = match_from more states (flags ∷ rest) in
    let whole : matches (step ∷ more) (flags ∷ rest) ≡ (is_left_out step && later)
    || (fits_step step flags && (if is_many step.times then here else others)) =
    law.next step more flags rest
    ∙ ap (λ b. (is_left_out step && later) || (fits_step step flags && b))
    (after_step step more rest) in
    ap (λ b. ((arrives || stays) && here) || b)
    (advanced-match_from law more flags (reached && is_left_out step) (fits && not stays) states
    rest (omega (arith, size)))
    ∙ parted arrives stays here
    (((fits && not stays) && others) || (((reached && is_left_out step) && later) || after))
    ∙ ap (λ b. (arrives && here) || b)
    (reached_place reached (is_left_out step) (fits_step step flags) (is_many step.times) here
    others later after)
    ∙ ap (λ b. (arrives && here) || ((reached && b) || after)) (sym whole)
    ∙ ap (λ b. (arrives && here) || b)
    (joined state passes (matches (step ∷ more) (flags ∷ rest)) after)

pub advanced_tell : (law : MatchesOneByOne) (steps : List PatternStep) (flags : List Flag)
    (old new : List Bool) → new ≡ advanced steps flags false false old
    → length old ≡ length steps + 1
    → (rest : List (List Flag)) → match_from steps new rest ≡ match_from steps old (flags ∷ rest)
advanced_tell law steps flags old new is size rest =
    ap (λ states. match_from steps states rest) is
    ∙ advanced-match_from law steps flags false false old rest size

-- ---- the end
-- whether the end is reached from some place of these, or from the place before them, if that may
-- be
abbrev pub ended : List PatternStep → Bool → List Bool → Bool
ended steps reached [] = reached
ended [] reached (state ∷ states) = ended [] (reached || state) states
ended (step ∷ more) reached (state ∷ states) =
    ended more ((reached || state) && is_left_out step) states

pub ended_all : (steps : List PatternStep) (reached : Bool) (states : List Bool) (place : ℕ)
    → length states ≤ place → reached ≡ ended (drop place steps) reached (drop place states)
ended_all steps reached states place past =
    ap (ended (drop place steps) reached) (sym (drop_all place states past))

ended-match_from : (law : MatchesOneByOne) (steps : List PatternStep) (reached : Bool)
    (states : List Bool) → length states ≡ length steps + 1
    → ended steps reached states ≡ (reached && matches steps []) || match_from steps states []
ended-match_from law steps reached [] size = absurd (omega (arith, size))
ended-match_from law [] reached (state ∷ []) size = by reached state
  where
    by : (r s : Bool) → r || s ≡ (r && true) || (s && true)
    by true s = refl
    by false true = refl
    by false false = refl
ended-match_from law [] reached (state ∷ next ∷ states) size = absurd (omega (arith, size))
ended-match_from law (step ∷ more) reached (state ∷ states) size =
    let after = match_from more states [] in
    ended-match_from law more ((reached || state) && is_left_out step) states (omega (arith, size))
    ∙ by reached state (is_left_out step) (matches more []) after
    ∙ ap (λ b. (reached && b) || ((state && b) || after)) (sym (law.none step more))
  where
    by : (r s l n f : Bool) → (((r || s) && l) && n) || f ≡ (r && (l && n))
        || ((s && (l && n)) || f)
    by true true true true f = refl
    by true true true false f = refl
    by true true false n f = refl
    by true false true true f = refl
    by true false true false f = refl
    by true false false n f = refl
    by false s true n f = by_state s n f
      where
        by_state : (s n f : Bool) → ((s && true) && n) || f ≡ (s && n) || f
        by_state true n f = refl
        by_state false n f = refl
    by false true false n f = refl
    by false false false n f = refl

pub ended_tell : (law : MatchesOneByOne) (steps : List PatternStep) (states : List Bool)
    → length states ≡ length steps + 1 → ended steps false states ≡ match_from steps states []
ended_tell law steps states size = ended-match_from law steps false states size

-- ---- after all sets
none_set : (steps : List PatternStep) (count : ℕ) (sets : List (List Flag))
    → match_from steps (replicate count false) sets ≡ false
none_set steps zero sets = refl
none_set [] (suc count) sets = refl
none_set (step ∷ more) (suc count) sets = none_set more count sets

pub start-AreAfter : (steps : List PatternStep)
    → AreAfter steps [] (true ∷ replicate (length steps) false)
start-AreAfter steps =
    record { places = omega (arith, length-replicate (length steps) false); goes_on = by steps }
  where
    by : (xs : List PatternStep) (rest : List (List Flag))
        → matches xs rest ≡ match_from xs (true ∷ replicate (length xs) false) rest
    by [] rest = refl
    by (step ∷ more) rest = or-false (matches (step ∷ more) rest)
        ∙ ap (λ b. matches (step ∷ more) rest || b) (sym (none_set more (suc (length more)) rest))
      where
        or-false : (b : Bool) → b ≡ b || false
        or-false true = refl
        or-false false = refl

pub first_set : (steps slice : List PatternStep) (kept : List Bool) → slice ≡ steps
    → kept ≡ replicate (length slice + 1) false → set kept 0 true ≡ true
    ∷ replicate (length steps) false
first_set steps slice kept same is =
    let more : length slice + 1 ≡ suc (length steps) = omega (arith, ap length same) in
    ap (λ xs. set xs 0 true) (is ∙ ap (λ n. replicate n false) more)
