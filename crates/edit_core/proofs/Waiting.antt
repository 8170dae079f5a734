-- The first paragraph that waits.
use Rattle.std.proofs.Common.{◌≡◌, ◌∙◌, refl, sym, ap, ℕ, suc, Bool, true, false, List, [], ◌∷◌}
use Rattle.std.proofs.Common.{map, get_or, position, slice_get, Option, None, Some}
use Rattle.std.specs.List.{AllByRecursion}
use Rattle.std.specs.Option.{option_map}
use Rattle.std.proofs.lemmas.Bool.{false≢true}
use Rattle.std.proofs.lemmas.List.Quantifiers.{position-Some}
use Rattle.std.proofs.lemmas.Option.{none-some, slice_get-get_or}
use Rattle.mark_types.specs.lists.Laws.{each-weaker}
use Rattle.edit_core.specs.Runs.{is_waiting}
use Rattle.edit_core.specs.declared.state.Standing.{Standing}
use Rattle.edit_core.specs.declared.state.Standing.TheVariants.{Waiting, Held, Parked, Finished}
use Rattle.edit_core.proofs.Places.{position-hit, position-miss}

-- the first of what is made of each item that passes
pub position-map : {X Y : Type 0} (p : Y → Bool) (f : X → Y) (xs : List X)
    → position (λ x. p (f x)) xs ≡ position p (map f xs)
position-map p f [] = refl
position-map p f (x ∷ xs) = by (position-map p f xs) (p (f x)) refl
  where
    by : position (λ x. p (f x)) xs ≡ position p (map f xs) → (b : Bool) → p (f x) ≡ b
        → position (λ x. p (f x)) (x ∷ xs) ≡ position p (f x ∷ map f xs)
    by more true is = position-hit (λ x. p (f x)) x xs is ∙ sym (position-hit p (f x) (map f xs) is)
    by more false is =
        position-miss (λ x. p (f x)) x xs is ∙ ap (option_map (λ n. suc n)) more
        ∙ sym (position-miss p (f x) (map f xs) is)

-- where none is the first that passes, none passes
pub none-passes : {X : Type 0} (p : X → Bool) (xs : List X) → position p xs ≡ None
    → AllByRecursion (λ x. p x ≡ false) xs
none-passes p [] none = tt
none-passes p (x ∷ xs) none = by (none-passes p xs) (p x) refl
  where
    unmapped : (found : Option ℕ) → option_map (λ n. suc n) found ≡ None → found ≡ None
    unmapped None is = refl
    unmapped (Some j) is = cc

    by : (position p xs ≡ None → AllByRecursion (λ x. p x ≡ false) xs) → (b : Bool) → p x ≡ b
        → (p x ≡ false) × AllByRecursion (λ x. p x ≡ false) xs
    by more true is = absurd (none-some 0 (sym none ∙ position-hit p x xs is))
    by more false is = (is, more (unmapped (position p xs) (sym (position-miss p x xs is) ∙ none)))

waits : (stands : Standing) → is_waiting stands ≡ true → stands ≡ Waiting
waits Waiting is = refl
waits (Held worker) is = absurd (false≢true is)
waits Parked is = absurd (false≢true is)
waits Finished is = absurd (false≢true is)

-- what stands at the place of the first that waits does, and where there is no such place none
-- waits
pub waits-at : (standings : List Standing) (place : ℕ) → position is_waiting standings ≡ Some place
    → slice_get standings place ≡ Some Waiting
waits-at standings place is =
    let there = position-Some is_waiting standings place Waiting is in
    slice_get-get_or standings place Waiting there.0
    ∙ ap (λ s. Some s) (waits (get_or standings place Waiting) there.1)

pub none-waits : (standings : List Standing) → position is_waiting standings ≡ None
    → AllByRecursion (λ stands. ¬ (stands ≡ Waiting)) standings
none-waits standings none =
    each-weaker (λ s. is_waiting s ≡ false) (λ s. ¬ (s ≡ Waiting))
    (λ s not same. false≢true (sym not ∙ ap is_waiting same))
    standings (none-passes is_waiting standings none)
