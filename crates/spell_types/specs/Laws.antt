-- Laws of sides and of the places that a derivation names, which the proofs of several crates cite.
use Rattle.std.proofs.Common.{◌≡◌, refl, ℕ, ◌<◌, true, List, map, length, slice_get, Option, None}
use Rattle.std.proofs.Common.{Some, is_some, Contains, if◌then◌else◌}
use Rattle.std.specs.List.{range_with_len}
use Rattle.std.specs.Option.{option_and_then}
use Rattle.std.proofs.lemmas.Option.{slice_get_within}
use Rattle.lists.specs.Laws.{contains-head, contains-tail, contains-map, contains-range}
use Rattle.spell_types.specs.declared.rules.Rule.{Rule}
use Rattle.spell_types.specs.declared.rules.Side.{Side}
use Rattle.spell_types.specs.declared.rules.Side.TheVariants.{Prefix, Suffix}
use Rattle.spell_types.specs.Derivations.{is_same_side, is_right, choices}

-- the test of sides tells whether they are one
pub own_side : (side : Side) → is_same_side side side ≡ true
own_side Prefix = refl
own_side Suffix = refl

pub same_side : (side other : Side) → is_same_side side other ≡ true → other ≡ side
same_side Prefix Prefix same = refl
same_side Prefix Suffix same = absurd (cc)
same_side Suffix Prefix same = absurd (cc)
same_side Suffix Suffix same = refl

-- a place that is named is one of the first so many
abbrev pub InRange : ℕ → Option ℕ → Type 0
InRange count None = Unit {0}
InRange count (Some place) = place < count

-- it is then one of the choices
pub contains-choice : (count : ℕ) (named : Option ℕ) → InRange count named
    → Contains (choices count) named
contains-choice count None inside =
    contains-head None (map (λ place. Some place) (range_with_len 0 count))
contains-choice count (Some place) inside =
    contains-tail None (Some place) (map (λ place. Some place) (range_with_len 0 count))
    (contains-map (λ place. Some place) (range_with_len 0 count) place
    (contains-range count place inside))

-- a place that names a rule of a side is one of the rules
pub right-within : (rules : List Rule) (side : Side) (named : Option ℕ)
    → is_right rules side named ≡ true
    → InRange (length rules) named
right-within rules side None right = tt
right-within rules side (Some place) right = at (slice_get rules place) refl right
  where
    at : (found : Option Rule) → slice_get rules place ≡ found
        → is_some (option_and_then (λ rule. if is_same_side side rule.side then Some rule else None)
        found) ≡ true
        → place < length rules
    at None is some = absurd (cc)
    at (Some rule) is some = slice_get_within rules place rule is
