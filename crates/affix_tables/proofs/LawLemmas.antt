-- What the places of a word are.
use Rattle.std.proofs.Common.{◌≡◌, ◌∙◌, ◌↔◌, ap, ℕ, Bool, true, List, nat_eq, slice_get, Some}
use Rattle.std.proofs.Common.{Contains}
use Rattle.std.specs.List.{starts_with, ends_with}
use Rattle.std.specs.List.Sorted.{IsStrictlyIncreasing}
use Rattle.std.proofs.lemmas.Bool.{and_parts, and_from}
use Rattle.std.proofs.lemmas.Map.Keys.{IsStrictlyIncreasing-from_sorted}
use Rattle.spell_types.specs.declared.rules.Rule.{Rule}
use Rattle.spell_types.specs.declared.rules.Side.{Side}
use Rattle.spell_types.specs.declared.rules.Side.TheVariants.{Prefix, Suffix}
use Rattle.spell_types.specs.Derivations.{is_same_side}
use Rattle.spell_types.specs.Laws.{own_side, same_side}
use Rattle.affix_tables.specs.Places.{adds_on, places_where, suffix_places, prefix_places}
use Rattle.affix_tables.proofs.PlaceLemmas.{places-members, places-rise}

side-members : (side : Side) (fits : List ℕ → Bool) (rules : List Rule) (place : ℕ)
    → Contains (places_where (adds_on side fits) rules) place
    ↔ ((rule : Rule) × (slice_get rules place ≡ Some rule) × (rule.side ≡ side)
    × (fits rule.add ≡ true))
side-members side fits rules place = (
  λ inside. told ((places-members (adds_on side fits) rules place).0 inside),
  λ (rule, at, on, fit). (places-members (adds_on side fits) rules place).1 (
    rule,
    at,
    and_from (is_same_side side rule.side) (fits rule.add)
        (ap (is_same_side side) on ∙ own_side side) fit,
  ),
)
  where
    told : ((rule : Rule) × (slice_get rules place ≡ Some rule) × (adds_on side fits rule ≡ true))
        → (rule : Rule) × (slice_get rules place ≡ Some rule) × (rule.side ≡ side)
        × (fits rule.add ≡ true)
    told (rule, at, holds) =
        let parts = and_parts (is_same_side side rule.side) (fits rule.add) holds in
        (rule, at, same_side side rule.side parts.0, parts.1)

pub suffix-members : (rules : List Rule) (word : List ℕ) (place : ℕ)
    → Contains (suffix_places rules word) place
    ↔ ((rule : Rule) × (slice_get rules place ≡ Some rule) × (rule.side ≡ Suffix)
    × (ends_with nat_eq word rule.add ≡ true))
unfolding suffix_places
suffix-members rules word place = side-members Suffix (ends_with nat_eq word) rules place

pub prefix-members : (rules : List Rule) (word : List ℕ) (place : ℕ)
    → Contains (prefix_places rules word) place
    ↔ ((rule : Rule) × (slice_get rules place ≡ Some rule) × (rule.side ≡ Prefix)
    × (starts_with nat_eq word rule.add ≡ true))
unfolding prefix_places
prefix-members rules word place = side-members Prefix (starts_with nat_eq word) rules place

pub suffixes-rise : (rules : List Rule) (word : List ℕ)
    → IsStrictlyIncreasing (suffix_places rules word)
unfolding suffix_places
suffixes-rise rules word =
    IsStrictlyIncreasing-from_sorted (places_where (adds_on Suffix (ends_with nat_eq word)) rules)
    (places-rise (adds_on Suffix (ends_with nat_eq word)) rules)

pub prefixes-rise : (rules : List Rule) (word : List ℕ)
    → IsStrictlyIncreasing (prefix_places rules word)
unfolding prefix_places
prefixes-rise rules word =
    IsStrictlyIncreasing-from_sorted (places_where (adds_on Prefix (starts_with nat_eq word)) rules)
    (places-rise (adds_on Prefix (starts_with nat_eq word)) rules)
