-- Which rules may have made a word, by their places in the list of rules.
use Rattle.std.specs.Prelude.{ℕ, Bool, false, ◌&&◌, List, length, nat_eq, slice_get, Option, None}
use Rattle.std.specs.Prelude.{Some}
use Rattle.std.specs.Cmp.Lexicographic.{pointwise}
use Rattle.std.specs.List.{filter, range_with_len, starts_with, ends_with}
use Rattle.spell_types.specs.declared.rules.Rule.{Rule}
use Rattle.spell_types.specs.declared.rules.Side.{Side}
use Rattle.spell_types.specs.declared.rules.Side.TheVariants.{Prefix, Suffix}
use Rattle.spell_types.specs.Derivations.{is_same_side}

-- whether there is a rule, and it passes the test
abbrev pub passes : (Rule → Bool) → Option Rule → Bool
passes test None = false
passes test (Some rule) = test rule

-- the places, from 0, of the rules that pass the test, in rising order
abbrev pub places_where : (Rule → Bool) → List Rule → List ℕ
places_where test rules =
    filter (λ place. passes test (slice_get rules place)) (range_with_len 0 (length rules))

-- whether the rule is of the side, and its added text passes the test
abbrev pub adds_on : Side → (List ℕ → Bool) → Rule → Bool
adds_on side test rule = is_same_side side rule.side && test rule.add

-- whether the rule is of the side, adds the one text and strips off the other
abbrev pub exchanges : Side → List ℕ → List ℕ → Rule → Bool
exchanges side added stripped rule =
    is_same_side side rule.side
    && (pointwise nat_eq added rule.add && pointwise nat_eq stripped rule.strip)

-- the places of the suffix rules whose added text ends the word
unfoldable pub suffix_places : List Rule → List ℕ → List ℕ
suffix_places rules word = places_where (adds_on Suffix (ends_with nat_eq word)) rules

-- the places of the prefix rules whose added text begins the word
unfoldable pub prefix_places : List Rule → List ℕ → List ℕ
prefix_places rules word = places_where (adds_on Prefix (starts_with nat_eq word)) rules
