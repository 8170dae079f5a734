-- Which steps of a compound rule may be next, after some flag sets.
use Rattle.std.specs.Prelude.{◌≡◌, ◌+◌, Bool, false, ◌&&◌, ◌||◌, List, [], ◌∷◌, ◌++◌, length}
use Rattle.spell_types.specs.declared.flags.Flag.{Flag}
use Rattle.spell_types.specs.declared.patterns.PatternStep.{PatternStep}
use Rattle.spell_types.specs.Patterns.{matches}

-- whether the steps from some place on match the sets, of the places whose state is set; there is a
-- place before each step, and one behind the last
abbrev pub match_from : List PatternStep → List Bool → List (List Flag) → Bool
match_from steps [] sets = false
match_from [] (state ∷ states) sets = state && matches [] sets
match_from (step ∷ more) (state ∷ states) sets =
    (state && matches (step ∷ more) sets) || match_from more states sets

-- The states are those of a rule after these sets: each place has one, and whichever sets come
-- next, the rule matches all of the sets exactly where the steps from a place on, whose state is
-- set, match those that come next.
pub record AreAfter (pattern : List PatternStep) (sets : List (List Flag))
    (states : List Bool) : Type 0 where
  pub places : length states ≡ length pattern + 1
  pub goes_on : (rest : List (List Flag))
      → matches pattern (sets ++ rest) ≡ match_from pattern states rest
