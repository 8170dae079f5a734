-- The places of a word to which parts may lead from its front.
use Rattle.std.specs.Prelude.{◌≡◌, ℕ, ◌+◌, ◌<◌, Bool, true, ◌||◌, List, ◌∷◌}
use Rattle.std.specs.Prelude.{length, take, drop, is_some}
use Rattle.std.specs.List.{list_any}
use Rattle.affix_strip.specs.Inside.{ReachesEnds}
use Rattle.affix_strip.specs.Reaching.{is_reached, KeepsReached}
use Rattle.spell_types.specs.declared.Lexicon.{Lexicon}
use Rattle.spell_types.specs.declared.joints.JointPattern.{JointPattern}
use Rattle.spell_types.specs.declared.parts.Part.{Part}
use Rattle.spell_types.specs.declared.parts.Place.{Place}
use Rattle.spell_types.specs.declared.parts.Place.TheVariants.{First, Middle, Last}
use Rattle.spell_types.specs.declared.patterns.PatternStep.{PatternStep}
use Rattle.spell_types.specs.Compounds.{Asked, stretch}
use Rattle.compound_words.specs.Pieces.{may_begin}
use Rattle.compound_words.specs.Rests.{Way, holds, AreRest}

-- whether the row has a replacement
abbrev pub puts_text : JointPattern → Bool
puts_text row = is_some row.replacement

-- whether a joint takes characters off a part or puts some behind it
abbrev pub has_joints : Lexicon → Bool
has_joints lexicon =
    lexicon.affixes.options.simplified || list_any puts_text lexicon.affixes.joints

-- a part that begins there stands first in the word, or in the middle
abbrev pub IsStartAt : Place → ℕ → Type 0
IsStartAt First from = from ≡ 0
IsStartAt Middle from = 0 < from
IsStartAt Last from = ⊥

-- where parts lead to a place from which more parts write the rest of the word, they lead to the
-- place behind the first of those too
pub record AreReached (a : Asked) (rules : List (List PatternStep)) (word : List ℕ)
    (reached : List Bool) : Type 0 where
  pub start : 0 < length word → is_reached reached 0 ≡ true
  pub next : (here : Place) (from : ℕ) (part next : Part) (more : List Part) (way : Way)
      → from < length word → is_reached reached from ≡ true → IsStartAt here from
      → may_begin a.lexicon (take from word) part ≡ true
      → AreRest a (drop from word) (part ∷ next ∷ more)
      → holds a rules here way (part ∷ next ∷ more) ≡ true
      → is_reached reached (from + length (stretch part)) ≡ true

-- the places behind this one are told to which a part may lead from it, beside those that were told
pub record ReachesFrom (lexicon : Lexicon) (word : List ℕ) (from : ℕ)
    (before now : List Bool) : Type 0 where
  pub kept : KeepsReached from before now
  pub leads : (here : Place) → IsStartAt here from → ReachesEnds lexicon here word from before now
