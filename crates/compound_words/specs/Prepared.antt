-- What is prepared of a dictionary for its compounds.
use Rattle.std.specs.Prelude.{◌≡◌, ℕ, Bool, true, ◌||◌, List, Some, slice_get, is_some}
use Rattle.std.specs.List.{list_any}
use Rattle.spell_types.specs.declared.Entry.{Entry}
use Rattle.spell_types.specs.declared.Lexicon.{Lexicon}
use Rattle.spell_types.specs.declared.flags.Flag.{Flag}
use Rattle.spell_types.specs.declared.patterns.PatternStep.{PatternStep}
use Rattle.spell_types.specs.declared.signs.Signs.{Signs}
use Rattle.spell_types.specs.Compounds.{Asked}
use Rattle.spell_types.specs.Flags.{has}
use Rattle.compound_words.specs.declared.Compounds.{Compounds}
use Rattle.compound_words.specs.Rests.{AreRulesOf}

-- the set has all flags that the entries have
abbrev pub HasFlagsOfEntries : List Flag → List Entry → Type 0
HasFlagsOfEntries set entries =
    (place : ℕ) (entry : Entry) (flag : Flag) → slice_get entries place ≡ Some entry
    → has entry.flags (Some flag) ≡ true → has set (Some flag) ≡ true

-- whether the set has the flag of a step of the rule
abbrev pub has_step_in : List Flag → List PatternStep → Bool
has_step_in set pattern = list_any (λ step. has set (Some step.flag)) pattern

-- whether there is a flag that allows first parts
abbrev pub has_first_sign : Signs → Bool
has_first_sign signs = is_some signs.compound || is_some signs.begin

-- the rules match what all rules of the dictionary match
abbrev pub AreAllRulesOf : Lexicon → List (List PatternStep) → Type 0
AreAllRulesOf lexicon rules = (a : Asked) → a.lexicon ≡ lexicon → AreRulesOf a rules

-- these were prepared of the dictionary: whether first parts are allowed by their flags, and the
-- rules that are looked at
pub record AreCompoundsOf (lexicon : Lexicon) (compounds : Compounds) : Type 0 where
  pub first : compounds.has_first ≡ has_first_sign lexicon.affixes.signs
  pub rules : AreAllRulesOf lexicon compounds.rules
