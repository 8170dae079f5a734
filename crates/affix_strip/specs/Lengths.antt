-- How long the forms of a dictionary are.
use Rattle.std.specs.Prelude.{◌≡◌, ℕ, ◌≤◌, List, length, slice_get, Option, None, Some}
use Rattle.spell_types.specs.declared.Entry.{Entry}
use Rattle.spell_types.specs.declared.Lexicon.{Lexicon}
use Rattle.spell_types.specs.declared.derivations.Derivation.{Derivation}
use Rattle.spell_types.specs.declared.rules.Rule.{Rule}
use Rattle.spell_types.specs.Derivations.{form_of}

-- no entry's word is longer
abbrev pub AreWordsWithin : List Entry → ℕ → Type 0
AreWordsWithin entries most =
    (place : ℕ) (entry : Entry) → slice_get entries place ≡ Some entry → length entry.word ≤ most

-- no rule adds more
abbrev pub AreAddedWithin : List Rule → ℕ → Type 0
AreAddedWithin rules most =
    (place : ℕ) (rule : Rule) → slice_get rules place ≡ Some rule → length rule.add ≤ most

-- no form is longer, if a number is told
abbrev pub IsLongest : Lexicon → Option ℕ → Type 0
IsLongest lexicon None = Unit {0}
IsLongest lexicon (Some most) =
    (d : Derivation) (text : List ℕ) → form_of lexicon d ≡ Some text → length text ≤ most
