-- The pairs of dictionary files that sessions load, as they were loaded before.
use Rattle.std.specs.Prelude.{◌≡◌, ℕ, Bool, List, map, Contains, Result, Ok, Err}
use Rattle.std.specs.Arc.{arc_value}
use Rattle.mark_types.specs.spell_types.declared.Lexicon.{Lexicon}
use Rattle.own_dictionary.specs.dictionary_swap.Loads.{DictionaryFiles, lexicon_due}
use Rattle.own_dictionary.specs.dictionary_swap.declared.fault.LoadFault.{LoadFault}
use Rattle.team_history.specs.ToldBy.{NamedFiles}
use Rattle.team_script.specs.Pairs.{LoadsAmong, is_same}
use Rattle.team_script.specs.declared.pairs.Pair.{Pair}
use Rattle.team_forms.specs.declared.pairs.LoadedPair.{LoadedPair}

-- what is held is what is due of two files: their dictionary, or its fault
abbrev pub Holds : {A : Type 0} → (A → Lexicon) → Result Lexicon LoadFault → Result A LoadFault
    → Type 0
Holds lexicon_of (Ok lexicon) (Ok held) = lexicon_of held ≡ lexicon
Holds lexicon_of (Err fault) (Err held) = held ≡ fault
Holds lexicon_of due held = ⊥

-- a pair was loaded: what is held of it is due of its files, which are among these
pub record IsLoaded {J : Type 0} (lexicon_of : J → Lexicon) (pairs : List NamedFiles)
    (pair : LoadedPair J) : Type 0 where
  pub there : DictionaryFiles
  pub is_there : Contains pairs (record { aff = pair.aff; dic = pair.dic; there = there })
  pub holds : Holds (λ judge. lexicon_of (arc_value judge)) (lexicon_due there) pair.loaded

-- the names of a pair
abbrev pub names_of : {J : Type 0} → LoadedPair J → Pair
names_of pair = record { aff = pair.aff; dic = pair.dic }

-- whether these are its names
abbrev pub has_names : {J : Type 0} → List ℕ → List ℕ → LoadedPair J → Bool
has_names aff dic pair = is_same (names_of pair) (record { aff = aff; dic = dic })

-- if a line loads a pair, it is among these
abbrev pub LoadsHeld : {J : Type 0} → List (LoadedPair J) → List ℕ → Type 0
LoadsHeld pairs line = LoadsAmong (map names_of pairs) line
