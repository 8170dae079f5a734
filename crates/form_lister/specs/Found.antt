-- What was found so far of the forms of a dictionary.
use Rattle.std.specs.Prelude.{◌≡◌, ◌↔◌, ℕ, ◌<◌, ◌≤◌, true, false, List, length, Contains}
use Rattle.std.specs.List.Sorted.{IsStrictlySortedBy}
use Rattle.spell_types.specs.declared.Lexicon.{Lexicon}
use Rattle.spell_types.specs.Licences.{is_barred}
use Rattle.form_lister.specs.Forms.{by_characters, IsForm}
use Rattle.form_lister.specs.declared.found.Found.{Found}

-- the words that were found are forms, and no more than so many, and the others are forbidden
pub record AreFound (lexicon : Lexicon) (limit : ℕ) (found : Found) : Type 0 where
  pub words : (word : List ℕ) → Contains found.words.keys word → IsForm lexicon word
  pub barred : (word : List ℕ) → Contains found.barred.keys word → is_barred lexicon word ≡ true
  pub few : length found.words.keys ≤ limit

-- no form that was found is lost
abbrev pub KeepsWords : Found → Found → Type 0
KeepsWords before now = (word : List ℕ) → Contains before.words.keys word
    → Contains now.words.keys word

-- the word was found, if it may be listed
abbrev pub HasForm : Lexicon → List ℕ → Found → Type 0
HasForm lexicon word found =
    0 < length word → is_barred lexicon word ≡ false → Contains found.words.keys word

-- every form was found
abbrev pub HasAll : Lexicon → Found → Type 0
HasAll lexicon found = (word : List ℕ) → IsForm lexicon word → Contains found.words.keys word

-- the list has the same words, and they rise
pub record AreFormsSorted (words list : List (List ℕ)) : Type 0 where
  pub rising : IsStrictlySortedBy by_characters list
  pub same : (word : List ℕ) → Contains list word ↔ Contains words word
  pub long : length list ≡ length words
