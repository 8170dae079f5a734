-- The forms of a dictionary: which words they are, and the list of them.
use Rattle.std.specs.Prelude.{◌≡◌, ℕ, ◌<◌, Bool, true, false, not, ◌&&◌, List, length, map, nat_lt}
use Rattle.std.specs.Prelude.{Some}
use Rattle.std.specs.Cmp.Lexicographic.{slice_cmp}
use Rattle.std.specs.FinMap.{FinMap, from_entries, keys}
use Rattle.std.specs.List.{filter, filter_map}
use Rattle.std.specs.Ordering.{nat_cmp}
use Rattle.std.specs.declared.cmp.Ordering.{Ordering}
use Rattle.spell_types.specs.declared.Lexicon.{Lexicon}
use Rattle.spell_types.specs.declared.derivations.Derivation.{Derivation}
use Rattle.spell_types.specs.Derivations.{form_of, all_derivations}
use Rattle.spell_types.specs.Licences.{is_alone, is_barred}
use Rattle.form_lister.specs.declared.faults.FormsFault.{FormsFault}
use Rattle.form_lister.specs.declared.faults.FormsFault.TheVariants.{TooMany, NoMemory}

-- a derivation that stands alone has the word as its form
pub record StandsAlone (lexicon : Lexicon) (word : List ℕ) : Type 0 where
  pub derivation : Derivation
  pub alone : is_alone lexicon derivation ≡ true
  pub gives : form_of lexicon derivation ≡ Some word

-- The word is a form of the dictionary: it has a character, a derivation that stands alone has it
-- as its form, and it is no forbidden word.
pub record IsForm (lexicon : Lexicon) (word : List ℕ) : Type 0 where
  pub nonempty : 0 < length word
  pub stands : StandsAlone lexicon word
  pub free : is_barred lexicon word ≡ false

-- the order by characters, in which a word stands before those that it begins
abbrev pub by_characters : List ℕ → List ℕ → Ordering
by_characters = slice_cmp nat_cmp

-- the forms of all derivations that stand alone, as they come
abbrev pub words_alone : Lexicon → List (List ℕ)
words_alone lexicon =
    filter_map (form_of lexicon) (filter (is_alone lexicon) (all_derivations lexicon))

-- whether a word may be listed: it has a character, and it is no forbidden word
abbrev pub may_be_listed : Lexicon → List ℕ → Bool
may_be_listed lexicon word = nat_lt 0 (length word) && not (is_barred lexicon word)

-- the set of some words: a map with nothing at each
abbrev pub word_set : List (List ℕ) → FinMap by_characters (Unit {0})
word_set words = from_entries (map (λ word. (word, tt)) words)

-- the forms of the dictionary: the set of those words that may be listed, rising by characters
unfoldable pub forms_of : Lexicon → List (List ℕ)
forms_of lexicon = keys (word_set (filter (may_be_listed lexicon) (words_alone lexicon)))

-- why the forms are not listed, where they may be so many: there are more, or memory was wanting
abbrev pub IsFaultOf : Lexicon → ℕ → FormsFault → Type 0
IsFaultOf lexicon limit (TooMany most) = (most ≡ limit) × (limit < length (forms_of lexicon))
IsFaultOf lexicon limit NoMemory = Unit {0}
