-- The derivation that a word is answered by, which tells its stem.
use Rattle.std.specs.Prelude.{◌≡◌, ℕ, ◌≤◌, false, ◌||◌, List, [], filter, length, nat_lt, IsTrue}
use Rattle.std.specs.Prelude.{Option, Some, None, if◌then◌else◌}
use Rattle.std.specs.List.{flat_map, reduce}
use Rattle.std.specs.Ordering.{is_le, min_by_ordering}
use Rattle.spell_types.specs.declared.Lexicon.{Lexicon}
use Rattle.spell_types.specs.declared.derivations.Derivation.{Derivation}
use Rattle.spell_types.specs.Bases.{case_of, is_alone_in_case}
use Rattle.spell_types.specs.Cases.{covered_by, Covers}
use Rattle.spell_types.specs.Derivations.{form_of}
use Rattle.spell_types.specs.Licences.{is_barred}
use Rattle.spell_types.specs.Yields.{most_characters}
use Rattle.affix_strip.specs.Found.{derivation_cmp, derivations_of}

-- the derivations of a spelling that stand as a word where the word is written so; a forbidden
-- spelling has none
abbrev pub derivations_as : Lexicon → List ℕ → List ℕ → List Derivation
derivations_as lexicon word spelling =
    if is_barred lexicon spelling then []
    else filter (is_alone_in_case (case_of lexicon.affixes.options.sharps word spelling) lexicon)
    (derivations_of lexicon spelling)

-- those of all spellings that the word covers
unfoldable pub word_derivations : Lexicon → List ℕ → List Derivation
word_derivations lexicon word =
    flat_map (derivations_as lexicon word) (covered_by lexicon.affixes.options.sharps word)

-- the lesser of two derivations in the order by entry, then by prefix, by first and by second
-- suffix, none before any
abbrev pub lesser : Derivation → Derivation → Derivation
lesser d e = min_by_ordering (derivation_cmp d e) d e

-- the least derivation, if there is one
abbrev pub least : List Derivation → Option Derivation
least found = reduce lesser found

-- the derivation that a word is answered by: the least of its own, but none where the word is
-- forbidden or has too many characters
unfoldable pub told_derivation : Lexicon → List ℕ → Option Derivation
told_derivation lexicon word =
    if nat_lt most_characters (length word) || is_barred lexicon word then None
    else least (word_derivations lexicon word)

-- The derivation stands for the word: its form is a spelling that the word covers and that is not
-- forbidden, and it stands as a word where the word is written so.
pub record StandsFor (lexicon : Lexicon) (word : List ℕ) (d : Derivation) : Type 0 where
  pub spelling : List ℕ
  pub form : form_of lexicon d ≡ Some spelling
  pub covered : Covers lexicon.affixes.options.sharps word spelling
  pub right : is_barred lexicon spelling ≡ false
  pub alone : IsTrue
      (is_alone_in_case (case_of lexicon.affixes.options.sharps word spelling) lexicon d)

-- the word may have a stem: it is neither too long nor forbidden
pub record MayHaveStem (lexicon : Lexicon) (word : List ℕ) : Type 0 where
  pub short : length word ≤ most_characters
  pub right : is_barred lexicon word ≡ false

-- the word is answered by the derivation, which stands for it; and no derivation that does is less
pub record IsAnsweredByStem (lexicon : Lexicon) (word : List ℕ) (d : Derivation) : Type 0 where
  pub may : MayHaveStem lexicon word
  pub stands : StandsFor lexicon word d
  pub least : (e : Derivation) → StandsFor lexicon word e → IsTrue (is_le (derivation_cmp d e))
