-- What is prepared of a dictionary that answers lines.
use Rattle.std.specs.Prelude.{◌≡◌, ℕ, List}
use Rattle.spell_types.specs.declared.conversions.Conversion.{Conversion}
use Rattle.spell_types.specs.declared.Lexicon.{Lexicon}
use Rattle.spell_types.specs.Conversions.{is_kept}

-- the conversions and the characters to ignore are those of the dictionary
pub record ArePipeTablesPrepared (lexicon : Lexicon) (conversions : List Conversion) (ignored : List ℕ) : Type
    0 where
  pub conversions_are : conversions ≡ lexicon.affixes.iconv
  pub ignored_are : (c : ℕ) → is_kept ignored c ≡ is_kept lexicon.affixes.ignore c
