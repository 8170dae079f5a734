-- What is prepared with a dictionary.
use Rattle.std.specs.Prelude.{◌≡◌, ℕ, List}
use Rattle.break_points.specs.Patterns.{BreakAlike}
use Rattle.compound_words.specs.declared.Compounds.{Compounds}
use Rattle.compound_words.specs.Prepared.{AreCompoundsOf}
use Rattle.spell_types.specs.declared.breaks.Anchored.{Anchored}
use Rattle.spell_types.specs.declared.conversions.Conversion.{Conversion}
use Rattle.spell_types.specs.declared.Lexicon.{Lexicon}
use Rattle.spell_types.specs.Conversions.{is_kept}

-- what is prepared for compounds, the conversions, the characters to ignore and the break points
-- are those of the dictionary
pub record ArePrepared (lexicon : Lexicon) (compounds : Compounds) (conversions : List Conversion)
    (ignored : List ℕ) (breaks : List Anchored) : Type 0 where
  pub compounds_are : AreCompoundsOf lexicon compounds
  pub conversions_are : conversions ≡ lexicon.affixes.iconv
  pub ignored_are : (c : ℕ) → is_kept ignored c ≡ is_kept lexicon.affixes.ignore c
  pub breaks_are : BreakAlike breaks lexicon.affixes.breaks
