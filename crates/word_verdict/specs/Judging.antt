-- What is said of a piece of a word, and how it is found.
use Rattle.std.specs.Prelude.{ℕ, Bool, ◌||◌, List, [], ◌∷◌, if◌then◌else◌}
use Rattle.std.specs.List.{list_any}
use Rattle.spell_types.specs.declared.Lexicon.{Lexicon}
use Rattle.spell_types.specs.Bases.{is_alone_in_case, compound_question, case_of}
use Rattle.spell_types.specs.Bases.{is_base}
use Rattle.spell_types.specs.Bases.{is_right_spelling}
use Rattle.spell_types.specs.Cases.{covered_by}
use Rattle.spell_types.specs.Compounds.{is_compound}
use Rattle.spell_types.specs.Licences.{is_derived, is_barred}
use Rattle.break_points.specs.declared.Judged.{Judged}
use Rattle.break_points.specs.declared.Judged.TheVariants.{Barred, Base, Other}

-- what a piece is that is a forbidden word or not, and accepted as it is written or not
abbrev pub judged_by : Bool → Bool → Judged
judged_by barred base = if barred then Barred else (if base then Base else Other)

-- a piece is a forbidden word, or accepted as it is written, or neither
unfoldable pub judged : Lexicon → List ℕ → Judged
judged lexicon piece = judged_by (is_barred lexicon piece) (is_base lexicon piece)

-- whether a spelling stands by itself for a word that is written so, or is a compound
abbrev pub is_alone_or_compound : Lexicon → List ℕ → List ℕ → Bool
is_alone_or_compound lexicon written spelling =
    is_derived (is_alone_in_case (case_of lexicon.affixes.options.sharps written spelling)) lexicon
    spelling
    || is_compound (compound_question lexicon written spelling) spelling

-- the spellings but the first one, which is the word as it is written
abbrev pub behind_first : List (List ℕ) → List (List ℕ)
behind_first [] = []
behind_first (written ∷ others) = others

-- whether another spelling than the written one, which the word covers, is right
unfoldable pub covers_right_spelling : Lexicon → List ℕ → Bool
covers_right_spelling lexicon word =
    list_any (is_right_spelling lexicon word)
    (behind_first (covered_by lexicon.affixes.options.sharps word))
