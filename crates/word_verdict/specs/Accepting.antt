-- Parts of what makes a word that is looked up accepted.
use Rattle.std.specs.Prelude.{ℕ, Bool, false, ◌&&◌, ◌||◌, List, [], ◌∷◌, length, nat_lt}
use Rattle.std.specs.Char.{is_ascii_digit}
use Rattle.spell_types.specs.declared.Lexicon.{Lexicon}
use Rattle.spell_types.specs.Conditions.{is_one_of}
use Rattle.spell_types.specs.Yields.{is_broken_by, is_accepted, is_accepted_undotted}

-- whether a word that is no number and not too long is accepted
abbrev pub is_accepted_short : Lexicon → List ℕ → Bool
is_accepted_short lexicon word = is_broken_by lexicon word || is_accepted_undotted lexicon word

-- whether what stands before the dots at the end of a word is accepted, where dots are word
-- characters
abbrev pub is_accepted_before_dots : Lexicon → List ℕ → Bool
is_accepted_before_dots lexicon rest =
    is_one_of lexicon.affixes.wordchars 46 && (nat_lt 0 (length rest) && is_accepted lexicon rest)

-- whether the word's first character is an ASCII digit
abbrev pub begins_with_digit : List ℕ → Bool
begins_with_digit [] = false
begins_with_digit (c ∷ rest) = is_ascii_digit c
