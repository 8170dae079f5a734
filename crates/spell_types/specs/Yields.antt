-- Which words a dictionary generates.
use Rattle.std.specs.Prelude.{ℕ, ◌==◌, Bool, ◌&&◌, ◌||◌, List, length, nat_le, nat_lt, IsTrue}
use Rattle.spell_types.specs.declared.Lexicon.{Lexicon}
use Rattle.spell_types.specs.Bases.{is_base}
use Rattle.spell_types.specs.Breaks.{is_broken}
use Rattle.spell_types.specs.Conditions.{is_one_of}
use Rattle.spell_types.specs.Conversions.{converted, without_ignored}
use Rattle.spell_types.specs.Licences.{is_barred}
use Rattle.spell_types.specs.Numbers.{is_number, undotted}

-- the written word as it is looked up: converted, and without the characters to ignore
unfoldable pub looked_up : Lexicon → List ℕ → List ℕ
looked_up lexicon written =
    without_ignored lexicon.affixes.ignore (converted lexicon.affixes.iconv written)

-- whether a word is accepted, perhaps in pieces
unfoldable pub is_broken_by : Lexicon → List ℕ → Bool
is_broken_by lexicon word =
    is_broken (is_base lexicon) (is_barred lexicon) lexicon.affixes.breaks word

abbrev pub is_accepted : Lexicon → List ℕ → Bool
is_accepted lexicon word = is_broken_by lexicon word || is_number word

-- whether the word is accepted without the dots at its end, where dots are word characters
unfoldable pub is_accepted_undotted : Lexicon → List ℕ → Bool
is_accepted_undotted lexicon word =
    is_one_of lexicon.affixes.wordchars 46
    && (nat_lt 0 (length (undotted word)) && is_accepted lexicon (undotted word))

-- how many characters a word may have that is no number
abbrev pub most_characters : ℕ
most_characters = 100

-- the lexicon accepts a word that is looked up: an empty one, a number, or one that is not too long
-- and is accepted in pieces, as it is or without the dots at its end
unfoldable pub accepts : Lexicon → List ℕ → Bool
accepts lexicon word =
    length word == 0
    || (is_number word
    || (nat_le (length word) most_characters
    && (is_broken_by lexicon word || is_accepted_undotted lexicon word)))

-- whether the lexicon generates the written word
unfoldable pub yields : Lexicon → List ℕ → Bool
yields lexicon written = accepts lexicon (looked_up lexicon written)

-- the lexicon generates the written word
abbrev pub Yields : Lexicon → List ℕ → Type 0
Yields lexicon written = IsTrue (yields lexicon written)
