-- Which words are accepted without being broken.
use Rattle.std.specs.Prelude.{ℕ, ◌==◌, Bool, true, false, not, ◌&&◌, ◌||◌, List, slice_get, IsTrue}
use Rattle.std.specs.Prelude.{if◌then◌else◌}
use Rattle.std.specs.List.{list_any}
use Rattle.std.specs.Option.{option_map_or}
use Rattle.spell_types.specs.declared.Lexicon.{Lexicon}
use Rattle.spell_types.specs.declared.derivations.Derivation.{Derivation}
use Rattle.spell_types.specs.declared.licences.Case.{Case}
use Rattle.spell_types.specs.declared.licences.Case.TheVariants.{Same, Sharp, Other}
use Rattle.spell_types.specs.Cases.{begins_upper, first_lowered, has_lower, is_same_word}
use Rattle.spell_types.specs.Cases.{covered_by}
use Rattle.spell_types.specs.Compounds.{Asked, is_compound}
use Rattle.spell_types.specs.Licences.{has_entry_with, is_alone, is_derived, is_barred}

-- whether a word holds a character
abbrev pub holds_character : ℕ → List ℕ → Bool
holds_character c word = list_any (λ other. other == c) word

-- whether the word of the derivation's entry holds ß
abbrev pub has_sharp_entry : Lexicon → Derivation → Bool
has_sharp_entry lexicon d =
    option_map_or (λ entry. holds_character 223 entry.word) (slice_get lexicon.entries d.entry)
    false

-- whether a word is written as words with ß may be, whatever case they have: with a capital at its
-- front, where this spelling has a small one; or without a small character, and without the capital
-- ß
abbrev pub is_sharp_case : List ℕ → List ℕ → Bool
is_sharp_case written spelling =
    if has_lower written then is_same_word spelling (first_lowered written)
    else not (holds_character 7838 written)

-- the case of a written word, seen from a spelling
unfoldable pub case_of : Bool → List ℕ → List ℕ → Case
case_of sharps written spelling =
    if is_same_word spelling written then Same
    else (if sharps && is_sharp_case written spelling then Sharp else Other)

-- whether an entry has KEEPCASE
abbrev pub keeps_case : Lexicon → Derivation → Bool
keeps_case lexicon d = has_entry_with lexicon.affixes.signs.keep_case lexicon d

-- whether a derivation may stand for a word that is written in this case: an entry with KEEPCASE
-- stands for no word in another case than its own, unless it holds ß and that case is right for ß
abbrev pub allows_case : Case → Lexicon → Derivation → Bool
allows_case Same lexicon d = true
allows_case Sharp lexicon d = not (keeps_case lexicon d) || has_sharp_entry lexicon d
allows_case Other lexicon d = not (keeps_case lexicon d)

-- A derivation that stands as a word for one that is written in this case.
unfoldable pub is_alone_in_case : Case → Lexicon → Derivation → Bool
is_alone_in_case case lexicon d = is_alone lexicon d && allows_case case lexicon d

-- of what a spelling is asked as a compound where a word is written so
abbrev pub compound_question : Lexicon → List ℕ → List ℕ → Asked
compound_question lexicon written spelling = record {
  lexicon = lexicon;
  by_case = not (is_same_word spelling written);
  capital = begins_upper written;
}

-- whether a spelling of the dictionary is right for a word that is written so: it is no forbidden
-- word, and a derivation that stands as a word has it as its form, or it is a compound
unfoldable pub is_right_spelling : Lexicon → List ℕ → List ℕ → Bool
is_right_spelling lexicon written spelling =
    not (is_barred lexicon spelling)
    && (is_derived (is_alone_in_case (case_of lexicon.affixes.options.sharps written spelling))
    lexicon spelling
    || is_compound (compound_question lexicon written spelling) spelling)

-- A word is accepted as it is written if it is no forbidden word and covers a right spelling.
unfoldable pub is_base : Lexicon → List ℕ → Bool
is_base lexicon word =
    not (is_barred lexicon word)
    && list_any (is_right_spelling lexicon word) (covered_by lexicon.affixes.options.sharps word)

abbrev pub IsBase : Lexicon → List ℕ → Type 0
IsBase lexicon word = IsTrue (is_base lexicon word)
