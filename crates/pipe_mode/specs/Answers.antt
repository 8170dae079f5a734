-- What is answered to a line, by its first character and by its words.
use Rattle.std.specs.Prelude.{ℕ, ◌+◌, Bool, true, false, ◌||◌, List, [], ◌∷◌, ◌++◌, drop}
use Rattle.std.specs.Prelude.{slice_get, codes, encode_utf8_all, Option, None, Some, is_some}
use Rattle.std.specs.Prelude.{if◌then◌else◌}
use Rattle.std.specs.Fmt.{decimal}
use Rattle.std.specs.List.{flat_map}
use Rattle.std.specs.Option.{option_map_or}
use Rattle.std.specs.Str.{chars, is_utf8}
use Rattle.spell_types.specs.declared.Lexicon.{Lexicon}
use Rattle.spell_types.specs.declared.derivations.Derivation.{Derivation}
use Rattle.spell_types.specs.Conditions.{is_one_of}
use Rattle.spell_types.specs.Yields.{looked_up, yields}
use Rattle.mark_types.specs.Words.{Word, words_of}
use Rattle.pipe_mode.specs.declared.PipeReply.{PipeReply}
use Rattle.pipe_mode.specs.Stems.{told_derivation}

-- ---- the answer to a word
-- a word that the lexicon does not generate, and the byte of its line where it begins, from 0
abbrev pub unknown_line : List ℕ → ℕ → List ℕ
unknown_line word at =
    codes "# " ++ (encode_utf8_all word ++ (codes " " ++ (decimal at ++ codes "\n")))

-- whether a derivation has an affix
abbrev pub has_some_affix : Derivation → Bool
has_some_affix d = is_some d.prefix || (is_some d.first || is_some d.second)

-- the stem of a derivation: the word of its entry
abbrev pub stem_text_of : Lexicon → Derivation → List ℕ
stem_text_of lexicon d =
    option_map_or (λ entry. encode_utf8_all entry.word) (slice_get lexicon.entries d.entry) []

-- a word that the lexicon generates: it is an entry, it has a stem and affixes, or it is neither,
-- as a compound or a number
abbrev pub known_line : Lexicon → Option Derivation → List ℕ
known_line lexicon None = codes "-\n"
known_line lexicon (Some d) =
    if has_some_affix d then codes "+ " ++ (stem_text_of lexicon d ++ codes "\n") else codes "*\n"

-- the answer to a word at a byte of its line; where answers are terse, only unknown words have one
abbrev pub answer_at : Lexicon → Bool → ℕ → List ℕ → List ℕ
answer_at lexicon terse at word =
    if yields lexicon word
    then (if terse then []
    else known_line lexicon (told_derivation lexicon (looked_up lexicon word)))
    else unknown_line word at

-- ---- the answer to a line
-- whether a line begins with one of these characters, which are ASCII
abbrev pub begins_with : List ℕ → List ℕ → Bool
begins_with some [] = false
begins_with some (first ∷ rest) = is_one_of some first

-- how many first bytes of a line are not looked at for words: a circumflex
abbrev pub passed_over : List ℕ → ℕ
passed_over line = if begins_with (codes "^") line then 1 else 0

-- the answer to a word that is found behind so many bytes of its line
abbrev pub answer_behind : Lexicon → Bool → ℕ → Word → List ℕ
answer_behind lexicon terse before word =
    answer_at lexicon terse (before + word.from) word.characters

-- the answers to the words of a line, in their order
unfoldable pub words_answer : Lexicon → Bool → List ℕ → List ℕ
words_answer lexicon terse line =
    let before = passed_over line in
    flat_map (answer_behind lexicon terse before)
    (words_of lexicon.affixes.wordchars (chars (drop before line)))

-- a line that is not UTF-8, by its number
abbrev pub bad_line_answer : ℕ → List ℕ
bad_line_answer number = codes "bad " ++ (decimal number ++ codes "\n")

-- the answer to a line of words, and the empty line behind it
abbrev pub line_answer : Lexicon → Bool → ℕ → List ℕ → List ℕ
line_answer lexicon terse number line =
    if is_utf8 line then words_answer lexicon terse line else bad_line_answer number

abbrev pub text_answer : Lexicon → Bool → ℕ → List ℕ → List ℕ
text_answer lexicon terse number line =
    line_answer lexicon terse number line ++ codes "\n"

-- The answer to a line, and whether answers are terse behind it: `!` makes them so, `%` ends it,
-- the other characters of ispell's commands are passed over, and each other line has words.
unfoldable pub pipe_answer_of : Lexicon → Bool → ℕ → List ℕ → PipeReply
pipe_answer_of lexicon terse number line =
    if begins_with (codes "!") line then record { text = []; terse = true }
    else (if begins_with (codes "%") line then record { text = []; terse = false }
    else (if begins_with (codes "*&@+-~#") line then record { text = []; terse = terse }
    else record { text = text_answer lexicon terse number line; terse = terse }))
