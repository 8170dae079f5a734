-- The marks of one paragraph, and a paragraph that is checked, or being checked, by a judge.
use Rattle.std.specs.Prelude.{ℕ, Bool, not, List, [], ◌∷◌, filter, map, encode_utf8_all}
use Rattle.mark_types.specs.spell_types.declared.Lexicon.{Lexicon}
use Rattle.mark_types.specs.spell_types.Yields.{yields}
use Rattle.mark_types.specs.Handed.{mark_of}
use Rattle.mark_types.specs.Marks.{marks_of}
use Rattle.mark_types.specs.Words.{Word}
use Rattle.mark_types.specs.declared.Mark.{Mark}

-- the marks of a text that is one paragraph, as the code hands them on
unfoldable pub marks_in : Lexicon → List ℕ → List Mark
marks_in lexicon paragraph = map mark_of (marks_of lexicon (paragraph ∷ []))

-- whether a word is marked: the lexicon does not generate it
abbrev pub is_marked : Lexicon → Word → Bool
is_marked lexicon word = not (yields lexicon word.characters)

-- the mark that a word has
abbrev pub mark_at : Word → Mark
mark_at word = record { from = word.from; to = word.to; word = encode_utf8_all word.characters }

-- the marks among these words
abbrev pub marks_among : Lexicon → List Word → List Mark
marks_among lexicon words = map mark_at (filter (is_marked lexicon) words)

-- a text, by its bytes, that was checked by a judge: its marks are those of the text under the
-- judge's lexicon
pub record CheckedBy (J : Type 0) : Type 0 where
  pub judge : J
  pub text : List ℕ

-- a text, by its bytes, that a judge is to check, and the words of it that are left
pub record LeftBy (J : Type 0) : Type 0 where
  pub judge : J
  pub text : List ℕ
  pub left : List Word
