-- A paragraph that is checked step by step: what is kept of it between two steps.
use Rattle.std.specs.Prelude.{◌≡◌, ℕ, true, ◌≤◌, ◌<◌, ◌^◌, List, [], ◌++◌, drop, length}
use Rattle.std.specs.Arc.{arc_value}
use Rattle.std.specs.Str.{IsUtf8, chars}
use Rattle.mark_types.specs.spell_types.declared.Lexicon.{Lexicon}
use Rattle.mark_types.specs.Words.{Word}
use Rattle.word_cutter.specs.Runs.{has_some, words_from}
use Rattle.paragraph_marks.specs.Paragraphs.{marks_in, marks_among}
use Rattle.paragraph_marks.specs.declared.stepping.TextProgress.{TextProgress}
use Rattle.paragraph_marks.specs.declared.stepping.TextProgress.TheVariants.{Going, Finished}
use Rattle.paragraph_marks.specs.declared.stepping.SoFar.{SoFar}

-- the words of the text from the byte on where checking goes on
abbrev pub words_left_of_text : Lexicon → List ℕ → SoFar → List Word
words_left_of_text lexicon text so_far =
    words_from lexicon.affixes.wordchars so_far.at so_far.before (drop so_far.at text)

-- the words that are left to judge
unfoldable pub left_of : Lexicon → List ℕ → TextProgress → List Word
left_of lexicon text (Going so_far) = words_left_of_text lexicon text so_far
left_of lexicon text (Finished marks) = []

-- The marks so far, and those among the words that are left, of which there are some, are the marks
-- of the text.
pub record GoesOnIn (lexicon : Lexicon) (text : List ℕ) (so_far : SoFar) : Type 0 where
  pub marks : so_far.marks.items ++ marks_among lexicon (words_left_of_text lexicon text so_far)
      ≡ marks_in lexicon (chars text)
  pub some : has_some (words_left_of_text lexicon text so_far) ≡ true
  pub within : so_far.at ≤ length text
  pub place : IsUtf8 (drop so_far.at text)
  pub small : length text < 2 ^ 32

unfoldable pub IsProgress : Lexicon → List ℕ → TextProgress → Type 0
IsProgress lexicon text (Going so_far) = GoesOnIn lexicon text so_far
IsProgress lexicon text (Finished marks) = arc_value marks ≡ marks_in lexicon (chars text)
