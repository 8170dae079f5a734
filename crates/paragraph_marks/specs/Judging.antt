-- What is said of the next word of a paragraph.
use Rattle.std.specs.Prelude.{◌≡◌, ℕ, List, ◌∷◌}
use Rattle.mark_types.specs.spell_types.declared.Lexicon.{Lexicon}
use Rattle.mark_types.specs.spell_types.Yields.{yields}
use Rattle.word_cutter.specs.Runs.{LeavesLess, found_word, words_after}
use Rattle.word_cutter.specs.declared.Rest.{Rest}
use Rattle.paragraph_marks.specs.declared.judging.JudgedWord.{JudgedWord}

-- the first word of what was left of a paragraph has these characters, and this is what the lexicon
-- says of it
pub record IsNextJudged (lexicon : Lexicon) (rest : Rest) (characters : List ℕ)
    (judged : JudgedWord) : Type 0 where
  pub words : words_after lexicon.affixes.wordchars rest ≡ found_word characters judged.found
      ∷ words_after lexicon.affixes.wordchars judged.found.rest
  pub known : judged.is_known ≡ yields lexicon characters
  pub less : LeavesLess rest judged.found
