-- The marks so far, and those among so many words that are left, are those among the words that are
-- asked for.
use Rattle.std.proofs.Common.{◌≡◌, ◌+◌, ◌-◌, ◌≤◌, ◌++◌, drop, length, take}
use Rattle.word_cutter.specs.Runs.{IsBehind, words_after}
use Rattle.paragraph_marks.specs.Paragraphs.{marks_among}
use Rattle.paragraph_marks.proofs.judging.judge_words.Given as goal

abbrev pub invariant-loop-count : goal.invariant-loop-count
invariant-loop-count g l =
    let lexicon = g.K.Asker.lexicon l.fn.asker in
    let wordchars = lexicon.affixes.wordchars in
    record {
      left : drop l.count (words_after wordchars l.left)
          ≡ drop l.words (words_after wordchars l.rest);
      marks : l.marks.items ++ marks_among lexicon (take l.count (words_after wordchars l.left))
          ≡ l.fn.marks.items ++ marks_among lexicon (take l.words (words_after wordchars l.rest));
      counted : (l.words - l.count) + length (take l.count (words_after wordchars l.left))
          ≡ length (take l.words (words_after wordchars l.rest));
      within : l.count ≤ l.words;
      few : l.rest.at + (l.words - l.count) ≤ l.left.at;
      same : g.K.Asker.lexicon l.asker ≡ lexicon;
      behind : IsBehind l.rest l.left;
    }

abbrev pub decreases-loop-count : goal.decreases-loop-count
decreases-loop-count g l = l.count
