-- The words of what was looked at are none.
use Rattle.std.proofs.Common.{length}
use denote.Shadow.{shadow}
use denote.Text.{Utf8}
use Rattle.word_cutter.proofs.LetterLemmas.{Skips}
use Rattle.word_cutter.proofs.skip_separators.Given as goal

abbrev pub invariant-loop-c : goal.invariant-loop-c
invariant-loop-c l = shadow (Utf8 l.text) × Skips l.wordchars l.rest l.text l.before

abbrev pub decreases-loop-c : goal.decreases-loop-c
decreases-loop-c l = length l.text
