-- The words behind the run, with the run's, are those of what is left.
use Rattle.std.proofs.Common.{length}
use denote.Shadow.{shadow}
use denote.Text.{Utf8}
use Rattle.word_cutter.proofs.CutLemmas.{Walks}
use Rattle.word_cutter.proofs.find_word.Given as goal

abbrev pub invariant-loop-c : goal.invariant-loop-c
invariant-loop-c l =
    shadow (Utf8 l.text) × Walks l.wordchars l.rest l.text l.at l.before l.from l.is_word
    l.word.items

abbrev pub decreases-loop-c : goal.decreases-loop-c
decreases-loop-c l = length l.text
