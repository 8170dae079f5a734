-- What is cut already and what is cut of the rest are all that is cut.
use Rattle.std.proofs.Common.{◌≡◌, ◌+◌, ◌≤◌, ◌++◌, length, map}
use Rattle.std.specs.Str.{chars}
use Rattle.mark_types.specs.Handed.{span_of}
use Rattle.mark_types.specs.Words.{words_of}
use Rattle.word_cutter.specs.Runs.{words_after}
use Rattle.word_cutter.proofs.cut.Given as goal

abbrev pub invariant-loop-spans : goal.invariant-loop-spans
invariant-loop-spans l = record {
  cut : l.spans.items ++ map span_of (words_after l.wordchars l.rest)
      ≡ map span_of (words_of l.wordchars (chars l.text));
  few : length l.spans.items + length l.rest.text.now ≤ length l.text;
  size : l.rest.at + length l.rest.text.now ≡ length l.text;
}

abbrev pub decreases-loop-spans : goal.decreases-loop-spans
decreases-loop-spans l = length l.rest.text.now
