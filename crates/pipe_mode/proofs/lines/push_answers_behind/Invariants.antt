-- What is added already and the answers to the words that are left are all that is added.
use Rattle.std.proofs.Common.{◌≡◌, ◌+◌, ◌++◌, length}
use Rattle.std.specs.List.{flat_map}
use Rattle.std.specs.Str.{chars}
use Rattle.std.specs.String.{string_bytes}
use Rattle.mark_types.specs.Words.{words_of}
use Rattle.word_cutter.specs.Runs.{words_after}
use Rattle.pipe_mode.specs.Answers.{answer_behind}
use Rattle.pipe_mode.proofs.lines.push_answers_behind.Given as goal

abbrev pub invariant-loop-word : goal.invariant-loop-word
invariant-loop-word l =
    let wordchars = l.speller.affixes.wordchars in
    let answers = flat_map (answer_behind l.speller l.terse l.before) in
    record {
      answered : string_bytes l.answer ++ answers (words_after wordchars l.rest)
          ≡ string_bytes l.fn.answer ++ answers (words_of wordchars (chars l.text));
      size : l.rest.at + length l.rest.text.now ≡ length l.text;
    }

abbrev pub decreases-loop-word : goal.decreases-loop-word
decreases-loop-word l = length l.rest.text.now
