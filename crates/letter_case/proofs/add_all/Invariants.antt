-- Adding the words that are left to those that are found comes to the same as adding all to those
-- before.
use Rattle.std.proofs.Common.{◌≡◌, fold}
use Rattle.letter_case.specs.Found.{with_word}
use Rattle.letter_case.proofs.add_all.Given as goal

abbrev pub invariant-loop-word : goal.invariant-loop-word
invariant-loop-word l =
    fold with_word l.found.items l.word-iterator.rest.items ≡ fold with_word l.fn.found.items
    l.fn.words.items
