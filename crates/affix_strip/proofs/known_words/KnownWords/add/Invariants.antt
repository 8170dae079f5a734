-- The characters so far are in the hash, and their first fronts are there.
use Rattle.std.proofs.Common.{IsUtf8, chars}
use Rattle.std.specs.Str.Iter.{chars_rest}
use Rattle.affix_strip.proofs.KnownLemmas.{IsAddedTo}
use Rattle.affix_strip.proofs.known_words.KnownWords.add.Given as goal

abbrev pub invariant-loop-c : goal.invariant-loop-c
invariant-loop-c l = IsUtf8 (chars_rest l.c-iterator)
    × IsAddedTo l.initial.self l.self (chars l.fn.word) (chars (chars_rest l.c-iterator)) l.key
    l.count
