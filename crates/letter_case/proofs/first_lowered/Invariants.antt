-- So far the word has the characters before the loop's place.
use Rattle.std.proofs.Common.{◌≡◌, ◌++◌, take}
use Rattle.letter_case.proofs.first_lowered.Given as goal

abbrev pub invariant-loop-c : goal.invariant-loop-c
invariant-loop-c l = l.made ≡ l.initial.made ++ take l.c-index l.rest
