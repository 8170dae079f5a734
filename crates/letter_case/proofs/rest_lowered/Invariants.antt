-- So far the word has the characters before the loop's place.
use Rattle.std.proofs.Common.{◌≡◌, ◌++◌, take, map}
use Rattle.spell_types.specs.Cases.{low}
use Rattle.letter_case.proofs.rest_lowered.Given as goal

abbrev pub invariant-loop-c : goal.invariant-loop-c
invariant-loop-c l = l.made ≡ l.initial.made ++ map low (take l.c-index l.rest)
