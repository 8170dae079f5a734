-- So far the characters before the loop's place stand behind the first text.
use Rattle.std.proofs.Common.{◌≡◌, ◌++◌, take}
use Rattle.spell_types.proofs.attaching.joined.Given as goal

abbrev pub invariant-loop-c : goal.invariant-loop-c
invariant-loop-c l = l.made ≡ l.front ++ take l.c-index l.back
