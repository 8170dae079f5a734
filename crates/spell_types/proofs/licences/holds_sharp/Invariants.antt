-- What is left of the word holds ß if and only if the word does.
use Rattle.std.proofs.Common.{◌≡◌, IsUtf8, chars}
use Rattle.std.specs.Str.Iter.{chars_rest}
use Rattle.spell_types.specs.Bases.{holds_character}
use Rattle.spell_types.proofs.licences.holds_sharp.Given as goal

abbrev pub invariant-loop-c : goal.invariant-loop-c
invariant-loop-c l = IsUtf8 (chars_rest l.c-iterator)
    × (holds_character 223 (chars (chars_rest l.c-iterator)) ≡ holds_character 223 (chars l.fn.word))
