-- What is left of both is the same if and only if both are.
use Rattle.std.proofs.Common.{◌≡◌, IsUtf8, chars}
use Rattle.std.specs.Str.Iter.{chars_rest}
use Rattle.spell_types.specs.Cases.{is_same_word}
use Rattle.spell_types.proofs.texts.is_spelled.Given as goal

abbrev pub invariant-loop-c : goal.invariant-loop-c
invariant-loop-c l = IsUtf8 (chars_rest l.c-iterator)
    × (is_same_word (chars (chars_rest l.c-iterator)) l.left
    ≡ is_same_word (chars l.fn.text) l.fn.characters)
