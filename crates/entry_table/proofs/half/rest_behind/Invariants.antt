-- What is left of the text is compared with what is left of the front.
use Rattle.std.proofs.Common.{◌≡◌, ℕ, List, ◌++◌, drop, IsUtf8, chars}
use Rattle.std.specs.Str.Iter.{chars_rest}
use Rattle.spell_types.specs.Cases.{is_same_word}
use Rattle.entry_table.proofs.half.rest_behind.Given as goal

abbrev pub invariant-loop-c : goal.invariant-loop-c
invariant-loop-c l = IsUtf8 (chars_rest l.left)
    × ((back : List ℕ) → is_same_word (chars (chars_rest l.left)) (drop l.c-index l.front ++ back)
    ≡ is_same_word (chars l.text) (l.front ++ back))
