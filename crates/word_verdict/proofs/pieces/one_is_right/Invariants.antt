-- None of the spellings before the loop's place is right.
use Rattle.std.proofs.Common.{◌≡◌, false, take}
use Rattle.std.specs.List.{list_any}
use Rattle.spell_types.specs.Bases.{is_right_spelling}
use Rattle.word_verdict.proofs.pieces.one_is_right.Given as goal

abbrev pub invariant-loop-spelling : goal.invariant-loop-spelling
invariant-loop-spelling l =
    list_any (is_right_spelling l.dictionary.stems.now l.written)
    (take l.spelling-index l.spellings) ≡ false
