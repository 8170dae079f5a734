-- What stands behind the place are dots.
use Rattle.std.proofs.Common.{◌≡◌, ◌+◌, ◌-◌, ◌≤◌, length, take}
use Rattle.std.specs.List.{suffix_len}
use Rattle.spell_types.specs.Numbers.{is_dot}
use Rattle.word_verdict.proofs.numbers.undotted.Given as goal

abbrev pub invariant-loop-end : goal.invariant-loop-end
invariant-loop-end l =
    (l.end ≤ length l.word)
    × (length l.word - l.end + suffix_len is_dot (take l.end l.word) ≡ suffix_len is_dot l.word)

abbrev pub decreases-loop-end : goal.decreases-loop-end
decreases-loop-end l = l.end
