-- The text lists flags where what is left does.
use Rattle.std.proofs.Common.{◌≡◌, length, is_some}
use denote.Text.{Utf8}
use denote.Shadow.{shadow}
use Rattle.flag_sets.specs.FlagTexts.{listed_flags}
use Rattle.flag_sets.proofs.lists_flags.Given as goal

abbrev pub invariant-loop-rest : goal.invariant-loop-rest
invariant-loop-rest l =
    shadow (Utf8 l.rest)
    × (is_some (listed_flags l.kind l.rest) ≡ is_some (listed_flags l.kind l.fn.text))

abbrev pub decreases-loop-rest : goal.decreases-loop-rest
decreases-loop-rest l = length l.rest
