-- Each eye so far has its number and a part of the ledger.
use Rattle.std.proofs.Common.{◌≡◌, ◌+◌, map}
use Rattle.std.specs.List.{range_with_len}
use Rattle.board_share.specs.Eyes.{fresh_eye}
use Rattle.board_share.proofs.scribe.fresh_eyes.Given as goal

abbrev pub invariant-loop-number : goal.invariant-loop-number
invariant-loop-number g l =
    (l.eyes.items ≡ map (fresh_eye g.D.Naming.opening) (range_with_len 0 l.number))
    × (l.rest.parts + l.number ≡ l.count) × (l.rest.amount ≡ 0)
