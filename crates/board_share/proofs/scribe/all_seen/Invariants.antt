-- So far each eye knows a front.
use Rattle.std.proofs.Common.{take}
use Rattle.std.specs.List.{AllByRecursion}
use Rattle.board_share.specs.Endings.{IsSeenIn}
use Rattle.board_share.proofs.scribe.all_seen.Given as goal

abbrev pub invariant-loop-eye : goal.invariant-loop-eye
invariant-loop-eye g l =
    AllByRecursion (IsSeenIn (record { opening = g.D.Naming.opening; entries = l.front }))
    (take l.eye-index l.eyes)
