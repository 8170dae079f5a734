-- The front begins with what the next eye knows, too.
use Rattle.board_share.specs.Endings.{IsSeenIn}
use Rattle.board_share.proofs.Sums.{each-next}
use Rattle.board_share.proofs.scribe.all_seen.Goals as goal

pub loop-eye-preserved : goal.loop-eye-preserved
loop-eye-preserved g c =
    each-next (IsSeenIn (record { opening = g.D.Naming.opening; entries = c.args.front.now }))
    c.args.eyes.now c.loop-eye.eye-index c.eye-item.result c.loop-eye-test.true c.eye-item.is
    c.loop-eye.invariant (c.begins.ensures c.if-not-begins.false)
