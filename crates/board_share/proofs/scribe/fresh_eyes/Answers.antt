-- The next eye has the next number.
use Rattle.std.proofs.Common.{arith}
use Rattle.board_share.proofs.Counting.{fresh-more}
use Rattle.board_share.proofs.scribe.fresh_eyes.Goals as goal

pub loop-number-preserved : goal.loop-number-preserved
loop-number-preserved g c =
    let is = c.loop-number.invariant in (
      fresh-more g.D.Naming.opening c.loop-number.number c.loop-number.eyes.items
          c.push.new.self.items c.fresh.result is.0 c.fresh.ensures c.in_ok-push.ensures.items,
      omega (arith, c.split_off-share.ensures.parts_left, is.1),
      omega (arith, c.split_off-share.ensures.amount_left, is.2),
    )
