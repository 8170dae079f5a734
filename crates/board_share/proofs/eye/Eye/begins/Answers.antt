-- What was counted of what the eye knows is in the longer front.
use Rattle.std.proofs.Common.{◌≡◌, false, refl, arith}
use Rattle.board_share.proofs.eye.Eye.begins.Goals as goal

pub returns : goal.returns
returns g c is =
    let inside = c.self.inside in
    let ahead : c.is_behind.result ≡ false = grind (arith, is) in
    let begins = c.is_behind.ensures.ahead ahead in
    rw (← c.self.view_is) (record {
      opening = refl;
      begins = begins;
      counted = c.counts_stay_true.ensures.later inside.number inside.front c.args.front.now
          inside.counts begins c.self.invariant.counted;
    })
