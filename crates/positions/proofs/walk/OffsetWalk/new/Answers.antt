-- A walk begins at the beginning.
use Rattle.positions.proofs.walk.OffsetWalk.new.Goals as goal

pub invariant_of-result : goal.invariant_of-result
invariant_of-result c = c.start.ensures.on_way c.args.encoding
