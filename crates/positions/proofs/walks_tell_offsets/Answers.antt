-- The characters before a place have its units.
use Rattle.positions.proofs.WalkLemmas.{offset_placed}
use Rattle.positions.proofs.walks_tell_offsets.Goals as goal

pub returns : goal.returns
returns c = offset_placed
