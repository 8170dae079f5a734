-- The beginning is before each byte.
use Rattle.std.proofs.Common.{arith}
use Rattle.positions.proofs.walk.before.Goals as goal

pub returns-then-byte-reached-clause-within : goal.returns-then-byte-reached-clause-within
returns-then-byte-reached-clause-within c = omega (arith, c.start.ensures.byte)

pub returns-then-byte-reached-clause-on_way : goal.returns-then-byte-reached-clause-on_way
returns-then-byte-reached-clause-on_way c = λ encoding held. c.start.ensures.on_way encoding
