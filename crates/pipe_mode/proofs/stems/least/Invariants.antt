-- The least of the derivations before the loop's place.
use Rattle.std.proofs.Common.{◌≡◌, fold, take}
use Rattle.pipe_mode.specs.Stems.{lesser}
use Rattle.pipe_mode.proofs.stems.least.Given as goal

abbrev pub invariant-loop-d : goal.invariant-loop-d
invariant-loop-d l = l.least ≡ fold lesser l.initial.least (take l.d-index l.more)
