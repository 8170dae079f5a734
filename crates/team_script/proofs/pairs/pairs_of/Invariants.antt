-- The pairs found so far are all but what the lines ahead load.
use Rattle.std.proofs.Common.{drop}
use Rattle.team_script.proofs.PairLemmas.{AreFound}
use Rattle.team_script.proofs.pairs.pairs_of.Given as goal

abbrev pub invariant-loop-line : goal.invariant-loop-line
invariant-loop-line l = AreFound l.lines (drop l.line-index l.lines) l.pairs
