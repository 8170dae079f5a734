-- What the places so far tell, with the others behind them, is what all tell.
use Rattle.std.proofs.Common.{◌≡◌, false, drop}
use Rattle.compound_pattern.proofs.StateLemmas.{ended}
use Rattle.compound_pattern.proofs.running.is_end_reached.Given as goal

abbrev pub invariant-loop-place : goal.invariant-loop-place
invariant-loop-place l =
    ended (drop l.place l.steps) l.reached (drop l.place l.states) ≡ ended l.steps false l.states
