-- The states that are done, and what the others become, are what all become.
use Rattle.compound_pattern.proofs.StateLemmas.{AreGoing}
use Rattle.compound_pattern.proofs.running.advance_along.Given as goal

abbrev pub invariant-loop-place : goal.invariant-loop-place
invariant-loop-place l =
    AreGoing l.steps l.flags l.initial.states l.place l.passes l.arrives l.states
