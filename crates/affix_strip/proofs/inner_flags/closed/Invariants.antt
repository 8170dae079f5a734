-- The flags that there were first are there still.
use Rattle.affix_strip.specs.Inside.{KeepsFlags}
use Rattle.affix_strip.proofs.inner_flags.closed.Given as goal

abbrev pub invariant-loop : goal.invariant-loop
invariant-loop l = KeepsFlags l.fn.own l.flags
