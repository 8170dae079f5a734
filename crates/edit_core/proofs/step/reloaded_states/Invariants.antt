-- The states so far, and those of the paragraphs that are left, are those of all under another
-- dictionary.
use Rattle.std.proofs.Common.{◌≡◌, ◌++◌, map}
use Rattle.edit_core.specs.Steps.{reloaded_state}
use Rattle.edit_core.proofs.step.reloaded_states.Given as goal

abbrev pub invariant-loop-state : goal.invariant-loop-state
invariant-loop-state g l = l.made.items ++ map (reloaded_state {J = g.row.J.Denot}) l.state-iterator
    ≡ map (reloaded_state {J = g.row.J.Denot}) l.states
