-- So far there are as many states as texts.
use Rattle.std.proofs.Common.{◌≡◌, map, take}
use Rattle.edit_core.specs.declared.state.State.TheVariants.{Waiting}
use Rattle.edit_core.proofs.opening.waiting.Given as goal

abbrev pub invariant-loop-text : goal.invariant-loop-text
invariant-loop-text g l = l.states.items ≡ map (λ _. Waiting) (take l._text-index l.texts)
