-- No other end is left.
use Rattle.input_lines.proofs.CompleteLemmas.{ended-complete}
use Rattle.input_lines.proofs.laws.fitting_inputs_are_read.Goals as goal

pub returns : goal.returns
returns c = λ quits reading input said ended is. ended-complete quits (λ lines answers. Unit {0})
    reading input said ended is
