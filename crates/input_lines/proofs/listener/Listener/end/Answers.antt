-- The last answer is put behind those before.
use Rattle.input_lines.proofs.TurnLemmas.{stops-cut, stops-put}
use Rattle.input_lines.proofs.listener.Listener.end.Goals as goal

pub returns-in-Ok-clause-ends : goal.returns-in-Ok-clause-ends
returns-in-Ok-clause-ends g c = λ first before heard few under.
    stops-put (c.end_input-ended.ensures.ends first before _ heard few under) c.in-Ok.ensures.puts

pub returns-in-Err-clause-ends : goal.returns-in-Err-clause-ends
returns-in-Err-clause-ends g c = λ first before heard few under.
    stops-cut (c.end_input-ended.ensures.ends first before _ heard few under) c.in-Err.ensures.puts
