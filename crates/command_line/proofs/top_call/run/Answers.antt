-- What statuses tell.
use Rattle.command_line.proofs.StatusLemmas.{five-has-cause, six-is-sink, two-has-no-form}
use Rattle.command_line.proofs.top_call.run.Goals as goal

pub returns-clause-no_form : goal.returns-clause-no_form
returns-clause-no_form g c = two-has-no-form (rw c.request_of.ensures at c.answer.ensures.due)

pub returns-clause-failed : goal.returns-clause-failed
returns-clause-failed g c = five-has-cause c.answer.ensures.due

pub returns-clause-sink : goal.returns-clause-sink
returns-clause-sink g c = six-is-sink c.answer.ensures.due
