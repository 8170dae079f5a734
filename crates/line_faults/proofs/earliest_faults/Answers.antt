-- The laws of the earliest fault of some.
use Rattle.line_faults.specs.Laws.{least_append, least_law}
use Rattle.line_faults.proofs.earliest_faults.Goals as goal

pub returns-clause-join : goal.returns-clause-join
returns-clause-join g c = least_append

pub returns-clause-least : goal.returns-clause-least
returns-clause-least g c = least_law
