-- Each entry is of one kind.
use Rattle.edit_core.proofs.RunLaws.{kinds-asked_by, kinds-asked_of, kinds-by, kinds-of}
use Rattle.edit_core.proofs.laws.kinds_add_up.Goals as goal

pub returns-clause-of : goal.returns-clause-of
returns-clause-of c = kinds-of

pub returns-clause-by : goal.returns-clause-by
returns-clause-by c = kinds-by

pub returns-clause-asked_of : goal.returns-clause-asked_of
returns-clause-asked_of c = kinds-asked_of

pub returns-clause-asked_by : goal.returns-clause-asked_by
returns-clause-asked_by c = kinds-asked_by
