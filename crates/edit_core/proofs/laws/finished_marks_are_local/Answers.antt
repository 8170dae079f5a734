-- By the law on the marks that a paragraph has among those of all texts.
use Rattle.edit_core.proofs.RunLaws.{finished-local}
use Rattle.edit_core.proofs.laws.finished_marks_are_local.Goals as goal

pub returns : goal.returns
returns c = finished-local c.shown_marks_are_local.ensures
