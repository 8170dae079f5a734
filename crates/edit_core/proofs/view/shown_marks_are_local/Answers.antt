-- By the law that the marks of a text are those of its paragraphs one by one.
use Rattle.edit_core.proofs.Locality.{local-marks}
use Rattle.edit_core.proofs.view.shown_marks_are_local.Goals as goal

pub returns : goal.returns
returns c = local-marks c.marks_are_local.ensures.marks
