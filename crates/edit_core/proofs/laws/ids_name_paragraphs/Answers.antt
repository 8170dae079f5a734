-- No id stands twice.
use Rattle.edit_core.proofs.Fit.{at-named, own-here, own-place}
use Rattle.edit_core.proofs.laws.ids_name_paragraphs.Goals as goal

pub returns-clause-own : goal.returns-clause-own
returns-clause-own c = own-here

pub returns-clause-at : goal.returns-clause-at
returns-clause-at c = at-named

pub returns-clause-place : goal.returns-clause-place
returns-clause-place c = own-place
