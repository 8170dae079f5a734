-- By what the ids of a board name, and what only grows.
use Rattle.edit_core.proofs.Fit.{later-fit, own-fit, own-list-fit}
use Rattle.edit_core.proofs.laws.checks_are_fit.Goals as goal

pub returns-clause-own : goal.returns-clause-own
returns-clause-own c = own-fit

pub returns-clause-later : goal.returns-clause-later
returns-clause-later c = later-fit

pub returns-clause-list : goal.returns-clause-list
returns-clause-list c = own-list-fit c.edits_are_decided.ensures.kept
