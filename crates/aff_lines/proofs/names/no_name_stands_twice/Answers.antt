-- The law of the names, clause by clause.
use Rattle.aff_lines.proofs.NameLemmas.{names-once, name-found}
use Rattle.aff_lines.proofs.names.no_name_stands_twice.Goals as goal

pub returns-clause-once : goal.returns-clause-once
returns-clause-once c = names-once

pub returns-clause-found : goal.returns-clause-found
returns-clause-found c = name-found
