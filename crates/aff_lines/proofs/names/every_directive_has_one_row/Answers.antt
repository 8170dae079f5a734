-- The law of the table, clause by clause.
use Rattle.aff_lines.proofs.NameLemmas.{each-listed, listed-once, rows-of-pass}
use Rattle.aff_lines.proofs.names.every_directive_has_one_row.Goals as goal

pub returns-clause-listed : goal.returns-clause-listed
returns-clause-listed c = each-listed

pub returns-clause-once : goal.returns-clause-once
returns-clause-once c = listed-once

pub returns-clause-passes : goal.returns-clause-passes
returns-clause-passes c = rows-of-pass
