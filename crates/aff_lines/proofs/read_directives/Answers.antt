-- A first fault, read as a set.
use Rattle.aff_lines.proofs.ReadLemmas.{reads_first, refuses_first}
use Rattle.aff_lines.proofs.read_directives.Goals as goal

pub returns-clause-read : goal.returns-clause-read
returns-clause-read c =
    reads_first c.args.bytes.now c.read_early.result c.read_early.ensures.fine
    c.read_early.ensures.says

pub returns-clause-refused : goal.returns-clause-refused
returns-clause-refused c =
    refuses_first c.args.bytes.now c.read_early.result c.read_early.ensures.first
