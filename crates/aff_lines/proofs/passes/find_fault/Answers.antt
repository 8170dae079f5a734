-- The directives that are of the pass are those that it looks at.
use Rattle.aff_lines.proofs.PassLemmas.{pass_all}
use Rattle.aff_lines.proofs.passes.find_fault.Goals as goal

pub returns : goal.returns
returns c =
    pass_all c.args.kind c.args.rows.now c.args.pass c.directives.result.now c.fault_among.result
    c.directives.ensures c.fault_among.ensures
