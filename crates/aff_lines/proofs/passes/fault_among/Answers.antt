-- A directive adds its faults, and the rows of the code's table are those of the definition.
use Rattle.std.proofs.Common.{◌∙◌, ap}
use Rattle.std.specs.List.{flat_map}
use Rattle.std.proofs.lemmas.List.{take_all}
use Rattle.aff_lines.specs.Faults.{least_of}
use Rattle.aff_lines.proofs.PassLemmas.{all-described, described_faults, pass_turn}
use Rattle.aff_lines.proofs.passes.fault_among.Goals as goal

pub loop-described-preserved : goal.loop-described-preserved
loop-described-preserved c =
    pass_turn c.args.kind c.args.rows.now c.args.pass c.args.directives.now
    c.loop-described.described-index _ c.loop-described.found c.fault_in.result
    c.sooner-found.result
    c.loop-described-test.true c.sooner-found.ensures c.fault_in.ensures c.loop-described.invariant

pub returns : goal.returns
returns c =
    c.loop-described.invariant
    ∙ ap (λ own. least_of (flat_map (described_faults c.args.kind c.args.rows.now c.args.pass) own))
    (take_all c.loop-described.described-index c.args.directives.now c.loop-described-test.false)
    ∙ ap least_of (all-described c.args.kind c.args.rows.now c.args.pass c.args.directives.now)
