-- A row adds its faults.
use Rattle.std.proofs.Common.{◌∙◌, ap}
use Rattle.aff_lines.specs.Faults.{least_of}
use Rattle.aff_lines.specs.Grammar.{faults_at}
use Rattle.aff_reader.specs.CompoundRules.{text_faults}
use Rattle.aff_reader.proofs.TableLemmas.{faults-turn}
use Rattle.aff_reader.proofs.compound_rules.listed_fault.Goals as goal

pub loop-row-preserved : goal.loop-row-preserved
loop-row-preserved c =
    faults-turn c.earliest_faults.ensures.join (text_faults c.args.kind) c.loop-row.found
    c.fault_at.result c.sooner-found.result
    c.args.rows.now c.loop-row.row-index c.row-item.result c.loop-row-test.true c.row-item.is
    c.sooner-found.ensures
    (c.fault_at.ensures ∙ ap (λ why. least_of (faults_at why c.row-item.result.now))
    c.in_ok-why.ensures) c.loop-row.invariant
