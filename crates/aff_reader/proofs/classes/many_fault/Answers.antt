-- A header adds to the total, and has a fault where that is past the limit.
use Rattle.std.proofs.Common.{take, ◌+◌, refl}
use Rattle.aff_reader.specs.Classes.{limit_faults}
use Rattle.aff_reader.proofs.TurnLemmas.{taken, knows-turn, fault-turn, total-none, total-turn}
use Rattle.aff_reader.proofs.TurnLemmas.{limit-told}
use Rattle.aff_reader.proofs.classes.many_fault.Goals as goal

pub loop-line-init : goal.loop-line-init
loop-line-init c = record {
  known = c.new-classes.ensures c.args.kind;
  total = total-none c.args.kind c.args.limit;
  least = refl;
}

pub loop-line-preserved : goal.loop-line-preserved
loop-line-preserved c =
    let more = taken c.args.rows.now c.loop-line.line-index c.line-item.result c.loop-line-test.true
    c.line-item.is in
    let lines = take c.loop-line.line-index c.args.rows.now in
    let longer = take (c.loop-line.line-index + 1) c.args.rows.now in
    let total =
    total-turn c.args.kind lines longer c.line-item.result c.loop-line.classes
    c.in_ok-placed.placed c.args.limit c.loop-line.total
    c.saturating_add-total.result c.announced_by.result more c.requires
    c.in_ok-placed.ensures.placed c.loop-line.invariant.known
    c.announced_by.ensures c.saturating_add-total.ensures c.loop-line.invariant.total in
    record {
      known = knows-turn c.args.kind lines longer c.line-item.result c.loop-line.classes
          c.place.new.self more
          c.in_ok-placed.ensures.knows c.loop-line.invariant.known;
      total = total;
      least = fault-turn c.earliest_faults.ensures.join (limit_faults c.args.kind c.args.limit)
          lines longer c.line-item.result
          c.loop-line.found c.total_fault.result c.sooner-found.result more c.sooner-found.ensures
          (limit-told c.args.kind lines longer c.line-item.result c.loop-line.classes
          c.in_ok-placed.placed c.args.limit c.saturating_add-total.result c.total_fault.result
          more c.in_ok-placed.ensures.placed c.loop-line.invariant.known total
          c.total_fault.ensures)
          c.loop-line.invariant.least;
    }
