-- A line adds its faults.
use Rattle.std.proofs.Common.{take, ◌+◌}
use Rattle.std.specs.Option.{option_copied}
use Rattle.aff_reader.specs.Classes.{line_faults}
use Rattle.aff_reader.proofs.TurnLemmas.{taken, knows-turn, fault-turn, line-told}
use Rattle.aff_reader.proofs.classes.lines_fault.Goals as goal

pub loop-line-preserved : goal.loop-line-preserved
loop-line-preserved c =
    let more = taken c.args.rows.now c.loop-line.line-index c.line-item.result c.loop-line-test.true
    c.line-item.is in
    let lines = take c.loop-line.line-index c.args.rows.now in
    let longer = take (c.loop-line.line-index + 1) c.args.rows.now in
    record {
      known = knows-turn c.args.kind lines longer c.line-item.result c.loop-line.classes
          c.place.new.self more
          c.in_ok-placed.ensures.knows c.loop-line.invariant.known;
      least = fault-turn c.earliest_faults.ensures.join
          (line_faults c.args.kind (option_copied c.args.aliases) c.args.rows.now) lines longer
          c.line-item.result
          c.loop-line.found c.in_ok-fault.fault c.sooner-found.result more c.sooner-found.ensures
          (line-told c.args.kind (option_copied c.args.aliases) c.args.rows.now lines
          c.line-item.result c.loop-line.classes c.in_ok-placed.placed c.in_ok-fault.fault
          c.in_ok-placed.ensures.placed c.loop-line.invariant.known
          (c.in_ok-fault.ensures c.args.rows.now c.requires))
          c.loop-line.invariant.least;
    }
