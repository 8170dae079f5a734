-- A line is added.
use Rattle.aff_lines.specs.Rows.{lines_of}
use Rattle.aff_lines.proofs.PassLemmas.{lines_turn}
use Rattle.aff_lines.proofs.values.first_lines.Goals as goal

pub loop-left-preserved : goal.loop-left-preserved
loop-left-preserved c =
    lines_turn c.loop-left.found c.push.new.self _ c.loop-left.left
    (lines_of c.args.directive c.loop-left.rest.now) (lines_of c.args.directive c.in-Some.more.now)
    c.in-Some.line
    c.loop-left-test.true c.in_ok-push.ensures.ok c.in-Some.ensures.0 c.loop-left.invariant
