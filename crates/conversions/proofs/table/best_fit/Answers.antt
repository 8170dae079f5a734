-- The row of the best pattern is the best fitting one.
use Rattle.std.proofs.Common.{◌∙◌}
use Rattle.conversions.proofs.Rows.{got, no_fit, best_row}
use Rattle.conversions.proofs.table.best_fit.Goals as goal

pub returns-in-None : goal.returns-in-None
returns-in-None c =
    no_fit c.args.table.now c.args.patterns.now c.args.text.now c.requires c.in-None.ensures

pub returns-in-Some : goal.returns-in-Some
returns-in-Some c =
    got c.args.table.now c.in-Some.pattern.now.1 c.get.result c.get.ensures.lookup.3
    ∙ best_row c.args.table.now c.args.patterns.now c.args.text.now c.in-Some.pattern.now c.requires
    c.in-Some.ensures
