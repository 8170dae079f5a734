-- Nothing is left at the end.
use Rattle.std.proofs.Common.{arith}
use Rattle.std.proofs.lemmas.Bool.Decides.{nat_tests}
use Rattle.flag_sets.proofs.TextLemmas.{lists_at_end}
use Rattle.flag_sets.proofs.lists_flags.Goals as goal

pub returns : goal.returns
returns c = lists_at_end c.args.kind c.args.text.now c.loop-rest.rest.now (grind (arith, nat_tests))
    c.loop-rest.invariant.1
