-- The text is one flag where nothing is left after its first.
use Rattle.std.proofs.Common.{◌∙◌, arith}
use Rattle.std.proofs.lemmas.Bool.Decides.{nat_tests}
use Rattle.flag_sets.proofs.TextLemmas.{empty_is_not_one, one_left}
use Rattle.flag_sets.proofs.read_one_flag.Goals as goal

pub returns-then-is_empty-clause-flag : goal.returns-then-is_empty-clause-flag
returns-then-is_empty-clause-flag c =
    empty_is_not_one c.args.kind c.args.text.now (grind (arith, nat_tests))

pub returns-clause-flag : goal.returns-clause-flag
returns-clause-flag c =
    c.then_some.ensures
    ∙ one_left c.args.kind c.args.text.now c.in_ok-flag.rest.now c.in_ok-flag.flag
    c.lists_nothing.result c.in_ok-flag.ensures.goes_on.0 c.lists_nothing.ensures
