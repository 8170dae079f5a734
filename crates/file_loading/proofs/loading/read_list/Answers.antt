-- The items of the list are due, or why there are none.
use Rattle.std.proofs.Common.{ap, subst, sym}
use Rattle.outside.specs.lists.Answers.{FailsAs, failing}
use Rattle.file_loading.specs.Due.{MayCome, items_due}
use Rattle.file_loading.specs.Failures.{own_failure}
use Rattle.file_loading.proofs.DueLemmas.{own-fails}
use Rattle.file_loading.proofs.loading.read_list.Goals as goal

pub returns-in-Ok-clause-due : goal.returns-in-Ok-clause-due
unfolding items_due
returns-in-Ok-clause-due c = ap (failing own_failure) c.in-Ok.ensures.value

pub returns-in-Err-clause-due : goal.returns-in-Err-clause-due
unfolding items_due
returns-in-Err-clause-due c =
    subst (FailsAs MayCome (items_due c.args.affixes.now c.args.bytes.now)) (sym c.from.ensures)
    (own-fails _ c.in-Err.fault c.in-Err.ensures.value)
