-- The file that explains the bytes explains what they say.
use Rattle.outside.specs.lists.AnswerLaws.{fails-then, gives-fault, gives-then}
use Rattle.file_loading.specs.Due.{MayCome, items_due, list_due}
use Rattle.file_loading.proofs.loading.load_list.Goals as goal

pub returns-in_err-bytes-clause-due : goal.returns-in_err-bytes-clause-due
unfolding list_due
returns-in_err-bytes-clause-due g c =
    let found = c.in_err-bytes.ensures.due in
    let fails = fails-then MayCome (items_due c.args.affixes.now) found.2 in (
      found.0,
      found.1,
      gives-fault MayCome (λ own. own) c.from_residual.result fails c.from_residual.ensures.1,
    )

pub returns-clause-due : goal.returns-clause-due
unfolding list_due
returns-clause-due g c =
    let found = c.in_ok-bytes.ensures.due in
    let due = rw c.deref.ensures.value at c.read_list.ensures.due in (
      found.0,
      found.1,
      gives-then MayCome (items_due c.args.affixes.now) (λ own. own) c.read_list.result found.2
          due,
    )
