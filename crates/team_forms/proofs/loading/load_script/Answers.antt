-- The file that explains the bytes explains what they say.
use Rattle.outside.specs.lists.AnswerLaws.{fails-then, gives-fault, gives-then}
use Rattle.outside.specs.lists.Answers.{failing}
use Rattle.team_script.specs.Due.{script_due}
use Rattle.file_loading.specs.Due.{MayCome}
use Rattle.team_forms.specs.Teams.{script_failure, read_due}
use Rattle.team_forms.proofs.loading.load_script.Goals as goal

pub returns-in_err-bytes-clause-due : goal.returns-in_err-bytes-clause-due
unfolding read_due
returns-in_err-bytes-clause-due g c =
    let found = c.in_err-bytes.ensures.due in
    let fails = fails-then MayCome (λ bytes. failing script_failure (script_due bytes)) found.2 in (
      found.0,
      found.1,
      gives-fault MayCome (λ script. script) c.from_residual.result fails
          c.from_residual.ensures.1,
    )

pub returns-clause-due : goal.returns-clause-due
unfolding read_due
returns-clause-due g c =
    let found = c.in_ok-bytes.ensures.due in
    let due = rw c.deref.ensures.value at c.script_of.ensures.due in (
      found.0,
      found.1,
      gives-then MayCome (λ bytes. failing script_failure (script_due bytes)) (λ script. script)
          c.script_of.result found.2 due,
    )
