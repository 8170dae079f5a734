-- The script is due, or why there is none.
use Rattle.std.proofs.Common.{◌≡◌, ◌∙◌, ap, subst, sym}
use Rattle.outside.specs.lists.AnswerLaws.{fails-told}
use Rattle.outside.specs.lists.Answers.{FailsAs, failing}
use Rattle.team_script.specs.Due.{MayComeOfScripts, script_due}
use Rattle.own_dictionary.specs.dictionary_swap.declared.fault.LoadFault.TheVariants.{Failed}
use Rattle.file_loading.specs.Due.{MayCome}
use Rattle.team_forms.specs.Teams.{script_failure}
use Rattle.file_loading.specs.declared.failure.Failure.TheVariants.{Load}
use Rattle.team_forms.proofs.TeamLemmas.{script-comes, script-unfailed}
use Rattle.team_forms.proofs.loading.script_of.Goals as goal

pub returns-in-Ok-clause-due : goal.returns-in-Ok-clause-due
returns-in-Ok-clause-due c = ap (failing script_failure) c.in-Ok.ensures.due

pub returns-in-Err-clause-due : goal.returns-in-Err-clause-due
returns-in-Err-clause-due c =
    subst (FailsAs MayCome (failing script_failure (script_due c.args.bytes.now)))
    (sym c.script_failure.ensures)
    (fails-told MayComeOfScripts MayCome script_failure script-comes c.in-Err.ensures.due)

pub returns-in-Err-clause-failed : goal.returns-in-Err-clause-failed
returns-in-Err-clause-failed c = λ is.
    let same : c.script_failure.result ≡ Load Failed = cc in
    script-unfailed c.in-Err.fault (sym c.script_failure.ensures ∙ same)
