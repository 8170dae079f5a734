-- The dictionary is due, or why there is none.
use Rattle.std.proofs.Common.{ap, subst, sym}
use Rattle.outside.specs.lists.AnswerLaws.{fails-told}
use Rattle.outside.specs.lists.Answers.{FailsAs, failing}
use Rattle.own_dictionary.specs.dictionary_swap.Loads.{MayComeOfLoads}
use Rattle.file_loading.specs.Due.{MayCome, base_due}
use Rattle.file_loading.specs.Failures.{failure_of}
use Rattle.file_loading.specs.DueLaws.{load-comes}
use Rattle.file_loading.proofs.loading.load_base_judge.Goals as goal

pub returns-in-Ok-clause-due : goal.returns-in-Ok-clause-due
unfolding base_due
returns-in-Ok-clause-due g c =
    let there = c.in-Ok.ensures.due in (there.0, there.1, ap (failing failure_of) there.2)

pub returns-in-Err-clause-due : goal.returns-in-Err-clause-due
unfolding base_due
returns-in-Err-clause-due g c =
    let there = c.in-Err.ensures.due in
    let fails = fails-told MayComeOfLoads MayCome failure_of load-comes there.2 in
    (there.0, there.1, subst (FailsAs MayCome (base_due there.0)) (sym c.from.ensures) fails)
