-- The dictionary is due, or why there is none.
use Rattle.std.proofs.Common.{◌≡◌, ap, subst, sym, Ok}
use Rattle.outside.specs.lists.AnswerLaws.{fails-told}
use Rattle.outside.specs.lists.Answers.{FailsAs, failing}
use Rattle.own_dictionary.specs.dictionary_swap.Loads.{MayComeOfLoads, lexicon_due}
use Rattle.file_loading.specs.Due.{MayCome, base_due}
use Rattle.file_loading.specs.Failures.{failure_of}
use Rattle.file_loading.specs.DueLaws.{load-comes, some-there}
use Rattle.file_loading.proofs.loading.load_base.Goals as goal

pub returns-in-Ok-clause-due : goal.returns-in-Ok-clause-due
unfolding base_due
returns-in-Ok-clause-due g c =
    let there = some-there (g.F.Files.told c.args.files.now) c.args.aff.now c.args.dic.now
    {P = λ there. lexicon_due there ≡ Ok c.in-Ok.base}
    c.in-Ok.ensures.found c.in-Ok.ensures.told in
    (there.0, there.1, ap (failing failure_of) there.2)

pub returns-in-Err-clause-due : goal.returns-in-Err-clause-due
unfolding base_due
returns-in-Err-clause-due g c =
    let there = some-there (g.F.Files.told c.args.files.now) c.args.aff.now c.args.dic.now
    {P = λ there. FailsAs MayComeOfLoads (lexicon_due there) c.in-Err.fault}
    c.in-Err.ensures.found c.in-Err.ensures.told in
    let fails = fails-told MayComeOfLoads MayCome failure_of load-comes there.2 in
    (there.0, there.1, subst (FailsAs MayCome (base_due there.0)) (sym c.from.ensures) fails)
