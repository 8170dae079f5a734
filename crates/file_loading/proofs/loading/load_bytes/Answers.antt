-- The bytes of the file are due, or why there are none.
use Rattle.std.proofs.Common.{◌≡◌, ◌∙◌, ap, subst, sym, Ok}
use Rattle.outside.specs.lists.AnswerLaws.{fails-told}
use Rattle.outside.specs.lists.Answers.{FailsAs, failing}
use Rattle.outside.specs.Files.{MayComeOfFiles, file_due}
use Rattle.file_loading.specs.Due.{MayCome, bytes_due_of_file}
use Rattle.file_loading.specs.Failures.{failure_of}
use Rattle.file_loading.proofs.DueLemmas.{file-comes}
use Rattle.file_loading.specs.DueLaws.{file_failure, some-file}
use Rattle.file_loading.proofs.loading.load_bytes.Goals as goal

pub returns-in-Ok-clause-due : goal.returns-in-Ok-clause-due
unfolding bytes_due_of_file
returns-in-Ok-clause-due g c =
    let file = some-file (g.F.Files.told c.args.files.now) c.args.name.now
    {P = λ file. file_due c.args.limit file ≡ Ok c.in-Ok.bytes.items}
    c.in-Ok.ensures.found c.in-Ok.ensures.told in
    (file.0, file.1, ap (failing (file_failure c.args.limit)) file.2)

pub returns-in-Err-clause-due : goal.returns-in-Err-clause-due
unfolding bytes_due_of_file
returns-in-Err-clause-due g c =
    let file = some-file (g.F.Files.told c.args.files.now) c.args.name.now
    {P = λ file. FailsAs MayComeOfFiles (file_due c.args.limit file) c.in-Err.fault}
    c.in-Err.ensures.found c.in-Err.ensures.told in
    let fails = fails-told MayComeOfFiles MayCome (file_failure c.args.limit) (file-comes c.args.limit) file.2 in
    let same = c.from.ensures ∙ ap failure_of c.of_file.ensures in
    (file.0, file.1, subst (FailsAs MayCome (bytes_due_of_file c.args.limit file.0)) (sym same) fails)
