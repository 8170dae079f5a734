-- The file that explains the bytes explains what they say.
use Rattle.std.proofs.lemmas.Option.{IfSome_then}
use Rattle.outside.specs.lists.AnswerLaws.{fails-then, gives-fault, gives-then}
use Rattle.dictionary_swap.specs.Loads.{MayComeOfLoads, affixes_due, affixes_step}
use Rattle.dictionary_swap.proofs.steps.load_affixes.Goals as goal

pub returns-in_err-bytes-clause-found : goal.returns-in_err-bytes-clause-found
unfolding affixes_due
returns-in_err-bytes-clause-found g c =
    let found = c.in_err-bytes.ensures.found in
    let fails = fails-then MayComeOfLoads affixes_step found.1 in
    (found.0, gives-fault MayComeOfLoads (λ x. x) c.from_residual.result fails c.from_residual.ensures.1)

pub returns-clause-found : goal.returns-clause-found
unfolding affixes_due
returns-clause-found g c =
    let found = c.in_ok-bytes.ensures.found in
    let due = rw c.deref.ensures.value at c.read_affixes.ensures.due in
    let next = affixes_step in
    (found.0, gives-then MayComeOfLoads next (λ x. x) c.read_affixes.result found.1 due)

pub returns-clause-told : goal.returns-clause-told
unfolding affixes_due
returns-clause-told g c =
    let due = rw c.deref.ensures.value at c.read_affixes.ensures.due in
    let next = affixes_step in
    IfSome_then (g.F.Files.told c.args.files.now) c.in_ok-bytes.ensures.told
    (λ folder is. gives-then MayComeOfLoads next (λ x. x) c.read_affixes.result is due)
