-- The files that explain each step explain the load.
use Rattle.std.proofs.Common.{rules, IfSome, Option, Some, None}
use Rattle.outside.specs.lists.AnswerLaws.{fails-behind, fails-then, gives-fault}
use Rattle.dictionary_swap.specs.Loads.{MayComeOfLoads, lexicon_due}
use Rattle.dictionary_swap.proofs.load_lexicon.Goals as goal

pub returns-in_err-affixes-clause-found : goal.returns-in_err-affixes-clause-found
unfolding lexicon_due
returns-in_err-affixes-clause-found g c =
    let found = c.in_err-affixes.ensures.found in
    let fails = fails-then MayComeOfLoads _ found.1 in (
      record { aff = found.0; dic = None },
      gives-fault MayComeOfLoads (λ x. x) c.from_residual.result fails c.from_residual.ensures.1,
    )

pub returns-in_err-entries-clause-found : goal.returns-in_err-entries-clause-found
unfolding lexicon_due
returns-in_err-entries-clause-found g c =
    let first = c.in_ok-affixes.ensures.found in
    let found = c.in_err-entries.ensures.found in
    let result = c.from_residual-in_err-entries.result in
    let fails = fails-behind MayComeOfLoads _ first.1 (fails-then MayComeOfLoads _ found.1) in (
      record { aff = first.0; dic = found.0 },
      gives-fault MayComeOfLoads (λ x. x) result fails c.from_residual-in_err-entries.ensures.1,
    )

-- and so do those of a folder that is told
both-told : {T : Type 0} (told : Option T) {P Q R : T → Type 0} → IfSome told P → IfSome told Q
    → ((folder : T) → P folder → Q folder → R folder) → IfSome told R
both-told None first second next = tt
both-told (Some folder) first second next = next folder first second

pub returns-in_err-entries-clause-told : goal.returns-in_err-entries-clause-told
unfolding lexicon_due
returns-in_err-entries-clause-told g c =
    let found = rw c.in_ok-affixes.ensures.same at c.in_err-entries.ensures.told in
    let result = c.from_residual-in_err-entries.result in
    both-told (g.F.Files.told c.args.files.now) c.in_ok-affixes.ensures.told found
    (λ folder first fails. gives-fault MayComeOfLoads (λ x. x) result
    (fails-behind MayComeOfLoads _ first (fails-then MayComeOfLoads _ fails))
    c.from_residual-in_err-entries.ensures.1)

pub returns-clause-found : goal.returns-clause-found
unfolding lexicon_due
returns-clause-found g c = (
  record { aff = c.in_ok-affixes.ensures.found.0; dic = c.in_ok-entries.ensures.found.0 },
  search (
    rules,
    c.in_ok-affixes.ensures.found.1,
    c.in_ok-entries.ensures.found.1,
  ),
)
