-- The first suffix allows the second, or may not be attached.
use Rattle.std.proofs.Common.{◌∙◌, sym}
use Rattle.std.proofs.lemmas.Result.{on_ok_weaker}
use Rattle.spell_types.specs.declared.rules.Side.TheVariants.{Suffix}
use Rattle.form_lister.specs.Walks.{carried_at}
use Rattle.form_lister.proofs.ChoiceLemmas.{same-choices}
use Rattle.form_lister.proofs.WalkLemmas.{pair-adds, pair-none}
use Rattle.form_lister.proofs.walk.Walk.add_pair.Goals as goal

pub returns-then-not-branch-clause-adds : goal.returns-then-not-branch-clause-adds
returns-then-not-branch-clause-adds c =
    pair-none c.args.self.now c.args.entry c.args.prefix c.args.first c.args.found.now c.requires
    (sym c.in_ok-has_form.ensures ∙ c.if-not-branch.true)

pub returns-clause-adds : goal.returns-clause-adds
returns-clause-adds c =
    let walk = c.args.self.now in
    let rules = walk.stems.now.affixes.rules in
    let seconds = same-choices rules Suffix c.carried_by-carried.result.now
    (carried_at walk.stems.now c.args.first) c.in_ok-seconds.seconds.items c.as_slice.result.now
    c.carried_by-carried.ensures c.as_slice.ensures.value
    (c.in_ok-seconds.ensures rules c.requires.rules) in
    on_ok_weaker c.add_pair_seconds.result
    (pair-adds walk c.args.entry c.args.prefix c.args.first c.as_slice.result.now c.args.found.now
    c.add_pair_seconds.new.found seconds)
    c.add_pair_seconds.ensures.adds
