-- The prefix allows the first suffix.
use Rattle.std.proofs.lemmas.Result.{on_ok_weaker}
use Rattle.spell_types.specs.declared.rules.Side.TheVariants.{Suffix}
use Rattle.form_lister.specs.Walks.{carried_at}
use Rattle.form_lister.proofs.ChoiceLemmas.{same-allowed}
use Rattle.form_lister.proofs.WalkLemmas.{behind-adds}
use Rattle.form_lister.proofs.walk.Walk.add_behind.Goals as goal

pub returns-clause-adds : goal.returns-clause-adds
returns-clause-adds c =
    let walk = c.args.self.now in
    let rules = walk.stems.now.affixes.rules in
    let firsts = same-allowed rules Suffix c.carried_by-carried.result.now
    (carried_at walk.stems.now c.args.prefix) c.in_ok-firsts.firsts.items c.as_slice.result.now
    c.carried_by-carried.ensures c.as_slice.ensures.value
    (c.in_ok-firsts.ensures rules c.requires.rules) in
    on_ok_weaker c.add_pairs.result
    (behind-adds walk c.args.entry c.args.prefix c.as_slice.result.now c.args.found.now
    c.add_pairs.new.found firsts)
    c.add_pairs.ensures.adds
