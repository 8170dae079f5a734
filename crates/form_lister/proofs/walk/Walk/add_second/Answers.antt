-- The entry allows the prefix, or one of the suffixes does.
use Rattle.std.proofs.lemmas.Result.{on_ok_weaker}
use Rattle.spell_types.specs.declared.rules.Side.TheVariants.{Prefix}
use Rattle.form_lister.specs.Walks.{carried_at}
use Rattle.form_lister.proofs.ChoiceLemmas.{same-allowed}
use Rattle.form_lister.proofs.WalkLemmas.{second-adds}
use Rattle.form_lister.proofs.walk.Walk.add_second.Goals as goal

pub returns-clause-adds : goal.returns-clause-adds
returns-clause-adds c =
    let walk = c.args.self.now in
    let lexicon = walk.stems.now in
    let rules = lexicon.affixes.rules in
    let one = same-allowed rules Prefix c.carried_by.result.now (carried_at lexicon c.args.first)
    c.in_ok-by_first.by_first.items c.as_slice.result.now c.carried_by.ensures
    c.as_slice.ensures.value (c.in_ok-by_first.ensures rules c.requires.way.rules) in
    let two = same-allowed rules Prefix c.carried_by-2.result.now (carried_at lexicon c.args.second)
    c.in_ok-by_second.by_second.items c.as_slice-2.result.now c.carried_by-2.ensures
    c.as_slice-2.ensures.value (c.in_ok-by_second.ensures rules c.requires.way.rules) in
    on_ok_weaker c.add_prefixes-3.result
    (second-adds walk c.args.entry c.args.first c.args.second c.args.prefixes.now
    c.as_slice.result.now c.as_slice-2.result.now c.args.found.now c.add_prefixes.new.found
    c.add_prefixes-2.new.found c.add_prefixes-3.new.found c.requires.prefixes one two
    c.in_ok-add_prefixes.ensures.adds c.in_ok-add_prefixes-2.ensures.adds)
    c.add_prefixes-3.ensures.adds
