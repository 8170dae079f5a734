-- The entry allows the first suffix, or a prefix does that the entry allows.
use Rattle.std.proofs.lemmas.Result.{on_ok_weaker}
use Rattle.spell_types.specs.declared.rules.Side.TheVariants.{Prefix, Suffix}
use Rattle.form_lister.specs.Walks.{flags_at}
use Rattle.form_lister.proofs.ChoiceLemmas.{same-choices}
use Rattle.form_lister.proofs.WalkLemmas.{entry-adds}
use Rattle.form_lister.proofs.walk.Walk.add_entry.Goals as goal

pub add_firsts-requires-clause-prefixes : goal.add_firsts-requires-clause-prefixes
add_firsts-requires-clause-prefixes c =
    let lexicon = c.args.self.now.stems.now in
    same-choices lexicon.affixes.rules Prefix c.flags_of-flags.result.now
    (flags_at lexicon c.args.entry) c.in_ok-prefixes.prefixes.items c.as_slice.result.now
    c.flags_of-flags.ensures c.as_slice.ensures.value
    (c.in_ok-prefixes.ensures lexicon.affixes.rules c.requires.rules)

pub returns-clause-adds : goal.returns-clause-adds
returns-clause-adds c =
    let walk = c.args.self.now in
    let lexicon = walk.stems.now in
    let rules = lexicon.affixes.rules in
    let prefixes = same-choices rules Prefix c.flags_of-flags.result.now
    (flags_at lexicon c.args.entry) c.in_ok-prefixes.prefixes.items c.as_slice-3.result.now
    c.flags_of-flags.ensures c.as_slice-3.ensures.value
    (c.in_ok-prefixes.ensures rules c.requires.rules) in
    let firsts = same-choices rules Suffix c.flags_of-flags.result.now
    (flags_at lexicon c.args.entry) c.in_ok-firsts.firsts.items c.as_slice-2.result.now
    c.flags_of-flags.ensures c.as_slice-2.ensures.value
    (c.in_ok-firsts.ensures rules c.requires.rules) in
    on_ok_weaker c.add_behind_prefixes.result
    (entry-adds walk c.args.entry c.as_slice-3.result.now c.as_slice-2.result.now
    c.args.found.now c.add_firsts.new.found c.add_behind_prefixes.new.found prefixes firsts
    c.in_ok-add_firsts.ensures.adds)
    c.add_behind_prefixes.ensures.adds
