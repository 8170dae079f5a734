-- A rising list is in the order that the search asks for.
use Rattle.spell_types.proofs.FlagLemmas.{searched_missing}
use Rattle.spell_types.proofs.flags.search.Goals as goal

pub returns-clause-missing : goal.returns-clause-missing
returns-clause-missing c =
    searched_missing c.args.flag c.args.flags.now c.binary_search.result
    c.binary_search.ensures.position c.requires
