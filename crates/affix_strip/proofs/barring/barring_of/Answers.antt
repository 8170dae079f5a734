-- No entry is forbidden, or none that is has a flag of a class.
use Rattle.std.proofs.Common.{rules}
use Rattle.affix_strip.proofs.BarringLemmas.{nowhere, at-entries}
use Rattle.affix_strip.proofs.barring.barring_of.Goals as goal

pub returns-then-not-one_is_forbidden : goal.returns-then-not-one_is_forbidden
returns-then-not-one_is_forbidden c = nowhere c.args.lexicon.now (search rules)

pub returns : goal.returns
returns c =
    at-entries c.args.lexicon.now c.in_ok-classes.classes c.sets_have_their_flags.ensures.told
    (search rules) (search rules)
