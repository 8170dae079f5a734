-- A pair is one of those that lines load, once, and where it is first named.
use Rattle.team_script.proofs.NameLemmas.{named-pairs, once-pairs, begins-pairs}
use Rattle.team_script.proofs.laws.pairs_are_named_once.Goals as goal

pub returns-clause-named : goal.returns-clause-named
returns-clause-named c =
    named-pairs c.commands_have_their_lines.ensures.lines c.commands_have_their_lines.ensures.never_blank

pub returns-clause-once : goal.returns-clause-once
returns-clause-once c = once-pairs

pub returns-clause-in_order : goal.returns-clause-in_order
returns-clause-in_order c = begins-pairs
