-- Where there are no groups, none are equal.
use Rattle.std.proofs.Common.{sym, subst}
use Rattle.affix_tables.specs.Groups.{AreApart}
use Rattle.affix_tables.proofs.GroupLemmas.{none-apart}
use Rattle.affix_tables.proofs.groups_of.Goals as goal

pub returns-clause-apart : goal.returns-clause-apart
returns-clause-apart c = subst AreApart (sym c.new.ensures) none-apart
