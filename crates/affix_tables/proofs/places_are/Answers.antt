-- What the look-ups give.
use Rattle.affix_tables.proofs.LawLemmas.{suffix-members, prefix-members, suffixes-rise}
use Rattle.affix_tables.proofs.LawLemmas.{prefixes-rise}
use Rattle.affix_tables.proofs.places_are.Goals as goal

pub returns-clause-suffixes : goal.returns-clause-suffixes
returns-clause-suffixes c = suffix-members

pub returns-clause-prefixes : goal.returns-clause-prefixes
returns-clause-prefixes c = prefix-members

pub returns-clause-suffixes_rise : goal.returns-clause-suffixes_rise
returns-clause-suffixes_rise c = suffixes-rise

pub returns-clause-prefixes_rise : goal.returns-clause-prefixes_rise
returns-clause-prefixes_rise c = prefixes-rise
