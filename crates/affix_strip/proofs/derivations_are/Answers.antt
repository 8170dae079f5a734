-- What all derivations of a word are.
use Rattle.affix_strip.proofs.MemberLemmas.{derivations-members}
use Rattle.affix_strip.proofs.OrderLemmas.{derivations-rise}
use Rattle.affix_strip.proofs.derivations_are.Goals as goal

pub returns-clause-members : goal.returns-clause-members
returns-clause-members c = derivations-members

pub returns-clause-rising : goal.returns-clause-rising
returns-clause-rising c = derivations-rise
