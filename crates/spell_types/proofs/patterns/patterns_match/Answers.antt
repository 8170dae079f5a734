-- Each law is a lemma.
use Rattle.spell_types.proofs.PatternLemmas.{matches-one_by_one, matches-relation, relation-matches}
use Rattle.spell_types.proofs.patterns.patterns_match.Goals as goal

pub returns-clause-one_by_one : goal.returns-clause-one_by_one
returns-clause-one_by_one c = matches-one_by_one

pub returns-clause-related : goal.returns-clause-related
returns-clause-related c =
    λ pattern sets. (matches-relation pattern sets, relation-matches pattern sets)
