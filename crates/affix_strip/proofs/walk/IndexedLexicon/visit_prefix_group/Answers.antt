-- The prefixes are the rules of the group that may be.
use Rattle.std.proofs.Common.{rules}
use Rattle.affix_strip.proofs.ShowLemmas.{answer-same}
use Rattle.affix_strip.proofs.FoundLemmas.{front-passing}
use Rattle.affix_strip.proofs.walk.IndexedLexicon.visit_prefix_group.Goals as goal

pub returns : goal.returns
returns g c =
    answer-same _ _ c.visit_behind_prefixes.result
    (front-passing c.args.self.now.lexicon c.as_slice-2.result.now c.args.front.now
    c.in_ok-rest.rest.now c.places.result.now (search rules) c.places.ensures (search rules))
    c.visit_behind_prefixes.ensures

pub returns-then-eq : goal.returns-then-eq
returns-then-eq g c =
    answer-same _ _ c.visit_groups_behind_prefixes.result
    (front-passing c.args.self.now.lexicon c.as_slice.result.now c.args.front.now
    c.in_ok-rest.rest.now c.places.result.now (search rules) c.places.ensures (search rules))
    c.visit_groups_behind_prefixes.ensures
