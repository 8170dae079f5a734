-- No rule of the group may be a second suffix; or the second suffixes are those that may be.
use Rattle.std.proofs.Common.{rules}
use Rattle.affix_strip.proofs.ShowLemmas.{shows-none, answer-same}
use Rattle.affix_strip.proofs.FoundLemmas.{no-outer, outer-passing}
use Rattle.affix_strip.proofs.walk.IndexedLexicon.visit_second_suffix_group.Goals as goal

pub returns-then-not-one_may_be_outer : goal.returns-then-not-one_may_be_outer
returns-then-not-one_may_be_outer g c =
    shows-none (no-outer c.args.self.now c.args.prefixes.now c.args.ending.now c.requires
    (search rules))

pub returns : goal.returns
returns g c =
    answer-same _ _ c.visit_inside_second_suffixes.result
    (outer-passing c.args.self.now c.args.prefixes.now c.as_slice.result.now c.args.ending.now
    c.in_ok-inner.inner.now c.places-2.result.now (search rules) c.places-2.ensures c.requires
    (search rules))
    c.visit_inside_second_suffixes.ensures
