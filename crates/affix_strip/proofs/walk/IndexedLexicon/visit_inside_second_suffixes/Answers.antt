-- There is no second suffix, or all first suffixes are tried that may have made the word.
use Rattle.std.proofs.Common.{rules}
use Rattle.affix_strip.proofs.ShowLemmas.{shows-none, answer-same}
use Rattle.affix_strip.proofs.FoundLemmas.{firsts-passing, no-seconds}
use Rattle.affix_strip.proofs.walk.IndexedLexicon.visit_inside_second_suffixes.Goals as goal

pub returns-then-is_empty : goal.returns-then-is_empty
returns-then-is_empty g c =
    shows-none (no-seconds c.args.self.now.lexicon c.args.prefixes.now c.args.seconds.now
    c.args.inner.now (search rules))

pub returns : goal.returns
returns g c =
    answer-same _ _ c.visit_first_suffix_groups.result
    (firsts-passing c.undoing_leads_back.ensures c.args.self.now.lexicon c.args.prefixes.now
    c.args.seconds.now c.args.inner.now c.as_slice.result.now (search rules))
    c.visit_first_suffix_groups.ensures
