-- There is no prefix to add; or the word has no suffix, or one or two.
use Rattle.std.proofs.Common.{rules}
use Rattle.affix_strip.proofs.ShowLemmas.{shows-none, shows-end, answer-then}
use Rattle.affix_strip.proofs.FoundLemmas.{bare-inside, all-behind, no-prefixes}
use Rattle.affix_strip.proofs.walk.IndexedLexicon.visit_behind_prefixes.Goals as goal

pub returns-then-is_empty : goal.returns-then-is_empty
returns-then-is_empty g c =
    shows-none (no-prefixes c.args.self.now.lexicon c.args.prefixes.now c.args.rest.now
    (search rules))

pub returns-then-branch : goal.returns-then-branch
returns-then-branch g c =
    shows-end (bare-inside c.args.self.now.lexicon c.args.prefixes.now c.args.rest.now)
    c.in_ok-visit_without_suffix.ensures c.if-branch.true

pub returns : goal.returns
returns g c =
    answer-then _ c.visit_suffixed.result
    (all-behind c.undoing_leads_back.ensures c.args.self.now.lexicon c.args.prefixes.now
    c.args.rest.now c.as_slice.result.now (search rules))
    c.in_ok-visit_without_suffix.ensures c.if-branch.false c.visit_suffixed.ensures
