-- There is no prefix, or one of those that may have made the word.
use Rattle.std.proofs.Common.{rules, None, [], ◌∷◌}
use Rattle.affix_strip.proofs.ShowLemmas.{shows-end, shows-then, answer-then}
use Rattle.affix_strip.proofs.FoundLemmas.{all-behind, all-passing, bare-inside, none-gives}
use Rattle.affix_strip.proofs.walk.IndexedLexicon.visit_all.Goals as goal

pub returns-then-branch : goal.returns-then-branch
returns-then-branch g c =
    shows-end (λ d bare. none-gives c.args.self.now.lexicon c.args.word.now d
    (bare-inside c.args.self.now.lexicon (None ∷ []) c.args.word.now d bare))
    c.in_ok-visit_without_suffix.ensures c.if-branch.true

pub returns-then-branch-2 : goal.returns-then-branch-2
returns-then-branch-2 g c =
    shows-end (none-gives c.args.self.now.lexicon c.args.word.now)
    (shows-then
    (all-behind c.undoing_leads_back.ensures c.args.self.now.lexicon (None ∷ []) c.args.word.now
    c.as_slice-endings.result.now (search rules))
    c.in_ok-visit_without_suffix.ensures c.if-branch.false c.in_ok-visit_suffixed.ensures)
    c.if-branch-2.true

pub returns : goal.returns
returns g c =
    answer-then _ c.visit_prefix_groups.result
    (all-passing c.undoing_leads_back.ensures c.args.self.now.lexicon c.args.word.now
    c.as_slice.result.now (search rules))
    (shows-then
    (all-behind c.undoing_leads_back.ensures c.args.self.now.lexicon (None ∷ []) c.args.word.now
    c.as_slice-endings.result.now (search rules))
    c.in_ok-visit_without_suffix.ensures c.if-branch.false c.in_ok-visit_suffixed.ensures)
    c.if-branch-2.false c.visit_prefix_groups.ensures
