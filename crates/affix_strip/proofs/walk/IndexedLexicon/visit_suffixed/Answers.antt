-- First those with a first suffix alone, then those with a second one.
use Rattle.std.proofs.Common.{inl}
use Rattle.affix_strip.proofs.ShowLemmas.{shows-end, answer-then}
use Rattle.affix_strip.proofs.walk.IndexedLexicon.visit_suffixed.Goals as goal

pub returns-then-branch : goal.returns-then-branch
returns-then-branch g c =
    shows-end (λ d first. inl first) c.in_ok-visit_first_suffix_groups.ensures c.if-branch.true

pub returns : goal.returns
returns g c =
    answer-then _ c.visit_second_suffix_groups.result (λ d. (λ e. e, λ e. e)) c.in_ok-visit_first_suffix_groups.ensures
    c.if-branch.false c.visit_second_suffix_groups.ensures
