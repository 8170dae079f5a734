-- The history is that of the sessions.
use Rattle.std.proofs.Common.{◌∙◌, ◌+◌, ◌≤◌, ◌++◌, ◌∷◌, [], ap, subst, sym, length, map}
use Rattle.std.proofs.lemmas.List.Elements.{recursion_from_All}
use Rattle.std.specs.List.{range_with_len}
use Rattle.std.specs.List.Sorted.{IsPermutation}
use Rattle.board_share.specs.Endings.{IsTheirs}
use Rattle.board_share.specs.Eyes.{EyeSeen}
use Rattle.team_forms.specs.Teamwork.{Script}
use Rattle.team_forms.proofs.Closings.{all-permuted, ended-work, is-teamwork, never-spent}
use Rattle.team_forms.proofs.Seats.{some-left, taken-off}
use Rattle.team_forms.proofs.teamwork.answer_over.Goals as goal

pub unreachable-requires : goal.unreachable-requires
unreachable-requires g c =
    some-left g.D.Naming.opening (c.args.workers + length c.args.scripts.now) c.requires.eyes
    (sym c.args.eyes.ok.0 ∙ c.in_default.ensures.cases.0)

pub answer_by-requires-clause-eyes : goal.answer_by-requires-clause-eyes
answer_by-requires-clause-eyes g c κs within =
    (taken-off g.D.Naming.opening (c.args.workers + length c.args.scripts.now) c.requires.eyes
    c.in-Some.ensures.items).0

pub close-closed-requires : goal.close-closed-requires
close-closed-requires g c =
    let spare = (taken-off g.D.Naming.opening (c.args.workers + length c.args.scripts.now)
    c.requires.eyes c.in-Some.ensures.items).1 in
    let behind = c.in_ok-eyes.ensures in
    subst (λ n. IsPermutation (range_with_len 0 n)
    (map (λ (eye : EyeSeen). eye.number) c.push.new.self.items)) (sym c.requires.parts)
    (subst (λ l. IsPermutation (range_with_len 0 (c.args.workers + length c.args.scripts.now + 1))
    (map (λ (eye : EyeSeen). eye.number) l))
    (sym (c.in_ok-push.ensures.items
    ∙ ap (λ eye. c.in_ok-eyes.field-0.eyes.items ++ eye ∷ []) spare))
    (all-permuted g.J.Judge.lexicon c.args.pairs.now g.D.Naming.opening c.args.workers
    c.args.scripts.now c.in_ok-eyes.field-0.eyes.items _ _ behind))

pub concluded-requires : goal.concluded-requires
concluded-requires g c =
    let spare = (taken-off g.D.Naming.opening (c.args.workers + length c.args.scripts.now)
    c.requires.eyes c.in-Some.ensures.items).1 in
    never-spent g.J.Judge.lexicon c.args.pairs.now g.D.Naming.opening c.args.workers
    c.args.scripts.now c.in_ok-eyes.field-0.eyes.items _ _ c.in_ok-eyes.ensures
    c.closed_sessions_are_not_spent.ensures
    (subst (λ l. IsTheirs l c.close-closed.result)
    (c.in_ok-push.ensures.items ∙ ap (λ eye. c.in_ok-eyes.field-0.eyes.items ++ eye ∷ []) spare)
    c.close-closed.ensures)
    c.requires.empty c.requires.few
    (recursion_from_All (λ (script : Script). length script.lines ≤ 16777216)
    c.args.scripts.now c.requires.short)

pub returns : goal.returns
returns g c =
    let spare = (taken-off g.D.Naming.opening (c.args.workers + length c.args.scripts.now)
    c.requires.eyes c.in-Some.ensures.items).1 in
    ended-work _ c.concluded.result c.concluded.ensures.none c.concluded.ensures.all
    (is-teamwork g.J.Judge.lexicon c.args.pairs.now g.D.Naming.opening c.args.workers
    c.args.scripts.now c.in_ok-eyes.field-0.eyes.items _ _ c.in_ok-eyes.ensures
    c.heard_sessions_go_on.ensures.start c.closed_sessions_are_told.ensures
    c.only_sessions_ask.ensures
    (subst (λ l. IsTheirs l c.close-closed.result)
    (c.in_ok-push.ensures.items ∙ ap (λ eye. c.in_ok-eyes.field-0.eyes.items ++ eye ∷ []) spare)
    c.close-closed.ensures))
