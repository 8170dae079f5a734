-- There is a script for each eye.
use Rattle.std.proofs.Common.{◌≡◌, ◌∙◌, ◌+◌, ◌<◌, ap, subst, sym, length, get_or, [], ◌∷◌, ◌++◌}
use Rattle.team_forms.proofs.Seats.{ended-eyes, few-taken, length-push, seats-more, taken-below}
use Rattle.team_forms.proofs.Seats.{taken-more}
use Rattle.team_forms.proofs.teamwork.sessions_of.Goals as goal

pub loop-eye-init : goal.loop-eye-init
loop-eye-init g c = (
  c.in_ok-sessions.ensures.items,
  c.in_ok-sessions.ensures.len,
  c.into_iter-eye-iterator.ensures.into_iter_gives.0,
)

pub unreachable-requires : goal.unreachable-requires
unreachable-requires g c =
    few-taken c.args.scripts.now c.loop-eye.yielded c.loop-eye.eye-iterator.rest.items
    c.next.new.self.rest.items c.in-Some.eye c.args.eyes.items c.len-in-loop-eye.result c.requires
    c.loop-eye.invariant.2 c.in-Some.ensures.steps.0
    (c.len-in-loop-eye.ensures ∙ c.loop-eye.invariant.1) c.in_default.ensures.lookup.3

pub loop-eye-preserved : goal.loop-eye-preserved
loop-eye-preserved g c =
    let some = c.in-Some-get.ensures.lookup in
    let count : c.len-in-loop-eye.result ≡ length c.loop-eye.yielded =
    c.len-in-loop-eye.ensures ∙ c.loop-eye.invariant.1 in (
      c.in_ok-push.ensures.items
          ∙ (λ i. c.loop-eye.invariant.0 i ++ c.in_ok-session_of.ensures i ∷ [])
          ∙ sym (seats-more c.args.hall.now.pairs.now c.args.scripts.now c.loop-eye.yielded
          c.in-Some.eye c.in-Some-get.script.now
          (subst (λ n. length c.loop-eye.yielded < n) c.requires
          (taken-below c.loop-eye.yielded c.loop-eye.eye-iterator.rest.items c.args.eyes.items
          c.next.new.self.rest.items c.in-Some.eye c.loop-eye.invariant.2
          c.in-Some.ensures.steps.0))
          (subst (λ n. get_or c.args.scripts.now n c.in-Some-get.script.now
          ≡ c.in-Some-get.script.now) count (sym some.1))),
      c.in_ok-push.ensures.len ∙ ap (λ n. n + 1) c.loop-eye.invariant.1
          ∙ sym (length-push c.loop-eye.yielded c.in-Some.eye),
      taken-more c.loop-eye.yielded c.loop-eye.eye-iterator.rest.items c.args.eyes.items
          c.next.new.self.rest.items c.in-Some.eye c.loop-eye.invariant.2 c.in-Some.ensures.steps.0,
    )

pub returns : goal.returns
returns g c =
    let rest = c.loop-eye.eye-iterator.rest in
    ended-eyes c.args.hall.now.pairs.now c.args.scripts.now c.loop-eye.yielded rest.items
    c.args.eyes.items c.loop-eye.sessions.items c.loop-eye.invariant.2
    (sym rest.ok.0 ∙ c.in-None.ensures.steps.0) c.loop-eye.invariant.0
