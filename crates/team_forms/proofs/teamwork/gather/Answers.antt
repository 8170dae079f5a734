-- One session more.
use Rattle.std.proofs.Common.{◌∙◌, sym}
use Rattle.std.specs.Option.{option_or}
use Rattle.std.specs.String.{string_bytes}
use Rattle.team_forms.proofs.Seats.{gathered-more, mapped-more, stop-more}
use Rattle.team_forms.proofs.teamwork.gather.Goals as goal

pub loop-session-preserved : goal.loop-session-preserved
loop-session-preserved g c =
    let parts = c.into_parts-eye in (
      gathered-more _ c.args.eyes.items c.loop-session.eyes.items c.push.new.self.items
          c.loop-session.yielded c.in-Some.session parts.result.0 c.loop-session.invariant.0
          c.in_ok-push.ensures.items parts.ensures.eye,
      mapped-more string_bytes _ c.loop-session.texts.items c.push-in-loop-session.new.self.items
          c.loop-session.yielded c.in-Some.session parts.result.1 c.loop-session.invariant.1
          c.in_ok-push-2.ensures.items parts.ensures.text,
      c.or-stopped.ensures
          ∙ (λ i. option_or (c.loop-session.invariant.2 i) (parts.ensures.stopped i))
          ∙ sym (stop-more c.loop-session.yielded c.in-Some.session),
    )
