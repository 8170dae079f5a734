-- The lines are those of the session.
use Rattle.std.proofs.Common.{map, subst, sym}
use Rattle.std.specs.String.{string_bytes}
use Rattle.std.proofs.lemmas.List.{length-map}
use Rattle.team_history.specs.Eyes.{AsksAtMost}
use Rattle.team_forms.specs.Sessions.{HasPerformed, IsSessionReady, MayStop, SessionSeen}
use Rattle.team_forms.proofs.Lines.{each-held, each-whole}
use Rattle.team_forms.proofs.Stops.{cut-kept, done-kept}
use Rattle.team_forms.proofs.session.TeamSessionTask.perform.Goals as goal

pub answer_all-answered-requires-clause-whole : goal.answer_all-answered-requires-clause-whole
answer_all-answered-requires-clause-whole g c =
    each-whole c.self.inside.lines.now (subst IsSessionReady (sym c.self.view_is) c.requires).whole

pub answer_all-answered-requires-clause-held : goal.answer_all-answered-requires-clause-held
answer_all-answered-requires-clause-held g c =
    each-held c.self.inside.pairs.now c.self.inside.lines.now
    (subst IsSessionReady (sym c.self.view_is) c.requires).held

pub returns : goal.returns
returns g c =
    let answered = c.answer_all-answered in
    let eye = answered.new.console.eye in
    let kept = c.err-self-inside.ensures.value in
    let new : SessionSeen g.row.J.Denot = record {
      number = c.self.inside.number;
      lines = map (λ line. line.now) c.self.inside.lines.now;
      pairs = c.self.inside.pairs.now;
      eye = eye;
      text = string_bytes answered.new.replies;
      stopped = c.err-self-inside.result;
    } in
    subst (λ old. HasPerformed g.J.Judge.lexicon old new) c.self.view_is
    (record {
      asks = subst (λ n. AsksAtMost n c.self.inside.console.eye eye)
          (sym (length-map c.self.inside.lines.now (λ line. line.now))) answered.ensures.asks;
      cut = cut-kept (MayStop eye) answered.result c.err-self-inside.result kept
          answered.ensures.cut;
      answered = done-kept answered.result c.err-self-inside.result kept
          answered.ensures.answered;
    })
