-- The history begins with what the eye knows, and has as many events as the eye counts.
use Rattle.std.proofs.Common.{◌∙◌, sym, ap, subst, List}
use Rattle.board_share.specs.edit_core.Runs.{Entry, events_asked_by}
use Rattle.team_history.specs.ToldBy.{AreToldIn}
use Rattle.team_history.proofs.Cuts.{cut-in}
use Rattle.team_history.proofs.laws.closed_sessions_are_told.Goals as goal

pub returns : goal.returns
returns c session commands replies eye history heard has = record {
  cut = subst
      (λ (entries : List Entry). AreToldIn session history.opening entries commands replies)
      has.begins.1
      (cut-in session history.opening eye.run.entries has.begins.0 commands replies heard.cut);
  no_more = ap (λ by. events_asked_by by history.entries) (sym heard.number) ∙ has.events
      ∙ heard.counted;
}
