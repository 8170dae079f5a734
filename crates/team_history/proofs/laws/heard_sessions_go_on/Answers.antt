-- By the stretch that the eye comes to know.
use Rattle.std.proofs.Common.{◌∙◌, ◌+◌, ℕ, List, refl, sym, ap, subst, ◌∷◌, [], ◌++◌}
use Rattle.std.specs.Prelude.{if◌then◌else◌}
use Rattle.board_share.specs.edit_core.Runs.{Entry, last_board}
use Rattle.board_share.specs.edit_core.Seen.{Seen}
use Rattle.team_history.specs.Eyes.{AreToldJust}
use Rattle.team_history.specs.ToldBy.{IsOneToldIn, is_taken}
use Rattle.team_history.proofs.Cuts.{one-more, taken-more}
use Rattle.team_history.proofs.Steps.{said-step}
use Rattle.team_history.proofs.laws.heard_sessions_go_on.Goals as goal

pub returns-clause-start : goal.returns-clause-start
returns-clause-start c session opening = record {
  number = refl;
  opening_is = refl;
  cut = (refl, refl);
  counted = refl;
}

pub returns-clause-one_more : goal.returns-clause-one_more
returns-clause-one_more c session opening commands replies old new asked reply heard said =
    let last = c.runs_go_on.ensures.last in
    let step =
    said-step last c.asked_events_have_replies.ensures.asked session old new asked reply
    heard.number said in
    let told = subst
    (λ (board : Seen). IsOneToldIn session (last_board board old.run.entries) step.part asked reply)
    heard.opening_is step.told in record {
      number = step.number ∙ heard.number;
      opening_is = step.opening ∙ heard.opening_is;
      cut = subst
          (λ (entries : List Entry). AreToldJust session opening entries (commands ++ asked ∷ [])
          (replies ++ reply ∷ [])) (sym step.entries)
          (one-more last session opening old.run.entries step.part commands replies asked reply
          heard.cut told);
      counted = step.counts
          ∙ ap (λ (n : ℕ). n + (if is_taken asked reply then 1 else 0)) heard.counted
          ∙ sym (taken-more session opening old.run.entries commands replies asked reply heard.cut);
    }
