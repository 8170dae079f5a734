-- What the history of the desk tells is what the sessions of the script are told.
use Rattle.std.proofs.Common.{◌∙◌, subst, sym}
use Rattle.std.specs.List.{All}
use Rattle.team_forms.specs.Pairs.{IsLoaded}
use Rattle.team_forms.proofs.TeamLemmas.{work-as}
use Rattle.team_forms.proofs.team.perform.Goals as goal

pub returns-clause-work : goal.returns-clause-work
returns-clause-work g c = λ folder loaded.
    work-as c.count-count.ensures.is c.in_ok-judge.ensures
    (c.deref-2.ensures.value ∙ c.in_ok-scripts.ensures.scripts)
    (c.in_ok-texts.ensures folder
    (subst (All (IsLoaded (λ lexicon. lexicon) folder)) (sym c.deref.ensures.value) loaded))
