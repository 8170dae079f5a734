-- The dictionary is due, then the script, and then the pairs that it loads.
use Rattle.std.proofs.Common.{◌∙◌, IfErr, subst}
use Rattle.std.specs.Arc.{arc_value}
use Rattle.team_forms.specs.Operands.{TeamNamed}
use Rattle.team_forms.specs.TeamLoads.{IsNotLoaded, IsTeamLoaded}
use Rattle.team_forms.specs.Teams.{TeamSeen}
use Rattle.file_loading.specs.DueLaws.{failed-so}
use Rattle.team_forms.proofs.TeamLemmas.{team-loaded, team-no-base, team-no-pair, team-no-script}
use Rattle.team_forms.proofs.team.load_team.Goals as goal

pub returns-in_err-judge-clause-err : goal.returns-in_err-judge-clause-err
returns-in_err-judge-clause-err g c =
    let told = g.F.Files.told c.args.files.now in
    let result = c.from_residual.result in
    subst (λ (names : TeamNamed). IfErr result (IsNotLoaded told names)) c.names.view_is
    (failed-so (IsNotLoaded told _) result c.from_residual.ensures.1
    (team-no-base told _ c.in_err-judge.ensures.due))

pub returns-in_err-script-clause-err : goal.returns-in_err-script-clause-err
returns-in_err-script-clause-err g c =
    let told = g.F.Files.told c.args.files.now in
    let result = c.from_residual-in_err-script.result in
    subst (λ (names : TeamNamed). IfErr result (IsNotLoaded told names)) c.names.view_is
    (failed-so (IsNotLoaded told _) result c.from_residual-in_err-script.ensures.1
    (team-no-script told _ c.in_ok-judge.ensures.due
    (rw c.in_ok-judge.ensures.same at c.in_err-script.ensures.due)))

pub returns-in_err-pairs-clause-err : goal.returns-in_err-pairs-clause-err
returns-in_err-pairs-clause-err g c =
    let told = g.F.Files.told c.args.files.now in
    let result = c.from_residual-in_err-pairs.result in
    let same = c.in_ok-script.ensures.same ∙ c.in_ok-judge.ensures.same in
    subst (λ (names : TeamNamed). IfErr result (IsNotLoaded told names)) c.names.view_is
    (failed-so (IsNotLoaded told _) result c.from_residual-in_err-pairs.ensures.1
    (team-no-pair told _ c.in_ok-judge.ensures.due
    (rw c.in_ok-judge.ensures.same at c.in_ok-script.ensures.due)
    (rw (same, c.pairs.ensures.pairs) at c.in_err-pairs.ensures.err)))

pub returns-clause-ok : goal.returns-clause-ok
returns-clause-ok g c =
    let told = g.F.Files.told c.args.files.now in
    let same = c.in_ok-script.ensures.same ∙ c.in_ok-judge.ensures.same in
    let team : TeamSeen = record {
      lexicon = arc_value c.in_ok-judge.judge;
      script = c.in_ok-script.script;
    } in
    subst (λ (names : TeamNamed). IsTeamLoaded told names team c.in_ok-pairs.pairs.items)
    c.names.view_is
    (team-loaded told _ c.in_ok-judge.ensures.due
    (rw c.in_ok-judge.ensures.same at c.in_ok-script.ensures.due)
    (rw (same, c.pairs.ensures.pairs) at c.in_ok-pairs.ensures.ok))
