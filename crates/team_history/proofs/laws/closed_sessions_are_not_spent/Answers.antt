-- By how far few events lead.
use Rattle.team_history.proofs.Ends.{not-spent}
use Rattle.team_history.proofs.laws.closed_sessions_are_not_spent.Goals as goal

pub returns : goal.returns
returns c =
    not-spent c.fronts_are_runs.ensures.front c.runs_are_short.ensures.run
    c.numbers_add_up.ensures.front_asked_of
