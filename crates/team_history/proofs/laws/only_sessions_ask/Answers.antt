-- By the numbers of the eyes.
use Rattle.team_history.proofs.Askers.{theirs-asked}
use Rattle.team_history.proofs.laws.only_sessions_ask.Goals as goal

pub returns : goal.returns
returns c = theirs-asked
