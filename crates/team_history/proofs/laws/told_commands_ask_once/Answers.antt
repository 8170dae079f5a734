-- By the stretch that the eye comes to know.
use Rattle.team_history.proofs.Ends.{brought-asks, plain-asks}
use Rattle.team_history.proofs.laws.told_commands_ask_once.Goals as goal

pub returns-clause-plain : goal.returns-clause-plain
returns-clause-plain c =
    plain-asks c.runs_go_on.ensures.last c.asked_events_have_replies.ensures.asked

pub returns-clause-brought : goal.returns-clause-brought
returns-clause-brought c = brought-asks
