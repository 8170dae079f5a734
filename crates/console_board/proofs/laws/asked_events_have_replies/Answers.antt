-- By the refusals that an event that is asked for may meet.
use Rattle.console_board.proofs.ConsoleCommands.{has-reply}
use Rattle.console_board.proofs.laws.asked_events_have_replies.Goals as goal

pub returns-clause-replied : goal.returns-clause-replied
returns-clause-replied c = has-reply
