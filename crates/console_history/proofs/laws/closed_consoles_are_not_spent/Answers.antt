-- By how far few events lead.
use Rattle.console_history.proofs.Endings.{not-spent}
use Rattle.console_history.proofs.laws.closed_consoles_are_not_spent.Goals as goal

pub returns : goal.returns
returns c given eye eyes history theirs numbers count among number alone empty few =
    not-spent c.fronts_are_runs.ensures.front c.runs_are_short.ensures.run
    c.numbers_add_up.ensures.front_asked_of {given = given}
    (record {
      theirs = theirs;
      numbers = numbers;
      count = count;
      among = among;
      number = number;
      alone = alone;
    })
    empty few
