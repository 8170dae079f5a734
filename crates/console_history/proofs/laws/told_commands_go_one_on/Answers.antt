-- By how many events were counted.
use Rattle.console_history.proofs.OneOn.{checks-one, command-one, looked-one, looks-one}
use Rattle.console_history.proofs.OneOn.{publishes-one, self-one}
use Rattle.console_history.proofs.Stretches.{CoreLaws}
use Rattle.console_history.proofs.laws.told_commands_go_one_on.Goals as goal

pub returns : goal.returns
returns c =
    let laws : CoreLaws = record {
      quiet = c.workers_keep_texts.ensures.none_asked;
      keeps = c.workers_keep_texts.ensures.run;
      apart = λ board front back. (c.runs_go_on.ensures.steps board front back).0;
      last = c.runs_go_on.ensures.last;
      asked = c.numbers_add_up.ensures.asked_of;
      asked_one = c.numbers_add_up.ensures.one_asked_of;
    } in record {
      command = command-one laws;
      same = self-one laws;
      looks = looks-one laws;
      publishes = publishes-one laws;
      checks = checks-one laws;
      looked = looked-one laws;
    }
