-- By whose events there are, once the desk is closed.
use Rattle.console_history.proofs.Endings.{IsClosedOver, is-history, replies-as-one}
use Rattle.console_history.proofs.Stretches.{CoreLaws}
use Rattle.console_history.proofs.laws.closed_consoles_are_followed.Goals as goal

pub returns : goal.returns
returns c given dictionary seen eye eyes history commands replies tells later apart theirs numbers
    count among number alone =
    let laws : CoreLaws = record {
      quiet = c.workers_keep_texts.ensures.none_asked;
      keeps = c.workers_keep_texts.ensures.run;
      apart = λ board front back. (c.runs_go_on.ensures.steps board front back).0;
      last = c.runs_go_on.ensures.last;
      asked = c.numbers_add_up.ensures.asked_of;
      asked_one = c.numbers_add_up.ensures.one_asked_of;
    } in
    let closed : IsClosedOver given eyes eye history = record {
      theirs = theirs;
      numbers = numbers;
      count = count;
      among = among;
      number = number;
      alone = alone;
    } in
    let through = c.numbers_add_up.ensures.all in (
      replies-as-one laws through closed dictionary seen commands replies tells later apart
          c.followed_consoles_reply.ensures,
      is-history laws through closed dictionary seen commands replies tells later apart,
    )
