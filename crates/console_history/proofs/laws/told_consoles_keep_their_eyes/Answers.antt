-- By induction on what is asked for.
use Rattle.console_history.proofs.Following.{goes-told}
use Rattle.console_history.proofs.Stretches.{CoreLaws}
use Rattle.console_history.proofs.laws.told_consoles_keep_their_eyes.Goals as goal

pub returns : goal.returns
returns c folder session first seat commands replies tells =
    let laws : CoreLaws = record {
      quiet = c.workers_keep_texts.ensures.none_asked;
      keeps = c.workers_keep_texts.ensures.run;
      apart = λ board front back. (c.runs_go_on.ensures.steps board front back).0;
      last = c.runs_go_on.ensures.last;
      asked = c.numbers_add_up.ensures.asked_of;
      asked_one = c.numbers_add_up.ensures.one_asked_of;
    } in
    let goes = goes-told laws folder session first commands replies seat tells in
    (goes.number, goes.opening)
