-- By how many events an eye counts, beside how many it knows.
use Rattle.std.proofs.Common.{◌≡◌, sym, subst}
use Rattle.std.specs.List.{AllByRecursion}
use Rattle.board_share.specs.edit_core.Runs.{Entry}
use Rattle.board_share.specs.Eyes.{fresh_eye}
use Rattle.console_history.specs.Told.{Seat}
use Rattle.console_history.proofs.Counting.{all-counted}
use Rattle.console_history.proofs.Endings.{follows-all}
use Rattle.console_history.proofs.Following.{follows-behind, goes-told, told-more}
use Rattle.console_history.proofs.Stretches.{CoreLaws}
use Rattle.console_history.proofs.laws.told_consoles_are_followed.Goals as goal

pub returns-clause-one_more : goal.returns-clause-one_more
returns-clause-one_more c folder session first seat next commands replies asked reply =
    told-more folder session first seat next commands replies asked reply

pub returns-clause-followed : goal.returns-clause-followed
returns-clause-followed c given opening dictionary after commands replies tells run asked all
    counted =
    let laws : CoreLaws = record {
      quiet = c.workers_keep_texts.ensures.none_asked;
      keeps = c.workers_keep_texts.ensures.run;
      apart = λ board front back. (c.runs_go_on.ensures.steps board front back).0;
      last = c.runs_go_on.ensures.last;
      asked = c.numbers_add_up.ensures.asked_of;
      asked_one = c.numbers_add_up.ensures.one_asked_of;
    } in
    let first : Seat =
    record { eye = fresh_eye opening given.by; dictionary = dictionary } in
    let goes = goes-told laws given.folder given.session first commands replies after tells in
    follows-all laws given opening dictionary after commands replies tells
    (record {
      asked = asked;
      all = all;
      own = λ none. subst
          (λ n. AllByRecursion (λ (entry : Entry). entry.by ≡ n) after.eye.run.entries)
          (sym goes.number)
          (all-counted c.kinds_add_up.ensures.by given.by after.eye.run.entries
          after.eye.counts (counted none) (all none));
      steps = run.steps;
    })

pub returns-clause-behind : goal.returns-clause-behind
returns-clause-behind c = follows-behind
