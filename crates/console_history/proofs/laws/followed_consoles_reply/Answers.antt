-- By induction on what is asked for.
use Rattle.console_history.proofs.ReplyLemmas.{all-reply}
use Rattle.console_history.proofs.laws.followed_consoles_reply.Goals as goal

pub returns : goal.returns
returns c = all-reply (record {
  keeps = c.workers_keep_texts.ensures.run;
  apart = λ board front back. (c.runs_go_on.ensures.steps board front back).0;
  ends = c.runs_go_on.ensures.last;
  one = c.runs_go_on.ensures.one;
  goes = c.runs_go_on.ensures.valid;
  ids = c.ids_name_paragraphs.ensures.place;
  taken = c.commands_are_their_events.ensures.taken;
  refused = c.commands_are_their_events.ensures.refused;
  no_place = c.commands_are_their_events.ensures.no_place;
  loaded_is = c.commands_are_their_events.ensures.loaded;
  shown_is = c.commands_are_their_events.ensures.shown;
})
