-- By what comes of an event that is answered.
use Rattle.std.proofs.Common.{length, refl}
use Rattle.console_lang.specs.declared.reply.Reply.TheVariants.{NoPlace}
use Rattle.console_board.proofs.ConsoleCommands.{event-refused, event-taken, no-event-does}
use Rattle.console_board.proofs.ConsoleLoads.{load-is}
use Rattle.console_board.proofs.ConsoleViews.{look-is}
use Rattle.console_board.proofs.laws.commands_are_their_events.Goals as goal

pub returns-clause-taken : goal.returns-clause-taken
returns-clause-taken c by before after command event =
    event-taken by before after command event c.ids_name_paragraphs.ensures.place
    c.events_are_decided.ensures

pub returns-clause-refused : goal.returns-clause-refused
returns-clause-refused c by board command event refusal reply =
    event-refused by board command event refusal reply c.ids_name_paragraphs.ensures.place

pub returns-clause-no_place : goal.returns-clause-no_place
returns-clause-no_place c by board command named none =
    no-event-does by board board (NoPlace (length board.paragraphs)) command named none refl refl

pub returns-clause-loaded : goal.returns-clause-loaded
returns-clause-loaded c before after lexicon = load-is {board = before}

pub returns-clause-shown : goal.returns-clause-shown
returns-clause-shown c = look-is
