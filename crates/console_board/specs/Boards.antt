-- A board as a console: what is left of it without ids, revs, points, and who checks.
use Rattle.std.specs.Prelude.{map}
use Rattle.edit_core.specs.Seen.{Seen}
use Rattle.edit_core.specs.declared.state.Standing.{Standing}
use Rattle.edit_core.specs.declared.state.Standing.TheVariants as standing
use Rattle.personal_words.specs.Dictionaries.{OwnSeen}
use Rattle.console_board.specs.OwnConsoles.{OwnConsole}
use Rattle.console_board.specs.Consoles.{Console, TextState, Waiting, Finished, Parked}

-- how a text stands whose paragraph stands so: what a worker holds is not checked yet
abbrev pub state_of : Standing → TextState
state_of standing.Waiting = Waiting
state_of (standing.Held worker) = Waiting
state_of standing.Parked = Parked
state_of standing.Finished = Finished

abbrev pub console_of : Seen → Console
console_of board = record {
  text_version = board.text_version;
  dict_version = board.dict_version;
  lexicon = board.lexicon;
  texts = map (λ paragraph. paragraph.text) board.paragraphs;
  states = map state_of board.standings;
}

-- a board as a console, by its base and its personal words
abbrev pub own_console_of : OwnSeen → Seen → OwnConsole
own_console_of dictionary board =
    record { console = console_of board; base = dictionary.base; own = dictionary.own }
