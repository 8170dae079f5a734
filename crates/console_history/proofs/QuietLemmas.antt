-- Stretches of events of workers, as a console sees them.
use Rattle.std.proofs.Common.{refl, sym, ap, inl, inr, subst, ℕ, zero, suc, List, [], ◌∷◌, ◌++◌}
use Rattle.std.proofs.Common.{map}
use Rattle.std.specs.List.{AllZip}
use Rattle.std.proofs.lemmas.Bool.{false≢true}
use Rattle.board_share.specs.paragraph_text.Paragraphs.{Paragraph}
use Rattle.personal_words.specs.Dictionaries.{OwnSeen}
use Rattle.board_share.specs.edit_core.Runs.{AreQuiet, AreSteps, Entry, IsQuiet, MayBecome}
use Rattle.board_share.specs.edit_core.Runs.{last_board}
use Rattle.board_share.specs.edit_core.Seen.{Seen}
use Rattle.board_share.specs.edit_core.declared.state.Standing.{Standing}
use Rattle.board_share.specs.edit_core.declared.state.Standing.TheVariants as standing
use Rattle.console_lang.specs.declared.command.Command.{Command}
use Rattle.console_lang.specs.declared.command.Command.TheVariants.{Put}
use Rattle.console_board.specs.BoardAnswers.{IsWholeAt, PutsWhole}
use Rattle.console_board.specs.Boards.{own_console_of, state_of}
use Rattle.console_board.specs.Consoles.{TextState, Waiting, Finished, Parked}
use Rattle.console_board.specs.OwnConsoles.{OwnConsole}
use Rattle.console_board.specs.Transcripts.{IsChecked, IsMeanwhile, MayChangeTo}
use Rattle.console_history.specs.Followed.{AreBetween}

-- what is said of every history
abbrev pub WorkersKeepTexts : Type 0
WorkersKeepTexts = (board : Seen) (entries : List Entry) → AreSteps board entries
    → AreQuiet entries → IsQuiet board (last_board board entries)

-- ---- how texts stand

-- what a worker may do to a paragraph finishes a text that waits, or does nothing
may-finish : (before after : Standing) → MayBecome before after
    → MayChangeTo (state_of before) (state_of after)
may-finish standing.Parked standing.Parked may = refl
may-finish standing.Parked _ may = absurd (false≢true may.parked)
may-finish standing.Finished standing.Finished may = refl
may-finish standing.Finished _ may = absurd (false≢true (may.finished refl))
may-finish standing.Waiting standing.Waiting may = inl refl
may-finish standing.Waiting (standing.Held worker) may = inl refl
may-finish standing.Waiting standing.Finished may = inr refl
may-finish standing.Waiting standing.Parked may = absurd (false≢true (sym may.parked))
may-finish (standing.Held worker) standing.Waiting may = inl refl
may-finish (standing.Held worker) (standing.Held other) may = inl refl
may-finish (standing.Held worker) standing.Finished may = inr refl
may-finish (standing.Held worker) standing.Parked may = absurd (false≢true (sym may.parked))

all-may-finish : (before after : List Standing) → AllZip MayBecome before after
    → AllZip MayChangeTo (map state_of before) (map state_of after)
all-may-finish [] [] may = tt
all-may-finish [] (later ∷ after) may = absurd may
all-may-finish (stands ∷ before) [] may = absurd may
all-may-finish (stands ∷ before) (later ∷ after) may =
    (may-finish stands later may.0, all-may-finish before after may.1)

stays : (state : TextState) → MayChangeTo state state
stays Waiting = inl refl
stays Finished = refl
stays Parked = refl

all-stay : (states : List TextState) → AllZip MayChangeTo states states
all-stay [] = tt
all-stay (state ∷ states) = (stays state, all-stay states)

-- ---- between two commands

-- events of workers check
quiet-checked : (dictionary : OwnSeen) (before after : Seen) → IsQuiet before after
    → IsChecked (own_console_of dictionary before) (own_console_of dictionary after)
quiet-checked dictionary before after quiet = record {
  states = map state_of after.standings;
  after_is = λ i. record {
    console = record {
      text_version = quiet.text i;
      dict_version = quiet.dict i;
      lexicon = quiet.lexicon i;
      texts = map (λ (paragraph : Paragraph). paragraph.text) (quiet.paragraphs i);
      states = map state_of after.standings;
    };
    base = dictionary.base;
    own = dictionary.own;
  };
  each = all-may-finish before.standings after.standings quiet.standings;
}

-- so between two commands so many workers check, or nothing changes where there is none
pub meanwhile : (workers : ℕ) (dictionary : OwnSeen) (board : Seen) (part : List Entry)
    → WorkersKeepTexts → AreSteps board part → AreBetween workers part
    → IsMeanwhile workers (own_console_of dictionary board)
    (own_console_of dictionary (last_board board part))
meanwhile zero dictionary board part keeps steps none =
    ap (λ entries. own_console_of dictionary (last_board board entries)) none
meanwhile (suc workers) dictionary board part keeps steps quiet =
    quiet-checked dictionary board (last_board board part) (keeps board part steps quiet)

-- nothing has to be checked
pub nothing-meanwhile : (workers : ℕ) (console : OwnConsole) → IsMeanwhile workers console console
nothing-meanwhile zero console = refl
nothing-meanwhile (suc workers) console =
    record { states = console.console.states; after_is = refl; each = all-stay _ }

-- ---- parts of a stretch

pub quiet-parts : (front rest : List Entry) → AreQuiet (front ++ rest)
    → AreQuiet front × AreQuiet rest
quiet-parts [] rest quiet = (tt, quiet)
quiet-parts (entry ∷ front) rest quiet =
    let parts = quiet-parts front rest quiet.1 in ((quiet.0, parts.0), parts.1)

-- a text that is whole characters is so behind events of workers
pub quiet-whole : (before after : Seen) (command : Command) → IsQuiet before after
    → PutsWhole before command → PutsWhole after command
quiet-whole before after (Put place text) quiet whole =
    subst (λ paragraphs. IsWholeAt (record after { paragraphs = paragraphs }) place)
    (sym quiet.paragraphs) whole
quiet-whole before after _ quiet whole = tt
