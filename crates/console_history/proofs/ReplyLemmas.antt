-- A console whose commands are followed in a history replies as one that knows no workers.
use Rattle.std.proofs.Common.{◌≡◌, ◌∙◌, refl, sym, ap, subst, inl, inr, ℕ, true, List, [], ◌∷◌}
use Rattle.std.proofs.Common.{◌++◌, length, Option, None, Some, Result, Ok, Err}
use Rattle.outside.specs.Files.{Folder}
use Rattle.spell_types.specs.declared.Lexicon.{Lexicon}
use Rattle.personal_words.specs.declared.items.OwnItem.{OwnItem}
use Rattle.personal_words.specs.declared.faults.OwnLineWhy.{OwnLineWhy}
use Rattle.personal_words.specs.Lists.{added}
use Rattle.personal_words.specs.Dictionaries.{OwnSeen, in_force}
use Rattle.dictionary_swap.specs.Loads.{lexicon_due}
use Rattle.dictionary_swap.specs.declared.fault.LoadFault.{LoadFault}
use Rattle.board_share.specs.edit_core.Events.{SeenEvent, ALoad}
use Rattle.board_share.specs.edit_core.Runs.{AreQuiet, AreSteps, Entry, last_board}
use Rattle.board_share.specs.edit_core.Seen.{IsValidBoard, Seen}
use Rattle.board_share.specs.edit_core.Steps.{Step, first_refusal}
use Rattle.board_share.specs.edit_core.declared.refusal.Refusal.{Refusal}
use Rattle.console_lang.specs.declared.command.Command.{Command}
use Rattle.console_lang.specs.declared.command.Command.TheVariants.{Ins, Put, Sub, Del, Load, Stop}
use Rattle.console_lang.specs.declared.command.Command.TheVariants.{Ask, Own, Show, Settle, Quit}
use Rattle.console_lang.specs.declared.reply.Reply.{Reply}
use Rattle.console_lang.specs.declared.reply.Reply.TheVariants.{Dict, Done, NoPlace}
use Rattle.console_board.specs.BoardAnswers.{PutsWhole, event_for, look_reply, names_place}
use Rattle.console_board.specs.BoardAnswers.{reply_for}
use Rattle.console_board.specs.Boards.{console_of, own_console_of}
use Rattle.console_board.specs.Consoles.{console_after_load, shown}
use Rattle.console_board.specs.OwnConsoles.{OwnConsole, load_outcome, own_outcome}
use Rattle.console_board.specs.OwnConsoles.{put_in_force}
use Rattle.console_board.specs.Transcripts.{Answers, HasOutcome, HasOwnOutcome, IsMeanwhile}
use Rattle.console_board.specs.Transcripts.{IsOwnReplyTo, IsReplyTo, IsReplyToAsked, LoadsFiles}
use Rattle.console_history.specs.Followed.{AreBetween, Follows, Given, IsBaseFollowed, IsFollowed}
use Rattle.console_history.specs.Followed.{IsFollowedOne, IsItemFollowed, IsLoadFollowed}
use Rattle.console_history.specs.Followed.{IsOwnEvent, IsPlaceFollowed, IsReload}
use Rattle.console_history.specs.Followed.{IsConsoleSettledIn}
use Rattle.console_history.specs.Followed.{Due, FilesFailed, Taken, NoSuchPlace, TurnedDown}
use Rattle.console_history.proofs.QuietLemmas.{WorkersKeepTexts, meanwhile, nothing-meanwhile}
use Rattle.console_history.proofs.SettleLemmas.{IdsArePlaces, RunsAreApart, RunsAreValid}
use Rattle.console_history.proofs.SettleLemmas.{RunsHaveLast, settled-last}

-- what is said of every board and every history
pub record Known : Type 0 where
  pub keeps : WorkersKeepTexts
  pub apart : RunsAreApart
  pub ends : RunsHaveLast
  pub one : (board : Seen) (entries : List Entry) (entry : Entry)
      → last_board board (entries ++ entry ∷ []) ≡ entry.board
  pub goes : RunsAreValid
  pub ids : IdsArePlaces
  pub taken : (by : ℕ) (before after : Seen) (command : Command) (event : SeenEvent)
      → IsValidBoard before → event_for by before command ≡ Some event → Step before event after
      → IsReplyTo (console_of before) command (Done after.text_version) (console_of after)
  pub refused : (by : ℕ) (board : Seen) (command : Command) (event : SeenEvent)
      (refusal : Refusal) (reply : Reply) → IsValidBoard board → PutsWhole board command
      → event_for by board command ≡ Some event → first_refusal board event ≡ Some refusal
      → reply_for refusal ≡ Some reply
      → IsReplyTo (console_of board) command reply (console_of board)
  pub no_place : (by : ℕ) (board : Seen) (command : Command) → names_place command ≡ true
      → event_for by board command ≡ None
      → IsReplyTo (console_of board) command (NoPlace (length board.paragraphs)) (console_of board)
  pub loaded_is : (before after : Seen) (lexicon : Lexicon) → Step before (ALoad lexicon) after
      → HasOutcome (console_after_load (console_of before) lexicon) (Dict after.dict_version)
      (console_of after)
  pub shown_is : (board : Seen) → look_reply board ≡ (shown (console_of board)).reply

-- a command of which the dictionary is no matter leaves it
beside-replies : (told : Option Folder) (dictionary : OwnSeen) (before after : Seen)
    (command : Command) (reply : Reply)
    → IsReplyTo (console_of before) command reply (console_of after)
    → IsOwnReplyTo told (own_console_of dictionary before) command reply
    (own_console_of dictionary after)
unfolding IsReplyTo IsOwnReplyTo
beside-replies told dictionary before after (Load aff dic) reply is = absurd is
beside-replies told dictionary before after (Own text) reply is = absurd is
beside-replies told dictionary before after _ reply is = (is, refl)

-- some of what waits is finished, and then the console does this
record Replies (workers : ℕ) (before : OwnSeen) (board : Seen) (does : OwnConsole → Type 0) : Type
    0 where
  ready : Seen
  waits : IsMeanwhile workers (own_console_of before board) (own_console_of before ready)
  replies : does (own_console_of before ready)

does-so : {workers : ℕ} {before : OwnSeen} {board : Seen} {does other : OwnConsole → Type 0}
    → ((ready : Seen) → does (own_console_of before ready) → other (own_console_of before ready))
    → Replies workers before board does → Replies workers before board other
does-so so is = record { ready = is.ready; waits = is.waits; replies = so is.ready is.replies }

module _ (known : Known) (given : Given) (board : Seen) (part : List Entry)
    (valid : IsValidBoard board) (steps : AreSteps board part) where
  abbrev last : Seen
  last = last_board board part

  -- nothing is published, and what is replied leaves the console
  stays : (does : OwnConsole → OwnConsole → Type 0) (before after : OwnSeen)
      → AreBetween given.workers part → after ≡ before
      → does (own_console_of before last) (own_console_of before last)
      → Replies given.workers before board (λ ready. does ready (own_console_of after last))
  stays does before after are same is = record {
    ready = last;
    waits = meanwhile given.workers before board part known.keeps steps are;
    replies =
        subst (λ d. does (own_console_of before last) (own_console_of d last)) (sym same) is;
  }

  -- ---- an event of the console

  -- it is a step from the board before it to the last one
  module _ (own : IsOwnEvent given part) where
    abbrev ready-board : Seen
    ready-board = last_board board own.between

    own-steps : AreSteps board own.between × AreSteps ready-board (own.entry ∷ [])
    own-steps =
        known.apart board own.between (own.entry ∷ [])
        (subst (AreSteps board) own.part_is steps)

    own-last : last ≡ own.entry.board
    own-last = ap (last_board board) own.part_is ∙ known.one board own.between own.entry

    own-valid : IsValidBoard ready-board
    own-valid = known.goes board own.between valid own-steps.0

    -- what is replied behind what came between
    publishes : (does : OwnConsole → OwnConsole → Type 0) (before after : OwnSeen)
        → does (own_console_of before ready-board) (own_console_of after own.entry.board)
        → Replies given.workers before board (λ ready. does ready (own_console_of after last))
    publishes does before after is = record {
      ready = ready-board;
      waits = meanwhile given.workers before board own.between known.keeps own-steps.0
          own.are_between;
      replies = subst (λ b. does (own_console_of before ready-board) (own_console_of after b))
          (sym own-last) is;
    }

  -- ---- commands that name a place

  place-replies : (before after : OwnSeen) (command : Command) (reply : Reply)
      → names_place command ≡ true → after ≡ before
      → IsPlaceFollowed given command board part reply
      → Replies given.workers before board
      (λ ready. IsOwnReplyTo given.folder ready command reply (own_console_of after last))
  place-replies before after command reply named same (Taken is) =
      let own = is.is_own in
      let ready = ready-board own in
      let entry = own.entry in
      publishes own
      (λ one next. IsOwnReplyTo given.folder one command reply next) before after
      (subst (λ d. IsOwnReplyTo given.folder (own_console_of before ready) command reply
      (own_console_of d entry.board)) (sym same)
      (beside-replies given.folder before ready entry.board command reply
      (subst (λ told. IsReplyTo (console_of ready) command told (console_of entry.board))
      (sym is.replied)
      (known.taken given.session ready entry.board command entry.event (own-valid own)
      is.event_is (own-steps own).1.0))))
  place-replies before after command reply named same (NoSuchPlace is) =
      stays (λ one next. IsOwnReplyTo given.folder one command reply next) before after
      is.are_between same
      (beside-replies given.folder before last last command reply
      (subst (λ told. IsReplyTo (console_of last) command told (console_of last))
      (sym is.replied) (known.no_place given.session last command named is.none)))
  place-replies before after command reply named same (TurnedDown is) =
      stays (λ one next. IsOwnReplyTo given.folder one command reply next) before after
      is.are_between same
      (beside-replies given.folder before last last command reply
      (known.refused given.session last command is.event is.refusal reply
      (known.goes board part valid steps) is.whole is.event_is is.first is.reply_is))

  -- ---- dictionaries

  -- a dictionary comes into force
  reload-replies : (before after made : OwnSeen) (reply : Reply) → after ≡ made
      → IsReload given after board part reply
      → Replies given.workers before board
      (λ ready. HasOwnOutcome (put_in_force ready made.base made.own) reply
      (own_console_of after last))
  reload-replies before after made reply same is =
      let own = is.is_own in
      let ready = ready-board own in
      let entry = own.entry in
      let step = subst (λ event. Step ready event entry.board) is.event_is
      (own-steps own).1.0 in
      let outcome = known.loaded_is ready entry.board (in_force after) step in
      publishes own
      (λ one next. HasOwnOutcome (put_in_force one made.base made.own) reply next)
      before after
      (subst (λ (d : OwnSeen). HasOwnOutcome
      (put_in_force (own_console_of before ready) d.base d.own) reply
      (own_console_of after entry.board)) same (
        is.replied ∙ outcome.0,
        (λ i. record { console = outcome.1 i; base = after.base; own = after.own }),
      ))

  base-replies : (before after : OwnSeen) (due : Result Lexicon LoadFault) (reply : Reply)
      → IsBaseFollowed given before due board part after reply
      → Replies given.workers before board
      (λ ready. HasOwnOutcome (load_outcome ready due) reply (own_console_of after last))
  base-replies before after (Ok base) reply is =
      does-so (λ ready outcome. outcome)
      (reload-replies before after (record before { base = base }) reply is.0 is.1)
  base-replies before after (Err fault) reply is =
      stays (λ one next. HasOwnOutcome (load_outcome one (Err fault)) reply next) before
      after is.0 is.1.0 (is.1.1, refl)

  load-replies : (before after : OwnSeen) (aff dic : List ℕ) (reply : Reply)
      → IsLoadFollowed given aff dic before board part after reply
      → Replies given.workers before board
      (λ ready. LoadsFiles given.folder ready aff dic reply (own_console_of after last))
  load-replies before after aff dic reply (Due there is_there is) =
      does-so (λ ready outcome. inl (there, is_there, outcome))
      (base-replies before after (lexicon_due there) reply is)
  load-replies before after aff dic reply (FilesFailed are same is) =
      stays (λ one next. LoadsFiles given.folder one aff dic reply next) before after are same
      (inr (is, refl))

  item-replies : (before after : OwnSeen) (due : Result (Option OwnItem) OwnLineWhy)
      (reply : Reply) → IsItemFollowed given before due board part after reply
      → Replies given.workers before board
      (λ ready. HasOwnOutcome (own_outcome ready due) reply (own_console_of after last))
  item-replies before after (Ok None) reply is =
      stays (λ one next. HasOwnOutcome (own_outcome one (Ok None)) reply next) before
      after is.0 is.1.0 (is.1.1, refl)
  item-replies before after (Ok (Some item)) reply is =
      does-so (λ ready outcome. outcome)
      (reload-replies before after (record before { own = before.own ++ item ∷ [] }) reply is.0
      is.1)
  item-replies before after (Err why) reply is =
      stays (λ one next. HasOwnOutcome (own_outcome one (Err why)) reply next) before
      after is.0 is.1.0 (is.1.1, refl)

  -- ---- what is shown and settled

  show-replies : (before after : OwnSeen) (reply : Reply) → AreBetween given.workers part
      → after ≡ before → reply ≡ look_reply last
      → Replies given.workers before board
      (λ ready. IsOwnReplyTo given.folder ready Show reply (own_console_of after last))
  unfolding IsOwnReplyTo IsReplyTo
  show-replies before after reply are same is =
      stays (λ one next. IsOwnReplyTo given.folder one Show reply next) before after are
      same ((is ∙ known.shown_is last, refl), refl)

  settle-replies : (before after : OwnSeen) (reply : Reply) → after ≡ before
      → IsConsoleSettledIn given board part reply
      → Replies given.workers before board
      (λ ready. IsOwnReplyTo given.folder ready Settle reply (own_console_of after last))
  unfolding IsOwnReplyTo IsReplyTo
  settle-replies before after reply same is =
      let quiet = known.keeps board part steps is.quiet in
      let one = own_console_of before board in
      let settles = settled-last known.keeps known.apart known.ends known.goes known.ids board
      is.skipped is.behind valid (subst (AreSteps board) is.part_is steps)
      (subst AreQuiet is.part_is is.quiet) is.settled in
      let there = ap (λ entries. console_of (last_board board entries)) is.part_is ∙ settles in
      record {
        ready = board;
        waits = nothing-meanwhile given.workers one;
        replies = subst
            (λ d. IsOwnReplyTo given.folder one Settle reply (own_console_of d last)) (sym same)
            ((is.replied ∙ ap (λ version. Done version) quiet.text, there), refl);
      }

  -- ---- all commands

  command-replies : (before after : OwnSeen) (command : Command) (reply : Reply)
      → IsFollowed given before command board part after reply
      → Replies given.workers before board
      (λ ready. IsOwnReplyTo given.folder ready command reply (own_console_of after last))
  unfolding IsFollowed IsOwnReplyTo
  command-replies before after (Load aff dic) reply is =
      load-replies before after aff dic reply is
  command-replies before after (Own text) reply is =
      does-so (λ ready outcome. outcome)
      (item-replies before after (added before.base.affixes before.own text) reply is)
  command-replies before after Show reply is = show-replies before after reply is.0 is.1.0 is.1.1
  command-replies before after Settle reply is = settle-replies before after reply is.0 is.1
  command-replies before after Quit reply is = absurd is
  command-replies before after (Ins place text) reply is =
      place-replies before after (Ins place text) reply refl is.0 is.1
  command-replies before after (Put place text) reply is =
      place-replies before after (Put place text) reply refl is.0 is.1
  command-replies before after (Sub place from to text) reply is =
      place-replies before after (Sub place from to text) reply refl is.0 is.1
  command-replies before after (Del place) reply is =
      place-replies before after (Del place) reply refl is.0 is.1
  command-replies before after (Stop place) reply is =
      place-replies before after (Stop place) reply refl is.0 is.1
  command-replies before after (Ask place) reply is =
      place-replies before after (Ask place) reply refl is.0 is.1

  one-replies : (before after : OwnSeen) (asked : Option Command) (reply : Reply)
      → IsFollowedOne given before asked board part after reply
      → Replies given.workers before board
      (λ ready. IsReplyToAsked given.folder ready asked reply (own_console_of after last))
  one-replies before after None reply is =
      stays (λ one next. IsReplyToAsked given.folder one None reply next) before after is.0
      is.1.0 (is.1.1, refl)
  one-replies before after (Some command) reply is =
      command-replies before after command reply is

-- ---- one command after another

pub all-reply : (known : Known) (given : Given) (before after : OwnSeen) (board : Seen)
    (entries : List Entry) (commands : List (Option Command)) (replies : List Reply)
    → IsValidBoard board → AreSteps board entries
    → Follows given before board entries commands replies after
    → (last : OwnConsole)
    × Answers given.workers given.folder (own_console_of before board) commands replies last
all-reply known given before after board entries [] replies valid steps is =
    (own_console_of before board, (is.1.0, refl))
all-reply known given before after board entries (asked ∷ more) [] valid steps is = absurd is
all-reply known given before after board entries (asked ∷ more) (reply ∷ replies) valid steps is =
    let part = is.0 in
    let rest = is.1 in
    let next = is.2 in
    let parts = known.apart board part rest (subst (AreSteps board) is.3 steps) in
    let last = last_board board part in
    let one = one-replies known given board part valid parts.0 before next asked reply is.4 in
    let behind =
    all-reply known given next after last rest more replies
    (known.goes board part valid parts.0) parts.1 is.5 in (
      behind.0,
      (
        own_console_of before one.ready,
        one.waits,
        (own_console_of next last, one.replies, behind.1),
      ),
    )
