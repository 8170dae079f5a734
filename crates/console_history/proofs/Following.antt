-- A console that is told is followed.
use Rattle.std.proofs.Common.{◌≡◌, ◌∙◌, refl, sym, ap, subst, ℕ, zero, suc, List, [], ◌∷◌, ◌++◌}
use Rattle.std.proofs.Common.{Option, None, Some, append_assoc, append-nil}
use Rattle.std.specs.Prelude.{Result, Ok, Err}
use Rattle.std.specs.List.{AllByRecursion}
use Rattle.outside.specs.Files.{Folder}
use Rattle.spell_types.specs.declared.Lexicon.{Lexicon}
use Rattle.personal_words.specs.declared.items.OwnItem.{OwnItem}
use Rattle.personal_words.specs.declared.faults.OwnLineWhy.{OwnLineWhy}
use Rattle.personal_words.specs.Lists.{added}
use Rattle.personal_words.specs.Dictionaries.{OwnSeen, in_force}
use Rattle.dictionary_swap.specs.Loads.{lexicon_due}
use Rattle.dictionary_swap.specs.declared.fault.LoadFault.{LoadFault}
use Rattle.board_share.specs.edit_core.Events.{ALoad}
use Rattle.board_share.specs.edit_core.Runs.{AreQuiet, Entry, last_board}
use Rattle.board_share.specs.edit_core.Seen.{Seen}
use Rattle.board_share.specs.Eyes.{EyeSeen, last_of}
use Rattle.board_share.specs.Settled.{AreClosedIn}
use Rattle.console_lang.specs.declared.command.Command.{Command}
use Rattle.console_lang.specs.declared.command.Command.TheVariants.{Load, Own, Quit}
use Rattle.console_lang.specs.declared.command.Command.TheVariants.{Settle, Show}
use Rattle.console_lang.specs.declared.reply.Reply.{Reply}
use Rattle.console_lang.specs.declared.reply.Reply.TheVariants.{Done, Dict}
use Rattle.console_board.specs.BoardAnswers.{look_reply}
use Rattle.console_history.specs.Followed.{AreBetween, Follows, Given, IsBaseFollowed, IsFollowed}
use Rattle.console_history.specs.Followed.{IsFollowedOne, IsItemFollowed, IsReload}
use Rattle.console_history.specs.Followed.{IsConsoleSettledIn}
use Rattle.console_history.specs.Followed.{Due, FilesFailed}
use Rattle.console_history.specs.Told.{Due as WasDue, FilesFailed as DidFail, IsBaseTold}
use Rattle.console_history.specs.Told.{IsItemTold, IsReloadTold, IsToldOne, IsToldTo}
use Rattle.console_history.specs.Told.{Looks, Seat, Settles, Told}
use Rattle.console_history.proofs.Stretches.{CoreLaws, idle-between, idle-nil}
use Rattle.console_history.proofs.Counting.{GoesOn, HasCounted, HasNoMore, StretchOf, TakesOwn}
use Rattle.console_history.proofs.Counting.{counted-on, followed-as, goes-looks, goes-publishes}
use Rattle.console_history.proofs.Counting.{goes-self, goes-settles, goes-trans, last-on, looks-in}
use Rattle.console_history.proofs.Counting.{no-more-before, own-on, publishes-own, settles-none}
use Rattle.console_history.proofs.Places.{goes-place, place-told}

-- the stretch that an eye came to know by what was asked for
abbrev pub Stretch : Given → OwnSeen → Option Command → EyeSeen → Seat → Reply → Type 0
Stretch given before asked old next reply =
    StretchOf old next.eye
    (λ part. IsFollowedOne given before asked (last_of old.run) part next.dictionary reply)

module _ (laws : CoreLaws) where
  -- ---- an eye goes on
  goes-reload : (old : EyeSeen) (after : Seat) (reply : Reply) → IsReloadTold old after reply
      → GoesOn old after.eye
  goes-reload old after reply reload =
      goes-publishes laws (ALoad (in_force after.dictionary)) old after.eye reload.told refl
      reload.publishes

  goes-same : (before after : Seat) → after ≡ before → GoesOn before.eye after.eye
  goes-same before after same =
      goes-self laws before.eye after.eye (ap (λ (seat : Seat). seat.eye) same)

  goes-base : (before : Seat) (due : Result Lexicon LoadFault) (after : Seat) (reply : Reply)
      → IsBaseTold before due after reply → GoesOn before.eye after.eye
  goes-base before (Ok base) after reply tells = goes-reload before.eye after reply tells.1
  goes-base before (Err fault) after reply tells = goes-same before after tells.0

  goes-item : (before : Seat) (item : Result (Option OwnItem) OwnLineWhy) (after : Seat)
      (reply : Reply) → IsItemTold before item after reply → GoesOn before.eye after.eye
  goes-item before (Ok None) after reply tells =
      goes-looks laws before.eye after.eye tells.1.0
  goes-item before (Ok (Some item)) after reply tells =
      goes-reload before.eye after reply tells.1
  goes-item before (Err why) after reply tells = goes-same before after tells.0

  pub goes-to : (told : Option Folder) (session : ℕ) (before : Seat) (command : Command)
      (after : Seat) (reply : Reply) → IsToldTo told session before command after reply
      → GoesOn before.eye after.eye
  unfolding IsToldTo
  goes-to told session before (Load aff dic) after reply (WasDue there is tells) =
      goes-base before (lexicon_due there) after reply tells
  goes-to told session before (Load aff dic) after reply (DidFail same replied) =
      goes-same before after same
  goes-to told session before (Own text) after reply tells =
      goes-item before (added before.dictionary.base.affixes before.dictionary.own text) after
      reply tells
  goes-to told session before Show after reply tells =
      goes-looks laws before.eye after.eye tells.0.1
  goes-to told session before Settle after reply tells =
      goes-settles laws before.eye after.eye tells.0.1
  goes-to told session before Quit after reply tells = absurd tells
  goes-to told session before command after reply tells =
      goes-place laws session command before.eye after.eye reply tells.1

  goes-one : (told : Option Folder) (session : ℕ) (before : Seat) (asked : Option Command)
      (after : Seat) (reply : Reply) → IsToldOne told session before asked after reply
      → GoesOn before.eye after.eye
  goes-one told session before None after reply tells = goes-same before after tells.0
  goes-one told session before (Some command) after reply tells =
      goes-to told session before command after reply tells

  pub goes-told : (told : Option Folder) (session : ℕ) (before : Seat)
      (commands : List (Option Command)) (replies : List Reply) (after : Seat)
      → Told told session before commands replies after → GoesOn before.eye after.eye
  goes-told told session before [] replies after tells = goes-same before after tells.1
  goes-told told session before (asked ∷ more) [] after tells = absurd tells
  goes-told told session before (asked ∷ more) (reply ∷ replies) after tells =
      goes-trans laws before.eye tells.0.eye after.eye
      (goes-one told session before asked tells.0 reply tells.1)
      (goes-told told session tells.0 more replies after tells.2)

  module _ (given : Given) where
    nothing-between : AreBetween given.workers []
    nothing-between = idle-between laws given.workers [] (idle-nil given.workers)

    same-entries : (before after : Seat) → after ≡ before
        → after.eye.run.entries ≡ before.eye.run.entries ++ []
    same-entries before after same =
        ap (λ (seat : Seat). seat.eye.run.entries) same
        ∙ sym (append-nil before.eye.run.entries)

    -- a look, whose reply is one of the last board
    looked : (old new : EyeSeen) (reply : Reply) (says : Seen → Reply) → Looks old new
        → HasCounted old → HasNoMore given.workers new → reply ≡ says (last_of new.run)
        → StretchOf old new (λ part. AreBetween given.workers part
        × (reply ≡ says (last_board (last_of old.run) part)))
    looked old new reply says looks least most replied =
        let past = looks-in laws given.workers old new looks least most in record {
          part = past.part;
          entries = past.entries;
          followed = (
            idle-between laws given.workers past.part past.idle,
            replied
                ∙ ap says (last-on laws old new past.part past.opening past.entries),
          );
        }

    -- ---- dictionaries
    reloaded : (old : EyeSeen) (after : Seat) (reply : Reply) → IsReloadTold old after reply
        → HasCounted old → HasNoMore given.workers after.eye → old.number ≡ given.by
        → StretchOf old after.eye (λ part. IsReload given after.dictionary (last_of old.run)
        part reply)
    reloaded old after reply reload least most number =
        let event = ALoad (in_force after.dictionary) in
        let own : TakesOwn given.workers event old after.eye reload.told =
        publishes-own laws given.workers event old after.eye reload.told refl
        reload.publishes least most in
        let entry : Entry =
        record { by = old.number; event = event; board = own.board } in record {
          part = own.between ++ entry ∷ [];
          entries = own.entries;
          followed = record {
            is_own = record {
              between = own.between;
              are_between = idle-between laws given.workers own.between own.idle;
              entry = entry;
              part_is = refl;
              own = number;
            };
            event_is = refl;
            replied = reload.replied ∙ ap Dict own.dict;
          };
        }

    unchanged : (before after : Seat) (reply told : Reply) → after ≡ before → reply ≡ told
        → StretchOf before.eye after.eye (λ part. AreBetween given.workers part
        × ((after.dictionary ≡ before.dictionary) × (reply ≡ told)))
    unchanged before after reply told same is = record {
      part = [];
      entries = same-entries before after same;
      followed = (nothing-between, (ap (λ (seat : Seat). seat.dictionary) same, is));
    }

    based : (before : Seat) (due : Result Lexicon LoadFault) (after : Seat) (reply : Reply)
        → IsBaseTold before due after reply → HasCounted before.eye
        → HasNoMore given.workers after.eye → before.eye.number ≡ given.by
        → StretchOf before.eye after.eye (λ part. IsBaseFollowed given before.dictionary due
        (last_of before.eye.run) part after.dictionary reply)
    based before (Ok base) after reply tells least most number =
        followed-as (reloaded before.eye after reply tells.1 least most number)
        (λ part does. (tells.0, does))
    based before (Err fault) after reply tells least most number =
        unchanged before after reply _ tells.0 tells.1

    added-item : (before : Seat) (item : Result (Option OwnItem) OwnLineWhy) (after : Seat)
        (reply : Reply) → IsItemTold before item after reply → HasCounted before.eye
        → HasNoMore given.workers after.eye → before.eye.number ≡ given.by
        → StretchOf before.eye after.eye (λ part. IsItemFollowed given before.dictionary item
        (last_of before.eye.run) part after.dictionary reply)
    added-item before (Ok None) after reply tells least most number =
        followed-as (looked before.eye after.eye reply (λ board. Done board.text_version)
        tells.1.0 least most tells.1.1)
        (λ part does. (does.0, (tells.0, does.1)))
    added-item before (Ok (Some item)) after reply tells least most number =
        followed-as (reloaded before.eye after reply tells.1 least most number)
        (λ part does. (tells.0, does))
    added-item before (Err why) after reply tells least most number =
        unchanged before after reply _ tells.0 tells.1

    -- ---- what is settled
    settled : (old new : EyeSeen) (reply : Reply) → Settles old new → HasCounted old
        → HasNoMore given.workers new → old.number ≡ given.by
        → reply ≡ Done (last_of new.run).text_version
        → StretchOf old new (λ part. IsConsoleSettledIn given (last_of old.run) part reply)
    settled old new reply settles least most number replied =
        let is = settles.settled in
        let part = is.skipped ++ is.behind in
        let entries : new.run.entries ≡ old.run.entries ++ part =
        is.entries ∙ append_assoc old.run.entries is.skipped is.behind in record {
          part = part;
          entries = entries;
          followed = record {
            quiet = laws.quiet part
                (settles-none laws old new part entries settles.counts least most);
            own = λ none. subst (λ n. AllByRecursion (λ (entry : Entry). entry.by ≡ n) part)
                (settles.later.number ∙ number)
                (own-on old new part entries (most.own none)).1;
            skipped = is.skipped;
            behind = is.behind;
            part_is = refl;
            settled = subst (λ (board : Seen). AreClosedIn board is.behind)
                (laws.last old.run.opening old.run.entries is.skipped) is.settled;
            replied = replied ∙ ap (λ (board : Seen). Done board.text_version)
                (last-on laws old new part settles.later.opening entries);
          };
        }

    -- ---- all commands
    followed-to : (before : Seat) (command : Command) (after : Seat) (reply : Reply)
        → IsToldTo given.folder given.session before command after reply
        → HasCounted before.eye → HasNoMore given.workers after.eye
        → before.eye.number ≡ given.by
        → Stretch given before.dictionary (Some command) before.eye after reply
    unfolding IsToldTo IsFollowed
    followed-to before (Load aff dic) after reply (WasDue there is tells) least most number =
        followed-as (based before (lexicon_due there) after reply tells least most number)
        (λ part does. Due there is does)
    followed-to before (Load aff dic) after reply (DidFail same replied) least most number =
        followed-as (unchanged before after reply _ same replied)
        (λ part does. FilesFailed does.0 does.1.0 does.1.1)
    followed-to before (Own text) after reply tells least most number =
        added-item before (added before.dictionary.base.affixes before.dictionary.own text) after
        reply tells least most number
    followed-to before Show after reply tells least most number =
        followed-as (looked before.eye after.eye reply look_reply tells.0.1 least most tells.1)
        (λ part does. (does.0, (tells.0.0, does.1)))
    followed-to before Settle after reply tells least most number =
        followed-as (settled before.eye after.eye reply tells.0.1 least most number tells.1)
        (λ part does. (tells.0.0, does))
    followed-to before Quit after reply tells least most number = absurd tells
    followed-to before command after reply tells least most number =
        followed-as (place-told laws given command before.eye after.eye reply tells.1 least most
        number) (λ part does. (tells.0, does))

    followed-one : (before : Seat) (asked : Option Command) (after : Seat) (reply : Reply)
        → IsToldOne given.folder given.session before asked after reply
        → HasCounted before.eye → HasNoMore given.workers after.eye
        → before.eye.number ≡ given.by
        → Stretch given before.dictionary asked before.eye after reply
    followed-one before None after reply tells least most number =
        unchanged before after reply _ tells.0 tells.1
    followed-one before (Some command) after reply tells least most number =
        followed-to before command after reply tells least most number

    -- ---- one after another
    pub follows-on : (before : Seat) (commands : List (Option Command)) (replies : List Reply)
        (after : Seat)
        → Told given.folder given.session before commands replies after
        → HasCounted before.eye → HasNoMore given.workers after.eye
        → before.eye.number ≡ given.by
        → StretchOf before.eye after.eye (λ rest. Follows given before.dictionary
        (last_of before.eye.run) rest commands replies after.dictionary)
    follows-on before [] replies after tells least most number = record {
      part = [];
      entries = same-entries before after tells.1;
      followed = (nothing-between, (tells.0, ap (λ (seat : Seat). seat.dictionary) tells.1));
    }
    follows-on before (asked ∷ more) [] after tells least most number = absurd tells
    follows-on before (asked ∷ more) (reply ∷ replies) after tells least most number =
        let next = tells.0 in
        let goes = goes-one given.folder given.session before asked next reply tells.1 in
        let later = goes-told given.folder given.session next more replies after tells.2 in
        let there : HasNoMore given.workers next.eye =
        no-more-before laws next.eye after.eye later most in
        let here = followed-one before asked next reply tells.1 least there number in
        let rest = follows-on next more replies after tells.2
        (counted-on laws before.eye next.eye goes least) most (goes.number ∙ number) in
        let ends : last_of next.eye.run ≡ last_board (last_of before.eye.run) here.part =
        last-on laws before.eye next.eye here.part goes.opening here.entries in record {
          part = here.part ++ rest.part;
          entries = rest.entries ∙ ap (λ front. front ++ rest.part) here.entries
              ∙ append_assoc before.eye.run.entries here.part rest.part;
          followed = (
            here.part,
            rest.part,
            next.dictionary,
            refl,
            here.followed,
            subst (λ (board : Seen). Follows given next.dictionary board rest.part more replies
                after.dictionary) ends rest.followed,
          );
        }

-- ---- one more, and what comes behind
pub told-more : (told : Option Folder) (session : ℕ) (first seat next : Seat)
    (commands : List (Option Command)) (replies : List Reply) (asked : Option Command)
    (reply : Reply) → Told told session first commands replies seat
    → IsToldOne told session seat asked next reply
    → Told told session first (commands ++ asked ∷ []) (replies ++ reply ∷ []) next
told-more told session first seat next [] [] asked reply tells one = (
  next,
  subst (λ (at : Seat). IsToldOne told session at asked next reply) tells.1 one,
  (refl, refl),
)
told-more told session first seat next [] (other ∷ replies) asked reply tells one =
    absurd (cc (tells.0))
told-more told session first seat next (command ∷ commands) [] asked reply tells one =
    absurd tells
told-more told session first seat next (command ∷ commands) (other ∷ replies) asked reply tells
    one = (
      tells.0,
      tells.1,
      told-more told session tells.0 seat next commands replies asked reply
          tells.2 one,
    )

quiet-both : (front back : List Entry) → AreQuiet front → AreQuiet back
    → AreQuiet (front ++ back)
quiet-both [] back first second = second
quiet-both (entry ∷ front) back first second =
    (first.0, quiet-both front back first.1 second)

between-both : (workers : ℕ) (front back : List Entry) → AreBetween workers front
    → AreBetween workers back → AreBetween workers (front ++ back)
between-both zero front back first second = ap (λ list. list ++ back) first ∙ second
between-both (suc workers) front back first second = quiet-both front back first second

pub follows-behind : (given : Given) (before after : OwnSeen) (board : Seen)
    (entries rest : List Entry) (commands : List (Option Command)) (replies : List Reply)
    → Follows given before board entries commands replies after
    → AreBetween given.workers rest
    → Follows given before board (entries ++ rest) commands replies after
follows-behind given before after board entries rest [] replies follows more =
    (between-both given.workers entries rest follows.0 more, follows.1)
follows-behind given before after board entries rest (asked ∷ commands) [] follows more =
    absurd follows
follows-behind given before after board entries rest (asked ∷ commands) (reply ∷ replies)
    follows more = (
      follows.0,
      follows.1 ++ rest,
      follows.2,
      ap (λ list. list ++ rest) follows.3 ∙ append_assoc follows.0 follows.1 rest,
      follows.4,
      follows-behind given follows.2 after (last_board board follows.0) follows.1 rest commands
          replies follows.5 more,
    )
