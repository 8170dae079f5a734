-- What becomes of an eye by one command of its session.
use Rattle.std.proofs.Common.{◌≡◌, ◌∙◌, refl, sym, ap, subst, ℕ, ◌+◌, ◌&&◌, Bool, true, false, not}
use Rattle.std.proofs.Common.{List, []}
use Rattle.std.proofs.Common.{◌∷◌, ◌++◌, length, Option, None, Some, Result, Ok, Err, append_assoc}
use Rattle.std.proofs.Common.{append-nil, arith}
use Rattle.std.specs.Prelude.{if◌then◌else◌}
use Rattle.std.proofs.lemmas.Option.{same_Some}
use Rattle.std.proofs.lemmas.Bool.{true≢false}
use Rattle.spell_types.specs.declared.Lexicon.{Lexicon}
use Rattle.dictionary_swap.specs.Loads.{lexicon_due}
use Rattle.dictionary_swap.specs.declared.fault.LoadFault.{LoadFault}
use Rattle.dictionary_swap.specs.declared.fault.LoadFault.TheVariants as load
use Rattle.board_share.specs.edit_core.Events.{SeenEvent, AnEdit, ALoad, AClaim, AFinish, APark}
use Rattle.board_share.specs.edit_core.Events.{AnAsk, kind_of}
use Rattle.board_share.specs.edit_core.Runs.{Entry, is_quiet, last_board}
use Rattle.board_share.specs.edit_core.Seen.{Seen}
use Rattle.board_share.specs.edit_core.Steps.{first_refusal}
use Rattle.board_share.specs.edit_core.declared.refusal.Refusal.{Refusal}
use Rattle.board_share.specs.edit_core.declared.refusal.Refusal.TheVariants as refusal
use Rattle.board_share.specs.Eyes.{EyeSeen, counted, events_in, last_of}
use Rattle.board_share.specs.declared.counts.Counts.{Counts}
use Rattle.board_share.specs.declared.told.Told.{Told as ToldOf}
use Rattle.board_share.specs.Eyes.{CountsChecks}
use Rattle.board_share.specs.Settled.{AreClosedIn}
use Rattle.console_lang.specs.declared.command.Command.{Command}
use Rattle.console_lang.specs.declared.command.Command.TheVariants.{Ins, Put, Sub, Del, Load, Stop}
use Rattle.console_lang.specs.declared.command.Command.TheVariants.{Ask, Own, Show, Settle, Quit}
use Rattle.console_lang.specs.declared.reply.Reply.{Reply}
use Rattle.console_lang.specs.declared.reply.Reply.TheVariants.{Done, Dict, NoPlace}
use Rattle.console_board.specs.BoardAnswers.{IsAsked, PutsWhole, event_for, look_reply, reply_for}
use Rattle.console_board.specs.OwnConsoles.{fault_reply}
use Rattle.console_board.specs.Transcripts.{HasWholeText}
use Rattle.console_history.specs.Told.{IsCommandTold, IsEventTold, IsPlaceTold, IsPlainTold, Looks}
use Rattle.console_history.specs.Told.{Publishes, Settles}
use Rattle.console_history.specs.Told.{Taken as WasTaken, TurnedDown as WasTurnedDown}
use Rattle.team_history.specs.Eyes.{IsLoadedTold, IsSaidTo}
use Rattle.team_history.specs.ToldBy.{IsLoadDone, IsOneToldIn, IsPlaceToldIn, IsToldIn, NoSuchPlace}
use Rattle.team_history.specs.ToldBy.{Session, Taken, TurnedDown, is_settle, is_taken, tells_event}
use Rattle.team_history.proofs.Cuts.{LastGoesOn}

-- the eye comes to know a stretch that tells the reply, and counts an event where one was taken
pub record Step (session : Session) (old new : EyeSeen) (asked : Option Command) (reply : Reply) :
    Type 0 where
  pub number : new.number ≡ old.number
  pub opening : new.run.opening ≡ old.run.opening
  pub part : List Entry
  pub entries : new.run.entries ≡ old.run.entries ++ part
  pub told : IsOneToldIn session (last_of old.run) part asked reply
  pub counts : events_in new.counts
      ≡ events_in old.counts + (if is_taken asked reply then 1 else 0)

abbrev pub EventsAsked : Type 0
EventsAsked = (by : ℕ) (board : Seen) (command : Command) (event : SeenEvent)
    → HasWholeText command → event_for by board command ≡ Some event → IsAsked event

-- ---- counts
pub events-counted : (event : SeenEvent) (counts : Counts) → is_quiet event ≡ false
    → events_in (counted (kind_of event) counts) ≡ events_in counts + 1
events-counted (AnEdit session edit) counts asked = omega arith
events-counted (ALoad lexicon) counts asked = omega arith
events-counted (APark session id) counts asked = omega arith
events-counted (AnAsk session id) counts asked = omega arith
events-counted (AClaim worker id rev) counts asked = absurd (true≢false asked)
events-counted (AFinish worker id rev dict text lexicon) counts asked =
    absurd (true≢false asked)

asked-not-quiet : (event : SeenEvent) → IsAsked event → is_quiet event ≡ false
asked-not-quiet (AnEdit session edit) asked = refl
asked-not-quiet (ALoad lexicon) asked = refl
asked-not-quiet (APark session id) asked = refl
asked-not-quiet (AnAsk session id) asked = refl
asked-not-quiet (AClaim worker id rev) asked = absurd asked
asked-not-quiet (AFinish worker id rev dict text lexicon) asked = absurd asked

none-more : (new old : ℕ) (taken : Bool) → new ≡ old → taken ≡ false
    → new ≡ old + (if taken then 1 else 0)
none-more new old true same none = absurd (true≢false none)
none-more new old false same none = omega (arith, same)

one-more : (new old : ℕ) (taken : Bool) → new ≡ old + 1 → taken ≡ true
    → new ≡ old + (if taken then 1 else 0)
one-more new old true more is = more
one-more new old false more is = absurd (true≢false (sym is))

checks-asked : (old new : EyeSeen) → CountsChecks old new
    → events_in new.counts ≡ events_in old.counts
checks-asked old new counts =
    sum new.counts.edits new.counts.loads new.counts.asks old.counts.edits old.counts.loads
    old.counts.asks counts.edits counts.loads counts.asks
  where
    sum : (a b c x y z : ℕ) → a ≡ x → b ≡ y → c ≡ z → a + (b + c) ≡ x + (y + z)
    sum a b c x y z first second third = cc

-- ---- replies

-- a refusal tells of no event
refused-none : (why : Refusal) (reply : Reply) → reply_for why ≡ Some reply
    → tells_event reply ≡ false
refused-none (refusal.Gone id) reply is =
    subst (λ r. tells_event r ≡ false) (same_Some _ reply is) refl
refused-none (refusal.Behind rev) reply is =
    subst (λ r. tells_event r ≡ false) (same_Some _ reply is) refl
refused-none (refusal.BadSpan size) reply is =
    subst (λ r. tells_event r ≡ false) (same_Some _ reply is) refl
refused-none (refusal.TooLong would) reply is =
    subst (λ r. tells_event r ≡ false) (same_Some _ reply is) refl
refused-none (refusal.Full count) reply is =
    subst (λ r. tells_event r ≡ false) (same_Some _ reply is) refl
refused-none (refusal.Finished rev) reply is =
    subst (λ r. tells_event r ≡ false) (same_Some _ reply is) refl
refused-none (refusal.Parked rev) reply is =
    subst (λ r. tells_event r ≡ false) (same_Some _ reply is) refl
refused-none (refusal.NotParked rev) reply is =
    subst (λ r. tells_event r ≡ false) (same_Some _ reply is) refl
refused-none why reply is = absurd (cc)

-- and so it is with a fault of a dictionary
fault-none : (fault : LoadFault) → tells_event (fault_reply fault) ≡ false
fault-none load.Failed = refl
fault-none load.Missing = refl
fault-none (load.TooLong limit) = refl
fault-none (load.Aff line why) = refl
fault-none (load.Dic line why) = refl
fault-none load.NoMemory = refl

not-taken : (asked : Option Command) (reply : Reply) → tells_event reply ≡ false
    → is_taken asked reply ≡ false
not-taken asked reply none = ap (λ b. b && not (is_settle asked)) none

module _ (last : LastGoesOn) where
  -- where the eye goes on, its last board is the last of the stretch
  last-on : (old new : EyeSeen) (part : List Entry) → new.run.opening ≡ old.run.opening
      → new.run.entries ≡ old.run.entries ++ part
      → last_of new.run ≡ last_board (last_of old.run) part
  last-on old new part opening is =
      ap (λ (board : Seen). last_board board new.run.entries) opening
      ∙ ap (last_board old.run.opening) is
      ∙ last old.run.opening old.run.entries part

  -- ---- nothing
  idle-step : (session : Session) (old new : EyeSeen) (asked : Option Command) (reply : Reply)
      → new ≡ old → tells_event reply ≡ false
      → IsOneToldIn session (last_of old.run) [] asked reply → Step session old new asked reply
  idle-step session old new asked reply same none told = record {
    number = ap (λ (eye : EyeSeen). eye.number) same;
    opening = ap (λ (eye : EyeSeen). eye.run.opening) same;
    part = [];
    entries = ap (λ (eye : EyeSeen). eye.run.entries) same ∙ sym (append-nil old.run.entries);
    told = told;
    counts = none-more (events_in new.counts) (events_in old.counts) (is_taken asked reply)
        (ap (λ (eye : EyeSeen). events_in eye.counts) same) (not-taken asked reply none);
  }

  -- ---- a look
  look-step : (session : Session) (old new : EyeSeen) (asked : Option Command) (reply : Reply)
      → Looks old new → tells_event reply ≡ false
      → ((part : List Entry) → last_of new.run ≡ last_board (last_of old.run) part
      → IsOneToldIn session (last_of old.run) part asked reply)
      → Step session old new asked reply
  look-step session old new asked reply looks none told =
      let part = looks.later.begins.0 in
      let is : new.run.entries ≡ old.run.entries ++ part = sym looks.later.begins.1 in record {
        number = looks.later.number;
        opening = looks.later.opening;
        part = part;
        entries = is;
        told = told part (last-on old new part looks.later.opening is);
        counts = none-more (events_in new.counts) (events_in old.counts) (is_taken asked reply)
            (ap events_in looks.counts) (not-taken asked reply none);
      }

  -- ---- a settle
  settle-step : (session : Session) (old new : EyeSeen) (reply : Reply) → Settles old new
      → reply ≡ Done (last_of new.run).text_version → Step session old new (Some Settle) reply
  unfolding IsToldIn
  settle-step session old new reply settles replied =
      let is = settles.settled in
      let part = is.skipped ++ is.behind in
      let entries : new.run.entries ≡ old.run.entries ++ part =
      is.entries ∙ append_assoc old.run.entries is.skipped is.behind in record {
        number = settles.later.number;
        opening = settles.later.opening;
        part = part;
        entries = entries;
        told = record {
          skipped = is.skipped;
          behind = is.behind;
          part_is = refl;
          settled = subst (λ (board : Seen). AreClosedIn board is.behind)
              (last old.run.opening old.run.entries is.skipped) is.settled;
          replied = replied ∙ ap (λ (board : Seen). Done board.text_version)
              (last-on old new part settles.later.opening entries);
        };
        counts = none-more (events_in new.counts) (events_in old.counts)
            (is_taken (Some Settle) reply) (checks-asked old new settles.counts)
            (ap (λ r. is_taken (Some Settle) r) replied);
      }

  -- ---- a dictionary
  lexicon-step : (session : Session) (aff dic : List ℕ) (old new : EyeSeen) (lexicon : Lexicon)
      (tells : ToldOf) (reply : Reply) → old.number ≡ session.by
      → Publishes (ALoad lexicon) old new tells → reply ≡ Dict tells.dict
      → ((part : List Entry) → IsLoadDone session.by (Ok lexicon) part reply
      → IsOneToldIn session (last_of old.run) part (Some (Load aff dic)) reply)
      → Step session old new (Some (Load aff dic)) reply
  lexicon-step session aff dic old new lexicon tells reply number publishes replied told =
      let published = publishes.published in
      let own : Entry =
      record { by = old.number; event = ALoad lexicon; board = published.board } in
      let part = published.between ++ own ∷ [] in
      let entries : new.run.entries ≡ old.run.entries ++ part =
      published.entries ∙ append_assoc old.run.entries published.between (own ∷ []) in record {
        number = publishes.later.number;
        opening = publishes.later.opening;
        part = part;
        entries = entries;
        told = told part (record {
          before = published.between;
          entry = own;
          part_is = refl;
          own = number;
          event_is = refl;
          replied = replied ∙ ap (λ (t : ToldOf). Dict t.dict) published.told_is;
        });
        counts = one-more (events_in new.counts) (events_in old.counts)
            (is_taken (Some (Load aff dic)) reply)
            (ap events_in publishes.counts
            ∙ events-counted (ALoad lexicon) old.counts refl)
            (ap (λ r. is_taken (Some (Load aff dic)) r) replied);
      }

  pair-step : (session : Session) (aff dic : List ℕ) (due : Result Lexicon LoadFault)
      (old new : EyeSeen) (reply : Reply) → old.number ≡ session.by
      → IsLoadedTold due old new reply
      → ((part : List Entry) → IsLoadDone session.by due part reply
      → IsOneToldIn session (last_of old.run) part (Some (Load aff dic)) reply)
      → Step session old new (Some (Load aff dic)) reply
  pair-step session aff dic (Ok lexicon) old new reply number tells told =
      lexicon-step session aff dic old new lexicon tells.told reply number tells.publishes
      tells.replied told
  pair-step session aff dic (Err fault) old new reply number tells told =
      idle-step session old new (Some (Load aff dic)) reply tells.0
      (ap tells_event tells.1 ∙ fault-none fault) (told [] (refl, tells.1))

  -- ---- commands that name a place
  module _ (session : Session) (command : Command) (old : EyeSeen)
      (number : old.number ≡ session.by)
      (means : (part : List Entry) (reply : Reply)
      → IsPlaceToldIn session command (last_of old.run) part reply
      → IsOneToldIn session (last_of old.run) part (Some command) reply)
      (other : is_settle (Some command) ≡ false) where
    taken-step : (looked new : EyeSeen) (event : SeenEvent) (tells : ToldOf) (reply : Reply)
        → Looks old looked
        → event_for session.number (last_of looked.run) command ≡ Some event
        → is_quiet event ≡ false → Publishes event looked new tells
        → reply ≡ Done tells.text → Step session old new (Some command) reply
    taken-step looked new event tells reply looks event_is asks publishes replied =
        let skipped = looks.later.begins.0 in
        let seen : looked.run.entries ≡ old.run.entries ++ skipped = sym looks.later.begins.1 in
        let published = publishes.published in
        let between = published.between in
        let own : Entry =
        record { by = looked.number; event = event; board = published.board } in
        let part = (skipped ++ between) ++ own ∷ [] in
        let entries : new.run.entries ≡ old.run.entries ++ part =
        published.entries
        ∙ ap (λ front. (front ++ between) ++ own ∷ []) seen
        ∙ ap (λ front. front ++ own ∷ []) (append_assoc old.run.entries skipped between)
        ∙ append_assoc old.run.entries (skipped ++ between) (own ∷ []) in record {
          number = publishes.later.number ∙ looks.later.number;
          opening = publishes.later.opening ∙ looks.later.opening;
          part = part;
          entries = entries;
          told = means part reply (Taken (record {
            skipped = skipped;
            between = between;
            entry = own;
            part_is = refl;
            own = looks.later.number ∙ number;
            event_is = subst
                (λ (board : Seen). event_for session.number board command ≡ Some event)
                (last-on old looked skipped looks.later.opening seen) event_is;
            replied = replied ∙ ap (λ (t : ToldOf). Done t.text) published.told_is;
          }));
          counts = one-more (events_in new.counts) (events_in old.counts)
              (is_taken (Some command) reply)
              (ap events_in publishes.counts
              ∙ events-counted event looked.counts asks
              ∙ ap (λ counts. events_in counts + 1) looks.counts)
              (ap (λ r. is_taken (Some command) r) replied ∙ ap not other);
        }

    refused-step : (looked new : EyeSeen) (event : SeenEvent) (why : Refusal) (reply : Reply)
        → Looks old looked → PutsWhole (last_of looked.run) command
        → event_for session.number (last_of looked.run) command ≡ Some event
        → Looks looked new → first_refusal (last_of new.run) event ≡ Some why
        → reply_for why ≡ Some reply → Step session old new (Some command) reply
    refused-step looked new event why reply looks whole event_is more first replied =
        let skipped = looks.later.begins.0 in
        let seen : looked.run.entries ≡ old.run.entries ++ skipped = sym looks.later.begins.1 in
        let behind = more.later.begins.0 in
        let part = skipped ++ behind in
        let entries : new.run.entries ≡ old.run.entries ++ part =
        sym more.later.begins.1 ∙ ap (λ front. front ++ behind) seen
        ∙ append_assoc old.run.entries skipped behind in
        let opening : new.run.opening ≡ old.run.opening =
        more.later.opening ∙ looks.later.opening in
        let there : last_of looked.run ≡ last_board (last_of old.run) skipped =
        last-on old looked skipped looks.later.opening seen in record {
          number = more.later.number ∙ looks.later.number;
          opening = opening;
          part = part;
          entries = entries;
          told = means part reply (TurnedDown (record {
            skipped = skipped;
            behind = behind;
            part_is = refl;
            whole = subst (λ (board : Seen). PutsWhole board command) there whole;
            event = event;
            event_is = subst
                (λ (board : Seen). event_for session.number board command ≡ Some event) there
                event_is;
            refusal = why;
            first = subst (λ (board : Seen). first_refusal board event ≡ Some why)
                (last-on old new part opening entries) first;
            reply_is = replied;
          }));
          counts = none-more (events_in new.counts) (events_in old.counts)
              (is_taken (Some command) reply)
              (ap events_in more.counts ∙ ap events_in looks.counts)
              (not-taken (Some command) reply (refused-none why reply replied));
        }

    event-step : (looked new : EyeSeen) (event : SeenEvent) (reply : Reply) → Looks old looked
        → PutsWhole (last_of looked.run) command
        → event_for session.number (last_of looked.run) command ≡ Some event
        → is_quiet event ≡ false → IsEventTold event looked new reply
        → Step session old new (Some command) reply
    event-step looked new event reply looks whole is asks (WasTaken tells publishes replied) =
        taken-step looked new event tells reply looks is asks publishes replied
    event-step looked new event reply looks whole is asks (WasTurnedDown down) =
        refused-step looked new event down.refusal reply looks whole is down.looks down.first
        down.replied

    no-place-step : (looked new : EyeSeen) (reply : Reply) → Looks old looked
        → event_for session.number (last_of looked.run) command ≡ None → new ≡ looked
        → reply ≡ NoPlace (length (last_of looked.run).paragraphs)
        → Step session old new (Some command) reply
    no-place-step looked new reply looks none same replied =
        look-step session old new (Some command) reply
        (subst (λ (eye : EyeSeen). Looks old eye) (sym same) looks)
        (ap tells_event replied)
        (λ part ends. means part reply (NoSuchPlace (record {
          none = subst (λ (board : Seen). event_for session.number board command ≡ None)
              (sym (ap (λ (eye : EyeSeen). last_of eye.run) same) ∙ ends) none;
          replied = replied ∙ ap (λ (board : Seen). NoPlace (length board.paragraphs))
              (sym (ap (λ (eye : EyeSeen). last_of eye.run) same) ∙ ends);
        })))

    found-step : EventsAsked → HasWholeText command → (looked new : EyeSeen) (reply : Reply)
        (found : Option SeenEvent) → Looks old looked → PutsWhole (last_of looked.run) command
        → event_for session.number (last_of looked.run) command ≡ found
        → IsCommandTold found looked new reply → Step session old new (Some command) reply
    found-step asks whole_text looked new reply None looks whole is tells =
        no-place-step looked new reply looks is tells.0 tells.1
    found-step asks whole_text looked new reply (Some event) looks whole is tells =
        event-step looked new event reply looks whole is
        (asked-not-quiet event
        (asks session.number (last_of looked.run) command event whole_text is)) tells

    place-step : EventsAsked → HasWholeText command → (new : EyeSeen) (reply : Reply)
        → IsPlaceTold session.number command old new reply
        → Step session old new (Some command) reply
    place-step asks whole_text new reply place =
        found-step asks whole_text place.looked new reply
        (event_for session.number (last_of place.looked.run) command) place.looks place.whole refl
        place.told

  -- ---- all
  pub said-step : EventsAsked → (session : Session) (old new : EyeSeen) (asked : Option Command)
      (reply : Reply) → old.number ≡ session.by → IsSaidTo session old asked new reply
      → Step session old new asked reply
  unfolding IsPlainTold IsToldIn
  said-step asks session old new None reply number said =
      idle-step session old new None reply said.0 (ap tells_event said.1) (refl, said.1)
  said-step asks session old new (Some (Load aff dic)) reply number said =
      pair-step session aff dic (lexicon_due said.there) old new reply number said.done
      (λ part done. record { there = said.there; is_there = said.is_there; done = done })
  said-step asks session old new (Some (Own text)) reply number said = absurd (said.1)
  said-step asks session old new (Some Quit) reply number said = absurd (said.1)
  said-step asks session old new (Some Show) reply number said =
      look-step session old new (Some Show) reply said.1.0 (ap tells_event said.1.1)
      (λ part ends. said.1.1 ∙ ap look_reply ends)
  said-step asks session old new (Some Settle) reply number said =
      settle-step session old new reply said.1.0 said.1.1
  said-step asks session old new (Some (Ins place text)) reply number said =
      place-step session (Ins place text) old number (λ part reply told. told) refl asks said.0 new
      reply said.1
  said-step asks session old new (Some (Put place text)) reply number said =
      place-step session (Put place text) old number (λ part reply told. told) refl asks said.0 new
      reply said.1
  said-step asks session old new (Some (Sub place from to text)) reply number said =
      place-step session (Sub place from to text) old number (λ part reply told. told) refl asks
      said.0 new reply said.1
  said-step asks session old new (Some (Del place)) reply number said =
      place-step session (Del place) old number (λ part reply told. told) refl asks said.0 new
      reply said.1
  said-step asks session old new (Some (Stop place)) reply number said =
      place-step session (Stop place) old number (λ part reply told. told) refl asks said.0 new
      reply said.1
  said-step asks session old new (Some (Ask place)) reply number said =
      place-step session (Ask place) old number (λ part reply told. told) refl asks said.0 new
      reply said.1
