-- Commands that name a place, and how they are followed.
use Rattle.std.proofs.Common.{◌≡◌, ◌∙◌, refl, sym, ap, subst, ℕ, false, List, [], ◌∷◌, ◌++◌}
use Rattle.std.proofs.Common.{length, Option, None, Some, append_assoc}
use Rattle.std.specs.Option.{option_map}
use Rattle.std.proofs.lemmas.Option.{same_Some}
use Rattle.board_share.specs.paragraph_text.Paragraphs.{Paragraph}
use Rattle.board_share.specs.paragraph_text.declared.edits.Edit.TheVariants.{Insert, Remove}
use Rattle.board_share.specs.paragraph_text.declared.edits.Edit.TheVariants.{Replace}
use Rattle.board_share.specs.edit_core.Events.{SeenEvent, AnEdit, APark, AnAsk}
use Rattle.board_share.specs.edit_core.Runs.{AreSteps, Entry, is_quiet, last_board}
use Rattle.board_share.specs.edit_core.Seen.{Seen}
use Rattle.board_share.specs.edit_core.Steps.{first_refusal}
use Rattle.board_share.specs.edit_core.declared.refusal.Refusal.{Refusal}
use Rattle.board_share.specs.Eyes.{EyeSeen, last_of}
use Rattle.board_share.specs.declared.told.Told.{Told as ToldOf}
use Rattle.console_lang.specs.declared.command.Command.{Command}
use Rattle.console_lang.specs.declared.command.Command.TheVariants.{Ins, Put, Sub, Del, Load, Stop}
use Rattle.console_lang.specs.declared.command.Command.TheVariants.{Ask, Own, Show, Settle, Quit}
use Rattle.console_lang.specs.declared.reply.Reply.{Reply}
use Rattle.console_lang.specs.declared.reply.Reply.TheVariants.{Done, NoPlace}
use Rattle.console_board.specs.BoardAnswers.{PutsWhole, event_for, gap_at, paragraph_at}
use Rattle.console_board.specs.BoardAnswers.{reply_for}
use Rattle.console_history.specs.Followed.{Given, IsPlaceFollowed, NoSuchPlace, Taken, TurnedDown}
use Rattle.console_history.specs.Told.{Taken as WasTaken, TurnedDown as WasTurnedDown}
use Rattle.console_history.specs.Told.{IsCommandTold, IsEventTold, IsPlaceTold}
use Rattle.console_history.proofs.Stretches.{CoreLaws, idle-append, idle-between, idle-keeps}
use Rattle.console_history.proofs.Counting.{GoesOn, HasCounted, HasNoMore, StretchOf, TakesIn}
use Rattle.console_history.proofs.Counting.{TakesOwn, counted-on, goes-looks, goes-publishes}
use Rattle.console_history.proofs.Counting.{goes-self, goes-trans, last-on, looks-in}
use Rattle.console_history.proofs.Counting.{no-more-before, publishes-own, steps-on}

-- ---- the event of a command
-- it is one of the paragraphs alone
event-same : (session : ℕ) (one other : Seen) (command : Command)
    → one.paragraphs ≡ other.paragraphs
    → event_for session one command ≡ event_for session other command
event-same session one other Quit same = refl
event-same session one other command same =
    ap (λ (paragraphs : List Paragraph).
    event_for session (record other { paragraphs = paragraphs }) command) same

-- and so is what it puts another text in place of
whole-same : (one other : Seen) (command : Command) → one.paragraphs ≡ other.paragraphs
    → PutsWhole other command → PutsWhole one command
whole-same one other (Put place text) same whole =
    subst (λ (paragraphs : List Paragraph).
    PutsWhole (record other { paragraphs = paragraphs }) (Put place text)) (sym same) whole
whole-same one other _ same whole = tt

none-is-some : {X Y : Type 0} (x : X) → None ≡ Some x → Y
none-is-some x is = cc

mapped-asked : {X : Type 0} (f : X → SeenEvent) (found : Option X) (event : SeenEvent)
    → ((x : X) → is_quiet (f x) ≡ false) → option_map f found ≡ Some event
    → is_quiet event ≡ false
mapped-asked f None event asked is = none-is-some event is
mapped-asked f (Some x) event asked is =
    subst (λ (e : SeenEvent). is_quiet e ≡ false) (same_Some (f x) event is) (asked x)

-- and no event of a worker
pub event-asked : (session : ℕ) (board : Seen) (command : Command) (event : SeenEvent)
    → event_for session board command ≡ Some event → is_quiet event ≡ false
event-asked session board (Ins place text) event is =
    mapped-asked (λ before. AnEdit session (Insert before text)) (gap_at board place) event
    (λ before. refl) is
event-asked session board (Put place text) event is =
    mapped-asked (λ (paragraph : Paragraph).
    AnEdit session (Replace paragraph.id paragraph.rev 0 (length paragraph.text) text))
    (paragraph_at board place) event (λ paragraph. refl) is
event-asked session board (Sub place from to text) event is =
    mapped-asked (λ (paragraph : Paragraph).
    AnEdit session (Replace paragraph.id paragraph.rev from to text))
    (paragraph_at board place) event (λ paragraph. refl) is
event-asked session board (Del place) event is =
    mapped-asked (λ (paragraph : Paragraph).
    AnEdit session (Remove paragraph.id paragraph.rev))
    (paragraph_at board place) event (λ paragraph. refl) is
event-asked session board (Stop place) event is =
    mapped-asked (λ (paragraph : Paragraph). APark session paragraph.id)
    (paragraph_at board place) event (λ paragraph. refl) is
event-asked session board (Ask place) event is =
    mapped-asked (λ (paragraph : Paragraph). AnAsk session paragraph.id)
    (paragraph_at board place) event (λ paragraph. refl) is
event-asked session board (Load aff dic) event is = none-is-some event is
event-asked session board (Own text) event is = none-is-some event is
event-asked session board Show event is = none-is-some event is
event-asked session board Settle event is = none-is-some event is
event-asked session board Quit event is = none-is-some event is

-- the stretch that an eye came to know by a command that names a place
abbrev pub PlaceStretch : Given → Command → EyeSeen → EyeSeen → Reply → Type 0
PlaceStretch given command old new reply =
    StretchOf old new (λ part. IsPlaceFollowed given command (last_of old.run) part reply)

module _ (laws : CoreLaws) where
  -- ---- an eye goes on
  goes-event : (event : SeenEvent) (old new : EyeSeen) (reply : Reply) → is_quiet event ≡ false
      → IsEventTold event old new reply → GoesOn old new
  goes-event event old new reply asked (WasTaken tells publishes replied) =
      goes-publishes laws event old new tells asked publishes
  goes-event event old new reply asked (WasTurnedDown down) =
      goes-looks laws old new down.looks

  goes-command : (session : ℕ) (command : Command) (found : Option SeenEvent)
      (looked new : EyeSeen)
      (reply : Reply) → event_for session (last_of looked.run) command ≡ found
      → IsCommandTold found looked new reply → GoesOn looked new
  goes-command session command None looked new reply is tells =
      goes-self laws looked new tells.0
  goes-command session command (Some event) looked new reply is tells =
      goes-event event looked new reply
      (event-asked session (last_of looked.run) command event is) tells

  pub goes-place : (session : ℕ) (command : Command) (old new : EyeSeen) (reply : Reply)
      → IsPlaceTold session command old new reply → GoesOn old new
  goes-place session command old new reply place =
      goes-trans laws old place.looked new (goes-looks laws old place.looked place.looks)
      (goes-command session command (event_for session (last_of place.looked.run) command)
      place.looked new reply refl place.told)

  module _ (given : Given) where
    -- ---- no place
    no-place : (command : Command) (old looked new : EyeSeen) (reply : Reply)
        → TakesIn given.workers old looked
        → event_for given.session (last_of looked.run) command ≡ None → new ≡ looked
        → reply ≡ NoPlace (length (last_of looked.run).paragraphs)
        → PlaceStretch given command old new reply
    no-place command old looked new reply past none same replied =
        let part = past.part in
        let ends : last_of looked.run ≡ last_board (last_of old.run) part =
        last-on laws old looked part past.opening past.entries in record {
          part = part;
          entries = ap (λ (eye : EyeSeen). eye.run.entries) same ∙ past.entries;
          followed = NoSuchPlace (record {
            are_between = idle-between laws given.workers part past.idle;
            none = subst (λ (board : Seen). event_for given.session board command ≡ None) ends
                none;
            replied = replied
                ∙ ap (λ (board : Seen). NoPlace (length board.paragraphs)) ends;
          });
        }

    -- ---- a refusal
    takes-both : (old looked new : EyeSeen) → (first : TakesIn given.workers old looked)
        → (second : TakesIn given.workers looked new)
        → new.run.entries ≡ old.run.entries ++ (first.part ++ second.part)
    takes-both old looked new first second =
        second.entries ∙ ap (λ front. front ++ second.part) first.entries
        ∙ append_assoc old.run.entries first.part second.part

    turned-down : (command : Command) (old looked new : EyeSeen) (event : SeenEvent)
        (refusal : Refusal) (reply : Reply) → TakesIn given.workers old looked
        → PutsWhole (last_of looked.run) command
        → event_for given.session (last_of looked.run) command ≡ Some event
        → TakesIn given.workers looked new → HasNoMore given.workers new
        → first_refusal (last_of new.run) event ≡ Some refusal
        → reply_for refusal ≡ Some reply
        → PlaceStretch given command old new reply
    turned-down command old looked new event refusal reply past whole is more most first
        replied =
        let part = past.part ++ more.part in
        let entries : new.run.entries ≡ old.run.entries ++ part =
        takes-both old looked new past more in
        let ends : last_of new.run ≡ last_board (last_of old.run) part =
        last-on laws old new part (more.opening ∙ past.opening) entries in
        let there : last_of new.run ≡ last_board (last_of looked.run) more.part =
        last-on laws looked new more.part more.opening more.entries in
        let steps : AreSteps (last_of looked.run) more.part =
        (steps-on laws looked new more.part most more.opening more.entries).1 in
        let same : (last_of new.run).paragraphs ≡ (last_of looked.run).paragraphs =
        ap (λ (board : Seen). board.paragraphs) there
        ∙ idle-keeps laws given.workers (last_of looked.run) more.part steps more.idle in
        let now : event_for given.session (last_of new.run) command ≡ Some event =
        event-same given.session (last_of new.run) (last_of looked.run) command same ∙ is in
        record {
          part = part;
          entries = entries;
          followed = TurnedDown (record {
            are_between = idle-between laws given.workers part
                (idle-append laws given.workers past.part more.part past.idle more.idle);
            whole = subst (λ (board : Seen). PutsWhole board command) ends
                (whole-same (last_of new.run) (last_of looked.run) command same whole);
            event = event;
            event_is = subst
                (λ (board : Seen). event_for given.session board command ≡ Some event) ends now;
            refusal = refusal;
            first = subst (λ (board : Seen). first_refusal board event ≡ Some refusal) ends
                first;
            reply_is = replied;
          });
        }

    -- ---- an event
    taken : (command : Command) (old looked new : EyeSeen) (event : SeenEvent) (tells : ToldOf)
        (reply : Reply) → TakesIn given.workers old looked
        → event_for given.session (last_of looked.run) command ≡ Some event
        → TakesOwn given.workers event looked new tells → HasNoMore given.workers new
        → looked.number ≡ given.by → reply ≡ Done tells.text
        → PlaceStretch given command old new reply
    taken command old looked new event tells reply past is own most number replied =
        let skipped = past.part in
        let between = own.between in
        let entry : Entry =
        record { by = looked.number; event = event; board = own.board } in
        let front = skipped ++ between in
        let board = last_of looked.run in
        let steps : AreSteps board (between ++ entry ∷ []) =
        (steps-on laws looked new (between ++ entry ∷ []) most own.opening own.entries).1 in
        let same : (last_board board between).paragraphs ≡ board.paragraphs =
        idle-keeps laws given.workers board between
        (laws.apart board between (entry ∷ []) steps).0 own.idle in
        let ends : last_board (last_of old.run) front ≡ last_board board between =
        laws.last (last_of old.run) skipped between
        ∙ ap (λ (b : Seen). last_board b between)
        (sym (last-on laws old looked skipped past.opening past.entries)) in
        let entries : new.run.entries ≡ old.run.entries ++ (front ++ entry ∷ []) =
        own.entries ∙ ap (λ list. list ++ (between ++ entry ∷ [])) past.entries
        ∙ append_assoc old.run.entries skipped (between ++ entry ∷ [])
        ∙ ap (λ list. old.run.entries ++ list)
        (sym (append_assoc skipped between (entry ∷ []))) in
        record {
          part = front ++ entry ∷ [];
          entries = entries;
          followed = Taken (record {
            is_own = record {
              between = front;
              are_between = idle-between laws given.workers front
                  (idle-append laws given.workers skipped between past.idle own.idle);
              entry = entry;
              part_is = refl;
              own = number;
            };
            event_is = ap (λ (b : Seen). event_for given.session b command) ends
                ∙ event-same given.session (last_board board between) board command same ∙ is;
            replied = replied ∙ ap Done own.text;
          });
        }

    -- ---- a command that names a place
    event-told : (command : Command) (old looked new : EyeSeen) (event : SeenEvent)
        (reply : Reply) → TakesIn given.workers old looked
        → PutsWhole (last_of looked.run) command
        → event_for given.session (last_of looked.run) command ≡ Some event
        → IsEventTold event looked new reply → HasCounted looked → HasNoMore given.workers new
        → looked.number ≡ given.by → PlaceStretch given command old new reply
    event-told command old looked new event reply past whole is
        (WasTaken tells publishes replied) least most number =
        taken command old looked new event tells reply past is
        (publishes-own laws given.workers event looked new tells
        (event-asked given.session (last_of looked.run) command event is) publishes least most)
        most number replied
    event-told command old looked new event reply past whole is (WasTurnedDown down) least
        most number =
        turned-down command old looked new event down.refusal reply past whole is
        (looks-in laws given.workers looked new down.looks least most) most down.first
        down.replied

    command-told : (command : Command) (found : Option SeenEvent) (old looked new : EyeSeen)
        (reply : Reply) → TakesIn given.workers old looked
        → PutsWhole (last_of looked.run) command
        → event_for given.session (last_of looked.run) command ≡ found
        → IsCommandTold found looked new reply → HasCounted looked
        → HasNoMore given.workers new → looked.number ≡ given.by
        → PlaceStretch given command old new reply
    command-told command None old looked new reply past whole is tells least most number =
        no-place command old looked new reply past is tells.0 tells.1
    command-told command (Some event) old looked new reply past whole is tells least most
        number =
        event-told command old looked new event reply past whole is tells least most number

    pub place-told : (command : Command) (old new : EyeSeen) (reply : Reply)
        → IsPlaceTold given.session command old new reply → HasCounted old
        → HasNoMore given.workers new → old.number ≡ given.by
        → PlaceStretch given command old new reply
    place-told command old new reply place least most number =
        let looked = place.looked in
        let found = event_for given.session (last_of looked.run) command in
        let goes = goes-looks laws old looked place.looks in
        let there : HasNoMore given.workers looked =
        no-more-before laws looked new
        (goes-command given.session command found looked new reply refl place.told) most in
        command-told command found old looked new reply
        (looks-in laws given.workers old looked place.looks least there) place.whole refl place.told
        (counted-on laws old looked goes least) most (goes.number ∙ number)
