-- A command does what its event makes of the board, and each refusal of such an event has a reply.
use Rattle.std.proofs.Common.{◌≡◌, ◌∙◌, inl, inr, refl, sym, ap, subst, ℕ, suc, ◌+◌, ◌*◌, ◌<◌, ◌≤◌}
use Rattle.std.proofs.Common.{◌^◌, ◌==◌, Bool, true, false, cond, List, [], ◌∷◌, ◌++◌, length, map}
use Rattle.std.proofs.Common.{set, take, drop, get_or, position, slice_get, ltb, leb, Option, None}
use Rattle.std.proofs.Common.{Some, Result, Ok, Err, IfOk, append-nil, arith}
use Rattle.std.proofs.Math.Seq.{drop-length}
use Rattle.std.specs.List.{count_by, insert, position_or_len, remove}
use Rattle.std.specs.Option.{option_map, option_map_or, option_or}
use Rattle.std.specs.Str.{IsUtf8}
use Rattle.std.proofs.lemmas.Bool.{eq-eqb, eqb-true, false≢true, leb-true, lt-ltb}
use Rattle.std.proofs.lemmas.Bool.Decides.{nat_tests}
use Rattle.std.proofs.lemmas.Grind.{common_steps}
use Rattle.std.proofs.lemmas.List.{length-map, map-set, set_split, take-append-drop}
use Rattle.std.proofs.lemmas.List.Elements.{All-from_recursion}
use Rattle.std.proofs.lemmas.List.Folds.{find_at}
use Rattle.std.proofs.lemmas.List.Quantifiers.{position-Some}
use Rattle.std.proofs.lemmas.Option.{cond_some, gets, none-some, option_and_then_some, same_Some}
use Rattle.std.proofs.lemmas.Option.{slice_get-get_or, slice_get-map, slice_get_past}
use Rattle.std.proofs.lemmas.Option.{slice_get_within}
use Rattle.std.proofs.lemmas.Str.{IsCharBoundary-start}
use Rattle.outside.specs.lists.Laws.{map-insert, map-remove}
use Rattle.console_lang.specs.declared.command.Command.{Command}
use Rattle.console_lang.specs.declared.command.Command.TheVariants.{Ins, Put, Sub, Del, Stop, Ask}
use Rattle.console_lang.specs.declared.command.Command.TheVariants.{Load, Own, Show, Settle}
use Rattle.console_lang.specs.declared.command.Command.TheVariants.{Quit}
use Rattle.console_lang.specs.declared.reply.Reply.{Reply}
use Rattle.console_lang.specs.declared.reply.Reply.TheVariants.{Done, NoPlace, NoBadSpan, NoTooLong}
use Rattle.console_lang.specs.declared.reply.Reply.TheVariants.{NoFull, NoFinished, NoParked}
use Rattle.console_lang.specs.declared.reply.Reply.TheVariants.{NoNotParked}
use Rattle.edit_core.specs.paragraph_text.Paragraphs.{Paragraph, HasNoBreak}
use Rattle.edit_core.specs.paragraph_text.Edits.{Applies, BeginsWith, break_in, edit_refusal}
use Rattle.edit_core.specs.paragraph_text.Edits.{gone_before, is_span, spliced}
use Rattle.edit_core.specs.paragraph_text.Edits.{unless as unless_edit}
use Rattle.edit_core.specs.paragraph_text.Edits.{with_id}
use Rattle.edit_core.specs.paragraph_text.declared.edits.Edit.{Edit}
use Rattle.edit_core.specs.paragraph_text.declared.edits.Edit.TheVariants.{Insert, Remove, Replace}
use Rattle.edit_core.specs.paragraph_text.declared.edits.EditRefusal.{EditRefusal}
use Rattle.edit_core.specs.paragraph_text.declared.edits.EditRefusal.TheVariants as edits
use Rattle.edit_core.specs.Events.{SeenEvent, AnEdit, AFinish, APark, AnAsk}
use Rattle.edit_core.specs.Runs.{furthest_point, is_held, is_waiting}
use Rattle.edit_core.specs.Seen.{Seen, IsValidBoard}
use Rattle.edit_core.specs.Steps.{IsAt, IsDecided, IsFit, Makes, Moves, Step, event_refusal}
use Rattle.edit_core.specs.Steps.{first_refusal, found, kept_after, not_parked, place_of}
use Rattle.edit_core.specs.Steps.{refusal_of, settled, spent, unless}
use Rattle.edit_core.specs.declared.refusal.Refusal.{Refusal}
use Rattle.edit_core.specs.declared.refusal.Refusal.TheVariants.{Gone, Spent}
use Rattle.edit_core.specs.declared.state.Standing.{Standing}
use Rattle.edit_core.specs.declared.state.Standing.TheVariants as standing
use Rattle.edit_core.specs.Laws.{find-beside}
use Rattle.edit_core.specs.paragraph_text.Laws.{split-at}
use Rattle.console_board.specs.BoardAnswers.{HasReply, IsEventAnswered, IsAsked, IsWholeAt}
use Rattle.console_board.specs.BoardAnswers.{PutsWhole}
use Rattle.console_board.specs.BoardAnswers.{event_for, gap_at, names_place, paragraph_at}
use Rattle.console_board.specs.BoardAnswers.{reply_for}
use Rattle.console_board.specs.Boards.{console_of, state_of}
use Rattle.console_board.specs.Consoles.{Console, Outcome, TextState, Waiting, asked_from, at_place}
use Rattle.console_board.specs.Consoles.{index_of, inserted, remove_at, replace_at, splice_at}
use Rattle.console_board.specs.Consoles.{state_at, stopped_from, console_text_at}
use Rattle.console_board.specs.Transcripts.{IsReplyTo, HasWholeText, HasOutcome}
use Rattle.edit_core.specs.declared.limits.TheConstants.{MOST_MOVED}
use Rattle.edit_core.specs.paragraph_text.declared.limits.TheConstants.{MOST_BYTES, MOST_PARAGRAPHS}

-- what follows of a value, if there is one
pub if-ok : {T E : Type 0} (result : Result T E) {P Q : T → Type 0} → ((x : T) → P x → Q x)
    → IfOk result P → IfOk result Q
if-ok (Ok x) gives is = gives x is
if-ok (Err e) gives is = is

-- a value that is made of another one
mapped : {X Y P : Type 0} (f : X → Y) (o : Option X) (y : Y) → option_map f o ≡ Some y
    → ((x : X) → o ≡ Some x → f x ≡ y → P) → P
mapped f None y is goes = absurd (none-some y is)
mapped f (Some x) y is goes = goes x refl (same_Some (f x) y is)

unmapped : {X Y : Type 0} (f : X → Y) (o : Option X) → option_map f o ≡ None → o ≡ None
unmapped f o is = grind arith

-- ---- places

index-within : (place count index : ℕ) → index_of place count ≡ Some index → index < count
index-within place count index is = grind (arith, nat_tests)

pub paragraph-made : (board : Seen) (place index : ℕ) (paragraph : Paragraph) → place ≡ index + 1
    → slice_get board.paragraphs index ≡ Some paragraph → paragraph_at board place ≡ Some paragraph
paragraph-made board place index paragraph is here = grind (arith, nat_tests, gets)

-- where there is no paragraph, the place has no index
no-index : (board : Seen) (place : ℕ) → paragraph_at board place ≡ None
    → index_of place (length board.paragraphs) ≡ None
no-index board place none = grind (arith, nat_tests, gets)

-- a text in UTF-8 is whole characters
whole-text : (text : List ℕ) → IsUtf8 text → is_span text 0 (length text) ≡ true
whole-text [] utf8 = refl
whole-text (byte ∷ rest) utf8 =
    let begins : 128 ≤ byte → 192 ≤ byte =
    (IsCharBoundary-start (byte ∷ rest) utf8).1 (omega arith) in
    grind (arith, nat_tests, slice_get_past)

pub whole-at : (board : Seen) (place : ℕ) (paragraph : Paragraph)
    → paragraph_at board place ≡ Some paragraph → IsUtf8 paragraph.text → IsWholeAt board place
whole-at board place paragraph at utf8 other is =
    let same = same_Some paragraph other (sym at ∙ is) in
    rw same at (whole-text paragraph.text utf8)

-- ---- what is found of a paragraph by its id

-- what the core says of each board: a paragraph stands at the place of its id
abbrev pub IdsArePlaces : Type 0
IdsArePlaces = (board : Seen) (index : ℕ) (paragraph : Paragraph) → IsValidBoard board
    → slice_get board.paragraphs index ≡ Some paragraph
    → place_of paragraph.id board.paragraphs ≡ Some index

-- how the paragraph with an index, from 0, stands, and that it is found by its id
record IsHere (board : Seen) (index : ℕ) (paragraph : Paragraph) : Type 0 where
  stands : Standing
  at : IsAt board paragraph.id index paragraph stands
  named : with_id paragraph.id board.paragraphs ≡ Some paragraph
  found_is : found paragraph.id board ≡ Some (paragraph, stands)

here-is : (board : Seen) (index : ℕ) (paragraph : Paragraph) → IdsArePlaces → IsValidBoard board
    → slice_get board.paragraphs index ≡ Some paragraph → IsHere board index paragraph
here-is board index paragraph ids valid here =
    let paragraphs = board.paragraphs in
    let standings = board.standings in
    let named = λ (p : Paragraph). p.id == paragraph.id in
    let inside = slice_get_within paragraphs index paragraph here in
    let within : index < length standings = omega (arith, valid.standings) in
    let beside = slice_get-get_or standings index standing.Waiting within in
    let place-is = ids board index paragraph valid here in
    let first : position_or_len named paragraphs ≡ index = (cond_some _ _ index place-is).1 in
    record {
      stands = get_or standings index standing.Waiting;
      at = record { place_is = place-is; paragraph_is = here; standing_is = beside };
      named = find_at named paragraphs ∙ ap (slice_get paragraphs) first ∙ here;
      found_is = find-beside named paragraphs standings index first here beside;
    }

-- what the core asks of the index at which a text is put in, and what is kept of each paragraph
record IsGap (board : Seen) (index : ℕ) (before : Option ℕ) : Type 0 where
  begins : BeginsWith before (drop index board.paragraphs)
  gone : gone_before board.paragraphs before ≡ None
  kept : (put : List ℕ)
      → kept_after standing.Waiting board.paragraphs board.standings (Insert before put)
      ≡ insert board.standings index standing.Waiting

-- ---- lists

drop-at : {X : Type 0} (xs : List X) (k : ℕ) (x : X) → slice_get xs k ≡ Some x
    → drop k xs ≡ x ∷ drop (suc k) xs
drop-at xs k x is = grind (arith, common_steps, gets)

-- all bytes of a text become others
all-spliced : (text put : List ℕ) → spliced text 0 (length text) put ≡ put
all-spliced text put = ap (λ rest. put ++ rest) (drop-length text) ∙ append-nil put

-- ---- what comes of an event that is answered

-- what an edit makes of a console
abbrev edited : Console → List (List ℕ) → List TextState → Outcome
edited console texts stands = record {
  reply = Done (console.text_version + 1);
  after = record console
      { text_version = console.text_version + 1; texts = texts; states = stands };
}

module _ (by : ℕ) (board after : Seen) (reply : Reply) where
  abbrev console : Console
  console = console_of board

  -- this is replied, and the board becomes that console
  abbrev Becomes : Outcome → Type 0
  Becomes outcome = HasOutcome outcome reply (console_of after)

  -- an event with this refusal, if it has one, is answered so
  abbrev Told : SeenEvent → Option Refusal → Type 0
  Told event first = IsEventAnswered board event first reply after

  -- an event is answered so while the history goes on
  abbrev Answered : SeenEvent → Type 0
  Answered event = Told event (event_refusal board event)

  -- a refusal with a reply is replied to so, and the console stays
  replied : (said : Reply) → Some said ≡ Some reply → after ≡ board
      → Becomes (record { reply = said; after = console })
  replied said is same = (sym (same_Some said reply is), ap console_of same)

  -- of a history that is spent there is no reply, so this one goes on
  goes-on : (event : SeenEvent) → Told event (first_refusal board event)
      → Answered event
  goes-on event answered = with-test (ltb board.point (2 ^ 62)) answered
    where
      with-test : (goes : Bool)
          → Told event (option_or (unless goes (Spent board.point)) (event_refusal board event))
          → Answered event
      with-test true answered = answered
      with-test false answered = absurd (none-some reply answered.0)

  -- nor is there one of a line feed
  past-break : (event : SeenEvent) (at : Option ℕ) (rest : Option EditRefusal)
      → Told event (option_map refusal_of (option_or (option_map edits.HasBreak at) rest))
      → Told event (option_map refusal_of rest)
  past-break event None rest answered = answered
  past-break event (Some at) rest answered = absurd (none-some reply answered.0)

  -- a test that the console makes as the board does, and what comes behind it
  tested : (event : SeenEvent) (holds : Bool) (refusal : EditRefusal) (said : Reply)
      (rest : Option EditRefusal) {outcome : Outcome} → reply_for (refusal_of refusal) ≡ Some said
      → Told event (option_map refusal_of (option_or (unless_edit holds refusal) rest))
      → (holds ≡ true → Told event (option_map refusal_of rest) → Becomes outcome)
      → Becomes (cond holds outcome (record { reply = said; after = console }))
  tested event true refusal said rest says answered goes = goes refl answered
  tested event false refusal said rest says answered goes =
      replied said (sym says ∙ answered.0) answered.1

  last-tested : (event : SeenEvent) (holds : Bool) (refusal : EditRefusal) (said : Reply)
      (outcome : Outcome) → reply_for (refusal_of refusal) ≡ Some said
      → Told event (option_map refusal_of (unless_edit holds refusal))
      → (holds ≡ true → Told event None → Becomes outcome)
      → Becomes (cond holds outcome (record { reply = said; after = console }))
  last-tested event true refusal said outcome says answered goes = goes refl answered
  last-tested event false refusal said outcome says answered goes =
      replied said (sym says ∙ answered.0) answered.1

  -- an edit that is taken makes these paragraphs, and no others
  taken : (edit : Edit) (paragraphs : List Paragraph) (texts : List (List ℕ))
      (stands : List TextState)
      → Told (AnEdit by edit) None
      → Applies (board.text_version + 1) board.next_id board.paragraphs edit paragraphs
      → map (λ paragraph. paragraph.text) paragraphs ≡ texts
      → map state_of (kept_after standing.Waiting board.paragraphs board.standings edit) ≡ stands
      → Becomes (edited console texts stands)
  taken edit paragraphs texts stands is applies texts-are stands-are =
      let same = is.only _ (record {
        goes_on = is.step.goes_on;
        makes = record { paragraphs = paragraphs; applied = applies; after_is = refl };
      }) in (
        is.reply_is ∙ ap (λ (b : Seen). Done b.text_version) (sym same),
        ap console_of (sym same) ∙ cc (texts-are, stands-are),
      )

  -- ---- the paragraph that is there

  module _ {index : ℕ} {paragraph : Paragraph} (here : IsHere board index paragraph) where
    own-rev : (paragraph.rev == paragraph.rev) ≡ true
    own-rev = eq-eqb paragraph.rev paragraph.rev refl

    -- `del P`
    removed-here : Answered (AnEdit by (Remove paragraph.id paragraph.rev))
        → Becomes (remove_at console index)
    removed-here answered =
        taken (Remove paragraph.id paragraph.rev) (remove board.paragraphs index)
        (remove console.texts index) (remove console.states index)
        (rw (here.named, own-rev) at answered)
        (record {
          front = take index board.paragraphs;
          touched = paragraph;
          rest = drop (suc index) board.paragraphs;
          before_is = split-at board.paragraphs index paragraph here.at.paragraph_is;
          named = refl;
          current = refl;
          after_is = refl;
        })
        (map-remove (λ p. p.text) board.paragraphs index)
        (rw here.at.place_is (map-remove state_of board.standings index))

    text-here : console_text_at console index ≡ paragraph.text
    text-here =
        rw (slice_get-map (λ (p : Paragraph). p.text) board.paragraphs index, here.at.paragraph_is)

    -- `sub P FROM TO TEXT`
    spliced-here : (from to : ℕ) (put : List ℕ)
        → Answered (AnEdit by (Replace paragraph.id paragraph.rev from to put))
        → Becomes (splice_at console from to put index)
    spliced-here from to put answered =
        let event = AnEdit by (Replace paragraph.id paragraph.rev from to put) in
        let text = paragraph.text in
        let made = spliced text from to put in
        let inside = slice_get_within board.paragraphs index paragraph here.at.paragraph_is in
        let changed : Paragraph =
        record { id = paragraph.id; rev = board.text_version + 1; text = made } in
        rw text-here (
        tested event (is_span text from to) (edits.BadSpan (length text)) (NoBadSpan (length text))
        _ refl (rw (here.named, own-rev) at answered)
        (λ span rest. last-tested event (leb (length made) MOST_BYTES) (edits.TooLong (length made))
        (NoTooLong (length made)) _ refl (past-break event _ _ rest)
        (λ short is. taken (Replace paragraph.id paragraph.rev from to put)
        (set board.paragraphs index changed) (set console.texts index made)
        (set console.states index Waiting) is
        (record {
          front = take index board.paragraphs;
          touched = paragraph;
          rest = drop (suc index) board.paragraphs;
          before_is = split-at board.paragraphs index paragraph here.at.paragraph_is;
          named = refl;
          current = refl;
          span = span;
          whole = is.step.makes.applied.whole;
          short = leb-true (length made) MOST_BYTES short;
          after_is = set_split board.paragraphs index changed inside;
        })
        (map-set (λ p. p.text) board.paragraphs index changed)
        (rw here.at.place_is (map-set state_of board.standings index standing.Waiting))))
        )

    -- `put P TEXT`
    whole-here : (put : List ℕ) → is_span paragraph.text 0 (length paragraph.text) ≡ true
        → Answered (AnEdit by (Replace paragraph.id paragraph.rev 0 (length paragraph.text) put))
        → Becomes (replace_at console put index)
    whole-here put whole answered =
        rw (text-here, whole, all-spliced paragraph.text put)
        at (spliced-here 0 (length paragraph.text) put answered)

    -- a board that differs in how the paragraph stands
    abbrev moved : Standing → Seen
    moved becomes =
        record board { point = board.point + 1; standings = set board.standings index becomes }

    abbrev stood : TextState → Outcome
    stood stand = record {
      reply = Done board.text_version;
      after = record console { states = set console.states index stand };
    }

    makes-moved : {may : Paragraph → Standing → Type 0} {becomes stands : Standing}
        → IsAt board paragraph.id index paragraph stands → may paragraph stands
        → Moves board paragraph.id may becomes (moved becomes)
    makes-moved {may} {becomes} {stands} at allowed = record {
      place = index;
      paragraph = paragraph;
      stands = stands;
      here = at;
      allowed = allowed;
      after_is = refl;
    }

    moves : (event : SeenEvent) (becomes : Standing) → Told event None
        → Makes board event (moved becomes) → Becomes (stood (state_of becomes))
    moves event becomes is makes =
        let same = sym (is.only _ (record { goes_on = is.step.goes_on; makes = makes })) in (
          is.reply_is ∙ ap (λ (b : Seen). Done b.text_version) same,
          ap console_of same ∙ cc (map-set state_of board.standings index becomes),
        )

    stand-here : state_at console index ≡ state_of here.stands
    stand-here = rw (slice_get-map state_of board.standings index, here.at.standing_is)

    -- `stop P`
    parked : (stands : Standing) → IsAt board paragraph.id index paragraph stands
        → Told (APark by paragraph.id) (settled paragraph.rev stands)
        → Becomes (stopped_from console index (state_of stands))
    parked standing.Waiting at answered = moves (APark by paragraph.id) standing.Parked answered
        (makes-moved at refl)
    parked (standing.Held worker) at answered = moves (APark by paragraph.id) standing.Parked
        answered (makes-moved at refl)
    parked standing.Finished at answered = replied NoFinished answered.0 answered.1
    parked standing.Parked at answered = replied NoParked answered.0 answered.1

    stopped-here : Answered (APark by paragraph.id)
        → Becomes (stopped_from console index (state_at console index))
    stopped-here answered =
        rw stand-here (parked here.stands here.at (rw here.found_is at answered))

    -- `ask P`
    waits-again : (stands : Standing) → IsAt board paragraph.id index paragraph stands
        → Told (AnAsk by paragraph.id) (not_parked paragraph.rev stands)
        → Becomes (asked_from console index (state_of stands))
    waits-again standing.Parked at answered = moves (AnAsk by paragraph.id) standing.Waiting
        answered (makes-moved at refl)
    waits-again standing.Waiting at answered = replied NoNotParked answered.0 answered.1
    waits-again (standing.Held worker) at answered = replied NoNotParked answered.0 answered.1
    waits-again standing.Finished at answered = replied NoNotParked answered.0 answered.1

    asked-here : Answered (AnAsk by paragraph.id)
        → Becomes (asked_from console index (state_at console index))
    asked-here answered =
        rw stand-here (waits-again here.stands here.at (rw here.found_is at answered))

  -- ---- a command that is an event of the board

  module _ (ids : IdsArePlaces) (valid : IsValidBoard board) where
    gap-is : (index : ℕ) → index < length board.paragraphs + 1
        → IsGap board index (option_map (λ p. p.id) (slice_get board.paragraphs index))
    gap-is index within = with-found (slice_get board.paragraphs index) refl
      where
        with-found : (at : Option Paragraph) → slice_get board.paragraphs index ≡ at
            → IsGap board index (option_map (λ paragraph. paragraph.id) at)
        with-found (Some paragraph) at =
            let here = here-is board index paragraph ids valid at in record {
              begins = rw (drop-at board.paragraphs index paragraph at) refl;
              gone = rw here.named;
              kept = λ put. rw here.at.place_is;
            }
        with-found None at =
            let last : index ≡ length board.paragraphs =
            grind (arith, common_steps, gets) in record {
              begins = rw last (drop-length board.paragraphs);
              gone = refl;
              kept = λ put. rw last refl;
            }

    -- `ins P TEXT`
    inserted-here : (place : ℕ) (before : Option ℕ) (put : List ℕ)
        → gap_at board place ≡ Some before → Answered (AnEdit by (Insert before put))
        → Becomes (inserted console place put)
    inserted-here place before put at answered =
        mapped _ (index_of place (length board.paragraphs + 1)) before at (λ index place-is same.
        let event = AnEdit by (Insert before put) in
        let count = length board.paragraphs in
        let within = index-within place (count + 1) index place-is in
        let gap = subst (IsGap board index) same (gap-is index within) in
        let new : Paragraph =
        record { id = board.next_id; rev = board.text_version + 1; text = put } in
        let texts = insert console.texts index put in
        let stands = insert console.states index Waiting in
        let no-room : Outcome = record { reply = NoFull count; after = console } in
        let long = length-map board.paragraphs (λ p. p.text) in
        rw (long, place-is, long) (
        tested event (leb (length put) MOST_BYTES) (edits.TooLong (length put))
        (NoTooLong (length put))
        _ {outcome = cond (ltb count MOST_PARAGRAPHS) (edited console texts stands) no-room} refl
        (past-break event _ _ (rw gap.gone at answered))
        (λ short rest. last-tested event (ltb count MOST_PARAGRAPHS) (edits.Full count)
        (NoFull count)
        (edited console texts stands) refl rest
        (λ room is. taken (Insert before put) (insert board.paragraphs index new) texts stands is
        (record {
          front = take index board.paragraphs;
          rest = drop index board.paragraphs;
          before_is = sym (take-append-drop index board.paragraphs);
          begins = gap.begins;
          whole = is.step.makes.applied.whole;
          short = is.step.makes.applied.short;
          room = is.step.makes.applied.room;
          after_is = refl;
        })
        (map-insert (λ p. p.text) board.paragraphs index new)
        (ap (map state_of) (gap.kept put)
        ∙ map-insert state_of board.standings index standing.Waiting)))
        ))

    -- what is done at a place is done with the paragraph that is there, by an event of it
    done-at : (place : ℕ) (does : ℕ → Outcome) (event_at : Paragraph → SeenEvent)
        (event : SeenEvent) → option_map event_at (paragraph_at board place) ≡ Some event
        → Told event (first_refusal board event)
        → ((index : ℕ) (paragraph : Paragraph) → IsHere board index paragraph
        → paragraph_at board place ≡ Some paragraph → Answered (event_at paragraph)
        → Becomes (does index))
        → Becomes (at_place console place does)
    done-at place does event_at event is answered goes =
        let paragraphs = board.paragraphs in
        mapped event_at (paragraph_at board place) event is (λ paragraph at same.
        option_and_then_some (slice_get paragraphs) (index_of place (length paragraphs)) paragraph
        at (λ index place-is there.
        rw (length-map paragraphs (λ p. p.text), place-is)
        (goes index paragraph (here-is board index paragraph ids valid there) at
        (subst Answered (sym same) (goes-on event answered)))))

    -- the command does what its event makes of the board
    pub event-does : (command : Command) (event : SeenEvent) → PutsWhole board command
        → event_for by board command ≡ Some event → Told event (first_refusal board event)
        → IsReplyTo console command reply (console_of after)
    unfolding IsReplyTo
    event-does (Ins place text) event whole is answered =
        mapped _ (gap_at board place) event is (λ before at same.
        inserted-here place before text at (subst Answered (sym same) (goes-on event answered)))
    event-does (Put place text) event whole is answered =
        done-at place (replace_at console text) _ event is answered
        (λ index paragraph here at. whole-here here text (whole paragraph at))
    event-does (Sub place from to text) event whole is answered =
        done-at place (splice_at console from to text) _ event is answered
        (λ index paragraph here at. spliced-here here from to text)
    event-does (Del place) event whole is answered =
        done-at place (remove_at console) _ event is answered
        (λ index paragraph here at. removed-here here)
    event-does (Stop place) event whole is answered =
        done-at place (λ index. stopped_from console index (state_at console index)) _ event is
        answered (λ index paragraph here at. stopped-here here)
    event-does (Ask place) event whole is answered =
        done-at place (λ index. asked_from console index (state_at console index)) _ event is
        answered (λ index paragraph here at. asked-here here)
    event-does _ event whole is answered = absurd (none-some event is)

  -- ---- a command that is none

  nowhere : (place : ℕ) (does : ℕ → Outcome) (event_at : Paragraph → SeenEvent)
      → option_map event_at (paragraph_at board place) ≡ None
      → reply ≡ NoPlace (length board.paragraphs) → after ≡ board
      → Becomes (at_place console place does)
  nowhere place does event_at none is stays =
      let past = no-index board place (unmapped event_at (paragraph_at board place) none) in
      rw (length-map board.paragraphs (λ p. p.text), past) (is, ap console_of stays)

  -- it is told that there is no such place, and nothing changes
  pub no-event-does : (command : Command) → names_place command ≡ true
      → event_for by board command ≡ None → reply ≡ NoPlace (length board.paragraphs)
      → after ≡ board → IsReplyTo console command reply (console_of after)
  unfolding IsReplyTo
  no-event-does (Ins place text) named none is stays =
      let past = unmapped _ (index_of place (length board.paragraphs + 1)) (unmapped _ _ none) in
      rw (length-map board.paragraphs (λ p. p.text), past) (is, ap console_of stays)
  no-event-does (Load aff dic) named none is stays = absurd (false≢true named)
  no-event-does (Own text) named none is stays = absurd (false≢true named)
  no-event-does Show named none is stays = absurd (false≢true named)
  no-event-does Settle named none is stays = absurd (false≢true named)
  no-event-does Quit named none is stays = absurd (false≢true named)
  no-event-does _ named none is stays = nowhere _ _ _ none is stays

-- ---- refusals

-- the event of a command whose text has no line feed is one that a session asks for
asked-of : {X : Type 0} (f : X → SeenEvent) (o : Option X) (event : SeenEvent)
    → option_map f o ≡ Some event → ((x : X) → IsAsked (f x)) → IsAsked event
asked-of f o event is asked = mapped f o event is (λ x at same. subst IsAsked same (asked x))

pub event-asked : (by : ℕ) (board : Seen) (command : Command) (event : SeenEvent)
    → HasWholeText command → event_for by board command ≡ Some event → IsAsked event
event-asked by board (Ins place text) event whole is = asked-of _ _ event is (λ before. whole)
event-asked by board (Put place text) event whole is = asked-of _ _ event is (λ p. whole)
event-asked by board (Sub place from to text) event whole is = asked-of _ _ event is (λ p. whole)
event-asked by board (Load aff dic) event whole is = absurd (none-some event is)
event-asked by board (Own text) event whole is = absurd (none-some event is)
event-asked by board Show event whole is = absurd (none-some event is)
event-asked by board Settle event whole is = absurd (none-some event is)
event-asked by board Quit event whole is = absurd (none-some event is)
event-asked by board _ event whole is = asked-of _ _ event is (λ p. tt)

pub asked-fits : (board : Seen) (event : SeenEvent) → IsAsked event → IsFit board event
asked-fits board (AFinish worker id rev dict text lexicon) asked = absurd asked
asked-fits board _ asked = tt

-- an edit that is refused so has a reply
abbrev Has : Option EditRefusal → Type 0
Has first = HasReply (option_map refusal_of first)

has-or : (first second : Option EditRefusal) → Has first → Has second → Has (option_or first second)
has-or None second one two = two
has-or (Some refusal) second one two = one

has-unless : (holds : Bool) (refusal : EditRefusal) → Has (Some refusal)
    → Has (unless_edit holds refusal)
has-unless true refusal has = refl
has-unless false refusal has = has

has-found : (id : ℕ) (found : Option Paragraph) (asked : Paragraph → Option EditRefusal)
    → ((paragraph : Paragraph) → Has (asked paragraph))
    → Has (option_map_or asked found (Some (edits.Gone id)))
has-found id None asked has = refl
has-found id (Some paragraph) asked has = has paragraph

no-break : (text : List ℕ) → HasNoBreak text → Has (break_in text)
no-break text whole = by (position (λ byte. byte == 10) text) refl
  where
    by : (found : Option ℕ) → position (λ byte. byte == 10) text ≡ found
        → Has (option_map (λ at. edits.HasBreak at) found)
    by None is = refl
    by (Some k) is =
        let at = position-Some (λ (byte : ℕ). byte == 10) text k 0 is in
        absurd (All-from_recursion (λ byte. ¬ (byte ≡ 10)) text whole k 0 at.0 (eqb-true _ 10 at.1))

edit-has : (paragraphs : List Paragraph) (session : ℕ) (edit : Edit) → IsAsked (AnEdit session edit)
    → Has (edit_refusal paragraphs edit)
edit-has paragraphs session (Replace id rev from to put) whole =
    search (has-or, has-unless, has-found, no-break) depth 9
edit-has paragraphs session (Insert None put) whole = search (has-or, has-unless, no-break) depth 9
edit-has paragraphs session (Insert (Some id) put) whole =
    search (has-or, has-unless, has-found, no-break) depth 9
edit-has paragraphs session (Remove id rev) whole = search (has-unless, has-found) depth 9

event-has : (board : Seen) (event : SeenEvent) → IsAsked event
    → HasReply (event_refusal board event)
event-has board (AnEdit session edit) asked = edit-has board.paragraphs session edit asked
event-has board (APark session id) asked = parks (found id board)
  where
    parks : (row : Option (Paragraph × Standing))
        → HasReply (option_map_or (λ row. settled row.0.rev row.1) row (Some (Gone id)))
    parks None = refl
    parks (Some (paragraph, standing.Waiting)) = refl
    parks (Some (paragraph, _)) = refl
event-has board (AnAsk session id) asked = asks (found id board)
  where
    asks : (row : Option (Paragraph × Standing))
        → HasReply (option_map_or (λ row. not_parked row.0.rev row.1) row (Some (Gone id)))
    asks None = refl
    asks (Some (paragraph, standing.Parked)) = refl
    asks (Some (paragraph, _)) = refl
event-has board _ asked = absurd asked

-- before the last point of a history each refusal has a reply
pub has-reply : (board : Seen) (event : SeenEvent) → IsAsked event → board.point < 2 ^ 62
    → HasReply (first_refusal board event)
has-reply board event asked below =
    rw (lt-ltb board.point (2 ^ 62) below) (event-has board event asked)

-- a history that is far from its last point goes on
point-below : (point more all : ℕ) → point + more + MOST_MOVED ≤ all → point < all
point-below point more all room = omega arith

pub board-below : (board : Seen) → furthest_point board + MOST_MOVED ≤ 2 ^ 62
    → board.point < 2 ^ 62
board-below board room =
    point-below board.point
    (2 * count_by is_waiting board.standings + count_by is_held board.standings) (2 ^ 62) room

-- an event that a board takes is answered so, and has no refusal
pub answered-taken : {board after : Seen} {event : SeenEvent} {reply : Reply}
    → IsDecided board event → Step board event after → reply ≡ Done after.text_version
    → IsEventAnswered board event (first_refusal board event) reply after
answered-taken {board} {after} {event} {reply} decided step is =
    by decided (first_refusal board event) refl
  where
    by : IsDecided board event → (first : Option Refusal) → first_refusal board event ≡ first
        → IsEventAnswered board event first reply after
    by (inl (only, free)) None told =
        let back = sym (only.only after step) in
        record { step = step; only = λ other made. only.only other made ∙ back; reply_is = is }
    by (inl (only, free)) (Some refusal) told = absurd (free refusal told)
    by (inr (only, unmade)) first told = absurd (unmade after step)

-- ---- what is left of the premises of an event

-- an event of which it is decided that it makes a board is not refused
pub not-refused : (board after : Seen) (event : SeenEvent) → IsDecided board event
    → Step board event after → first_refusal board event ≡ None
not-refused board after event decided step = by decided (first_refusal board event) refl
  where
    by : IsDecided board event → (first : Option Refusal) → first_refusal board event ≡ first
        → first_refusal board event ≡ None
    by made None is = is
    by (inl made) (Some refusal) is = absurd (made.1 refusal is)
    by (inr none) (Some refusal) is = absurd (none.1 after step)

-- the event of a command is no check, so it is fit
fits-of : {X : Type 0} (board : Seen) (f : X → SeenEvent) (o : Option X) (event : SeenEvent)
    → option_map f o ≡ Some event → ((x : X) → IsFit board (f x)) → IsFit board event
fits-of board f o event is fits =
    mapped f o event is (λ x at same. subst (IsFit board) same (fits x))

event-fits : (by : ℕ) (board : Seen) (command : Command) (event : SeenEvent)
    → event_for by board command ≡ Some event → IsFit board event
event-fits by board (Ins place text) event is = fits-of board _ _ event is (λ before. tt)
event-fits by board (Load aff dic) event is = absurd (none-some event is)
event-fits by board (Own text) event is = absurd (none-some event is)
event-fits by board Show event is = absurd (none-some event is)
event-fits by board Settle event is = absurd (none-some event is)
event-fits by board Quit event is = absurd (none-some event is)
event-fits by board _ event is = fits-of board _ _ event is (λ p. tt)

-- where neither of two refusals is there
first-none : {X : Type 0} (one other : Option X) → option_or one other ≡ None → one ≡ None
first-none None other is = refl
first-none (Some x) other is = is

second-none : {X : Type 0} (one other : Option X) → option_or one other ≡ None → other ≡ None
second-none None other is = is
second-none (Some x) other is = absurd (none-some x (sym is))

unless-none : (holds : Bool) (refusal : EditRefusal) → unless_edit holds refusal ≡ None
    → holds ≡ true
unless-none true refusal is = refl
unless-none false refusal is = absurd (none-some refusal (sym is))

-- a text that another one may be put in place of is whole characters
put-whole : (by : ℕ) (board : Seen) (place : ℕ) (put : List ℕ) (event : SeenEvent) → IdsArePlaces
    → IsValidBoard board → event_for by board (Put place put) ≡ Some event
    → first_refusal board event ≡ None → IsWholeAt board place
put-whole by board place put event ids valid is free paragraph at =
    let paragraphs = board.paragraphs in
    let text = paragraph.text in
    let edit_at = λ (p : Paragraph). Replace p.id p.rev 0 (length p.text) put in
    let event_at = λ (p : Paragraph). AnEdit by (edit_at p) in
    let same = same_Some (event_at paragraph) event (sym (ap (option_map event_at) at) ∙ is) in
    option_and_then_some (slice_get paragraphs) (index_of place (length paragraphs)) paragraph at
    (λ index place-is there.
    let here = here-is board index paragraph ids valid there in
    let own-rev = eq-eqb paragraph.rev paragraph.rev refl in
    let none =
    unmapped refusal_of (edit_refusal paragraphs (edit_at paragraph))
    (second-none (spent board) (event_refusal board (event_at paragraph))
    (subst (λ e. first_refusal board e ≡ None) (sym same) free)) in
    unless-none (is_span text 0 (length text)) (edits.BadSpan (length text))
    (first-none (unless_edit (is_span text 0 (length text)) (edits.BadSpan (length text))) _
    (rw (here.named, own-rev) at none)))

puts-whole : (by : ℕ) (board : Seen) (command : Command) (event : SeenEvent) → IdsArePlaces
    → IsValidBoard board → event_for by board command ≡ Some event
    → first_refusal board event ≡ None → PutsWhole board command
puts-whole by board (Put place text) event ids valid is free =
    put-whole by board place text event ids valid is free
puts-whole by board _ event ids valid is free = tt

-- ---- what a command comes to

-- the command does what its event makes of a board that takes it
pub event-taken : (by : ℕ) (before after : Seen) (command : Command) (event : SeenEvent)
    → IdsArePlaces
    → ((board : Seen) (event : SeenEvent) → IsValidBoard board → IsFit board event
    → IsDecided board event)
    → IsValidBoard before → event_for by before command ≡ Some event → Step before event after
    → IsReplyTo (console_of before) command (Done after.text_version) (console_of after)
event-taken by before after command event ids decided valid is step =
    let one = decided before event valid (event-fits by before command event is) in
    event-does by before after (Done after.text_version) ids valid command event
    (puts-whole by before command event ids valid is (not-refused before after event one step))
    is (answered-taken one step refl)

-- where a board refuses the event, this is replied and the console stays
pub event-refused : (by : ℕ) (board : Seen) (command : Command) (event : SeenEvent)
    (refusal : Refusal) (reply : Reply) → IdsArePlaces
    → IsValidBoard board → PutsWhole board command → event_for by board command ≡ Some event
    → first_refusal board event ≡ Some refusal → reply_for refusal ≡ Some reply
    → IsReplyTo (console_of board) command reply (console_of board)
event-refused by board command event refusal reply ids valid whole is first told =
    event-does by board board reply ids valid command event whole is
    (subst (λ first. IsEventAnswered board event first reply board) (sym first) (told, refl))
