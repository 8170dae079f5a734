-- Which event a command is over a board, and what is replied to it.
use Rattle.std.specs.Prelude.{◌≡◌, ℕ, ◌+◌, Bool, true, false, length, map, slice_get, Option, None}
use Rattle.std.specs.Prelude.{Some, is_some, option_and_then}
use Rattle.std.specs.Option.{ForSome, option_map, option_map_or}
use Rattle.console_lang.specs.declared.command.Command.{Command}
use Rattle.console_lang.specs.declared.command.Command.TheVariants.{Ins, Put, Sub, Del, Load, Stop}
use Rattle.console_lang.specs.declared.command.Command.TheVariants.{Ask, Own, Show, Settle, Quit}
use Rattle.console_lang.specs.declared.reply.Reply.{Reply}
use Rattle.console_lang.specs.declared.reply.Reply.TheVariants.{Done, Shown, NoGone, NoBehind}
use Rattle.console_lang.specs.declared.reply.Reply.TheVariants.{NoBadSpan, NoTooLong, NoFull}
use Rattle.console_lang.specs.declared.reply.Reply.TheVariants.{NoFinished, NoParked, NoNotParked}
use Rattle.console_lang.specs.declared.reply.ShownPara.{ShownPara}
use Rattle.console_lang.specs.declared.reply.ShownPara.TheVariants.{Pending, Finished as Checked}
use Rattle.edit_core.specs.paragraph_text.Paragraphs.{Paragraph, HasNoBreak}
use Rattle.edit_core.specs.paragraph_text.Edits.{is_span}
use Rattle.edit_core.specs.paragraph_text.declared.edits.Edit.TheVariants.{Insert, Remove, Replace}
use Rattle.edit_core.specs.Events.{SeenEvent, AnEdit, APark, AnAsk}
use Rattle.edit_core.specs.Seen.{Seen}
use Rattle.edit_core.specs.Steps.{Step}
use Rattle.edit_core.specs.Views.{ShownMarks, Marked, Unmarked, view_of}
use Rattle.edit_core.specs.declared.refusal.Refusal.{Refusal}
use Rattle.edit_core.specs.declared.refusal.Refusal.TheVariants.{Gone, Behind, BadSpan, TooLong}
use Rattle.edit_core.specs.declared.refusal.Refusal.TheVariants.{Full, Finished, Parked, NotParked}
use Rattle.console_board.specs.Consoles.{index_of}

-- ---- places, which count from 1

-- the paragraph at a place
abbrev pub paragraph_at : Seen → ℕ → Option Paragraph
paragraph_at board place =
    option_and_then (slice_get board.paragraphs) (index_of place (length board.paragraphs))

-- before which id a text is put in at a place, which may be one more than there are paragraphs: at
-- the end it is none of them
abbrev pub gap_at : Seen → ℕ → Option (Option ℕ)
gap_at board place =
    option_map (λ index. option_map (λ paragraph. paragraph.id) (slice_get board.paragraphs index))
    (index_of place (length board.paragraphs + 1))

-- what events say of the paragraph at a place, and how many bytes it has
pub record NamesParagraph (board : Seen) (place id rev size : ℕ) : Type 0 where
  pub paragraph : Paragraph
  pub at : paragraph_at board place ≡ Some paragraph
  pub id_is : id ≡ paragraph.id
  pub rev_is : rev ≡ paragraph.rev
  pub size_is : size ≡ length paragraph.text

-- ---- events

-- the event that a command over a board is, for the session with this number: none where it names
-- no place of the board
abbrev pub event_for : ℕ → Seen → Command → Option SeenEvent
event_for by board (Ins place text) =
    option_map (λ before. AnEdit by (Insert before text)) (gap_at board place)
event_for by board (Put place text) =
    option_map (λ paragraph.
    AnEdit by (Replace paragraph.id paragraph.rev 0 (length paragraph.text) text))
    (paragraph_at board place)
event_for by board (Sub place from to text) =
    option_map (λ paragraph. AnEdit by (Replace paragraph.id paragraph.rev from to text))
    (paragraph_at board place)
event_for by board (Del place) =
    option_map (λ paragraph. AnEdit by (Remove paragraph.id paragraph.rev))
    (paragraph_at board place)
event_for by board (Stop place) =
    option_map (λ paragraph. APark by paragraph.id) (paragraph_at board place)
event_for by board (Ask place) =
    option_map (λ paragraph. AnAsk by paragraph.id) (paragraph_at board place)
event_for by board _ = None

-- whether a command names a place: then it is an event, or there is no such place
abbrev pub names_place : Command → Bool
names_place (Load aff dic) = false
names_place (Own text) = false
names_place Show = false
names_place Settle = false
names_place Quit = false
names_place _ = true

-- all bytes of the text at a place are whole characters, as those of each text in memory are
abbrev pub IsWholeAt : Seen → ℕ → Type 0
IsWholeAt board place =
    ForSome (paragraph_at board place)
    (λ paragraph. is_span paragraph.text 0 (length paragraph.text) ≡ true)

-- so are those of the text that a command puts another one in place of
abbrev pub PutsWhole : Seen → Command → Type 0
PutsWhole board (Put place text) = IsWholeAt board place
PutsWhole board _ = Unit {0}

-- an event that a session asks for, whose text has no line feed
abbrev pub IsAsked : SeenEvent → Type 0
IsAsked (AnEdit session (Replace id rev from to text)) = HasNoBreak text
IsAsked (AnEdit session (Insert before text)) = HasNoBreak text
IsAsked (AnEdit session (Remove id rev)) = Unit {0}
IsAsked (APark session id) = Unit {0}
IsAsked (AnAsk session id) = Unit {0}
IsAsked _ = ⊥

-- ---- replies

-- the reply to a refusal, if it has one: the others never come of a command
abbrev pub reply_for : Refusal → Option Reply
reply_for (Gone id) = Some NoGone
reply_for (Behind rev) = Some (NoBehind rev)
reply_for (BadSpan length) = Some (NoBadSpan length)
reply_for (TooLong would) = Some (NoTooLong would)
reply_for (Full count) = Some (NoFull count)
reply_for (Finished rev) = Some NoFinished
reply_for (Parked rev) = Some NoParked
reply_for (NotParked rev) = Some NoNotParked
reply_for _ = None

-- an event that is refused has a reply
abbrev pub HasReply : Option Refusal → Type 0
HasReply first = option_map_or (λ refusal. is_some (reply_for refusal)) first true ≡ true

-- an event makes this board and no other, and the reply tells the text's version
pub record IsEventTaken (before : Seen) (event : SeenEvent) (reply : Reply) (after : Seen) : Type 0 where
  pub step : Step before event after
  pub only : (other : Seen) → Step before event other → other ≡ after
  pub reply_is : reply ≡ Done after.text_version

-- an event is taken where no refusal is first; otherwise that one is replied to, and the board
-- stays
abbrev pub IsEventAnswered : Seen → SeenEvent → Option Refusal → Reply → Seen → Type 0
IsEventAnswered before event None reply after = IsEventTaken before event reply after
IsEventAnswered before event (Some refusal) reply after =
    (reply_for refusal ≡ Some reply) × (after ≡ before)

-- what a look shows of a paragraph: its marks, or that there are none yet
abbrev pub shown_para : ShownMarks → ShownPara
shown_para (Marked marks) = Checked marks
shown_para (Unmarked parked held_by) = Pending

-- the reply to a look at a board
abbrev pub look_reply : Seen → Reply
look_reply board =
    Shown board.text_version board.dict_version (map shown_para (view_of board).shown)
