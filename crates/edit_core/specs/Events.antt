-- What an event is seen as.
use Rattle.std.specs.Prelude.{ℕ, List, Option, None, Some}
use Rattle.std.specs.Arc.{arc_value}
use Rattle.mark_types.specs.spell_types.declared.Lexicon.{Lexicon}
use Rattle.paragraph_text.specs.declared.edits.Edit.{Edit}
use Rattle.edit_core.specs.declared.event.Event.{Event}
use Rattle.edit_core.specs.declared.event.Event.TheVariants as variant
use Rattle.edit_core.specs.declared.event.EventKind.{EventKind}
use Rattle.edit_core.specs.declared.event.EventKind.TheVariants as kind

-- what is asked of a board
pub data SeenEvent : Type 0 where
  -- a session edits the text
  AnEdit : (session : ℕ) → Edit → SeenEvent
  -- another dictionary comes into force
  ALoad : Lexicon → SeenEvent
  -- a worker takes a paragraph with a rev
  AClaim : (worker id rev : ℕ) → SeenEvent
  -- a worker has checked a text by a dictionary, for a paragraph with a rev and for a dictionary
  -- version
  AFinish : (worker id rev dict : ℕ) → (text : List ℕ) → Lexicon → SeenEvent
  -- a session stops the check of a paragraph
  APark : (session id : ℕ) → SeenEvent
  -- a session asks for the check of a paragraph again
  AnAsk : (session id : ℕ) → SeenEvent

-- what an event is seen as
abbrev pub event_of : {J : Type 0} → (J → Lexicon) → Event J → SeenEvent
event_of lexicon_of (variant.Edit session edit) = AnEdit session edit
event_of lexicon_of (variant.Load judge) = ALoad (lexicon_of (arc_value judge))
event_of lexicon_of (variant.Claim worker id rev) = AClaim worker id rev
event_of lexicon_of (variant.Finish worker id rev dict checked) =
    AFinish worker id rev dict checked.text (lexicon_of checked.judge)
event_of lexicon_of (variant.Park session id) = APark session id
event_of lexicon_of (variant.Ask session id) = AnAsk session id

-- which kind of event it is
abbrev pub kind_of : SeenEvent → EventKind
kind_of (AnEdit session edit) = kind.Edit
kind_of (ALoad lexicon) = kind.Load
kind_of (AClaim worker id rev) = kind.Claim
kind_of (AFinish worker id rev dict text lexicon) = kind.Finish
kind_of (APark session id) = kind.Park
kind_of (AnAsk session id) = kind.Ask

-- the number of the session or worker that an event names; a load names none
abbrev pub caller_of : SeenEvent → Option ℕ
caller_of (AnEdit session edit) = Some session
caller_of (ALoad lexicon) = None
caller_of (AClaim worker id rev) = Some worker
caller_of (AFinish worker id rev dict text lexicon) = Some worker
caller_of (APark session id) = Some session
caller_of (AnAsk session id) = Some session
