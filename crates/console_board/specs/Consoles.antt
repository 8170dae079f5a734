-- A console: texts that are edited, checked and shown one command after another. It knows nothing
-- of ids, of revs, or of who checks.
use Rattle.std.specs.Prelude.{ℕ, ◌+◌, ◌-◌, ◌&&◌, List, [], ◌∷◌, length, map, nat_le, nat_lt, set}
use Rattle.std.specs.Prelude.{slice_get, Option, Some, None, if◌then◌else◌}
use Rattle.std.specs.Option.{option_map_or, unwrap_or}
use Rattle.std.specs.Str.{chars}
use Rattle.console_lang.specs.declared.reply.Reply.{Reply}
use Rattle.console_lang.specs.declared.reply.Reply.TheVariants.{Done, Dict, Shown, NoPlace}
use Rattle.console_lang.specs.declared.reply.Reply.TheVariants.{NoBadSpan, NoTooLong, NoFull}
use Rattle.console_lang.specs.declared.reply.Reply.TheVariants.{NoFinished, NoParked, NoNotParked}
use Rattle.console_lang.specs.declared.reply.ShownPara.{ShownPara}
use Rattle.console_lang.specs.declared.reply.ShownPara.TheVariants.{Pending, Finished as Marked}
use Rattle.outside.specs.lists.Changes.{Change, SetAt, InsertAt, RemoveAt, changed}
use Rattle.edit_core.specs.Views.{marks_numbered}
use Rattle.edit_core.specs.paragraph_text.Edits.{is_span, spliced}
use Rattle.mark_types.specs.spell_types.declared.Lexicon.{Lexicon}
use Rattle.edit_core.specs.paragraph_text.declared.limits.TheConstants.{MOST_BYTES, MOST_PARAGRAPHS}

-- how a text stands: it is to be checked, it is checked, or it is not to be checked before somebody
-- asks for it
pub data TextState : Type 0 where
  Waiting : TextState
  Finished : TextState
  Parked : TextState

-- what a console has come to: how many edits and how many loads it has done, its dictionary, its
-- texts in their order, and how each stands
pub record Console : Type 0 where
  pub text_version : ℕ
  pub dict_version : ℕ
  pub lexicon : Lexicon
  pub texts : List (List ℕ)
  pub states : List TextState

-- a console opens without a text
abbrev pub opened_console : Lexicon → Console
opened_console lexicon =
    record { text_version = 0; dict_version = 0; lexicon = lexicon; texts = []; states = [] }

-- a reply, and the console behind it
pub record Outcome : Type 0 where
  pub reply : Reply
  pub after : Console

-- a refusal leaves the console as it was
abbrev refused : Console → Reply → Outcome
refused console reply = record { reply = reply; after = console }

-- it is done, and the reply tells the text's version
abbrev done : Console → Outcome
done console = record { reply = Done console.text_version; after = console }

-- ---- places, which count from 1

-- which of so many, from 0 on, a place is, if it is one
abbrev pub index_of : ℕ → ℕ → Option ℕ
index_of place count = if nat_le 1 place && nat_le place count then Some (place - 1) else None

-- what is done with the text at a place, or that there is no such place
abbrev pub at_place : Console → ℕ → (ℕ → Outcome) → Outcome
at_place console place does =
    option_map_or does (index_of place (length console.texts))
    (refused console (NoPlace (length console.texts)))

abbrev pub console_text_at : Console → ℕ → List ℕ
console_text_at console index = unwrap_or (slice_get console.texts index) []

abbrev pub state_at : Console → ℕ → TextState
state_at console index = unwrap_or (slice_get console.states index) Waiting

-- ---- edits: each is one change of the texts, and of how they stand; it raises the text's version, and tells it

abbrev edited : Console → Change → List ℕ → Outcome
edited console change put = done (record console {
  text_version = console.text_version + 1;
  texts = changed change put console.texts;
  states = changed change Waiting console.states;
})

-- a text is put in, and waits
abbrev pub insert_at : Console → List ℕ → ℕ → Outcome
insert_at console put index =
    if nat_le (length put) MOST_BYTES
    then (if nat_lt (length console.texts) MOST_PARAGRAPHS
    then edited console (InsertAt index) put
    else refused console (NoFull (length console.texts)))
    else refused console (NoTooLong (length put))

-- a text becomes another one, and waits
abbrev pub replace_at : Console → List ℕ → ℕ → Outcome
replace_at console put index =
    if nat_le (length put) MOST_BYTES
    then edited console (SetAt index) put
    else refused console (NoTooLong (length put))

-- bytes of a text, from one up to another, become others
abbrev pub splice_at : Console → ℕ → ℕ → List ℕ → ℕ → Outcome
splice_at console from to put index =
    if is_span (console_text_at console index) from to
    then replace_at console (spliced (console_text_at console index) from to put) index
    else refused console (NoBadSpan (length (console_text_at console index)))

-- a text is taken out
abbrev pub remove_at : Console → ℕ → Outcome
remove_at console index = edited console (RemoveAt index) []

-- `ins P TEXT`: a place may be one more than there are texts
abbrev pub inserted : Console → ℕ → List ℕ → Outcome
inserted console place put =
    option_map_or (insert_at console put) (index_of place (length console.texts + 1))
    (refused console (NoPlace (length console.texts)))

-- `put P TEXT`
abbrev pub console_after_put : Console → ℕ → List ℕ → Outcome
console_after_put console place put = at_place console place (replace_at console put)

-- `sub P FROM TO TEXT`
abbrev pub substituted : Console → ℕ → ℕ → ℕ → List ℕ → Outcome
substituted console place from to put = at_place console place (splice_at console from to put)

-- `del P`
abbrev pub removed : Console → ℕ → Outcome
removed console place = at_place console place (remove_at console)

-- ---- what is to be checked

abbrev with_state : Console → ℕ → TextState → Console
with_state console index stand = record console { states = set console.states index stand }

-- a text that waits is parked
abbrev pub stopped_from : Console → ℕ → TextState → Outcome
stopped_from console index Waiting = done (with_state console index Parked)
stopped_from console index Finished = refused console NoFinished
stopped_from console index Parked = refused console NoParked

-- a parked text waits again
abbrev pub asked_from : Console → ℕ → TextState → Outcome
asked_from console index Waiting = refused console NoNotParked
asked_from console index Finished = refused console NoNotParked
asked_from console index Parked = done (with_state console index Waiting)

-- `stop P`
abbrev pub stopped : Console → ℕ → Outcome
stopped console place =
    at_place console place (λ index. stopped_from console index (state_at console index))

-- `ask P`
abbrev pub asked : Console → ℕ → Outcome
asked console place =
    at_place console place (λ index. asked_from console index (state_at console index))

-- what is not parked is finished
abbrev pub settled_state : TextState → TextState
settled_state Waiting = Finished
settled_state Finished = Finished
settled_state Parked = Parked

-- `settle`
abbrev pub console_after_settle : Console → Outcome
console_after_settle console = done (record console { states = map settled_state console.states })

-- ---- what is shown

-- a finished text shows the marks that it has among those of all texts together, and every other
-- text that there are none yet
abbrev pub shown_text_as : Console → ℕ → TextState → ShownPara
shown_text_as console number Waiting = Pending
shown_text_as console number Finished =
    Marked (marks_numbered console.lexicon (map chars console.texts) number)
shown_text_as console number Parked = Pending

-- what is shown of texts that stand so, of which the first has this number
abbrev pub shown_texts_from : Console → ℕ → List TextState → List ShownPara
shown_texts_from console number [] = []
shown_texts_from console number (stand ∷ stands) =
    shown_text_as console number stand ∷ shown_texts_from console (number + 1) stands

-- `show`
abbrev pub shown : Console → Outcome
shown console =
    refused console
    (Shown console.text_version console.dict_version (shown_texts_from console 1 console.states))

-- ---- dictionaries

-- under another dictionary what is parked stays so, and all else waits
abbrev pub state_reloaded : TextState → TextState
state_reloaded Waiting = Waiting
state_reloaded Finished = Waiting
state_reloaded Parked = Parked

-- a dictionary comes into force; the reply tells its version
abbrev pub console_after_load : Console → Lexicon → Outcome
console_after_load console lexicon = record {
  reply = Dict (console.dict_version + 1);
  after = record console {
    dict_version = console.dict_version + 1;
    lexicon = lexicon;
    states = map state_reloaded console.states;
  };
}
