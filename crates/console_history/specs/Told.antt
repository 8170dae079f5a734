-- What a console over a desk is told. It has an eye of the desk, and each of its commands takes the
-- eye from one state to a later one. What others publish meanwhile the eye learns on the way.
use Rattle.std.specs.Prelude.{◌≡◌, ℕ, ◌+◌, ◌≤◌, ◌++◌, List, [], ◌∷◌, length, Option, None, Some}
use Rattle.std.specs.Prelude.{Result, Ok, Err}
use Rattle.outside.specs.Files.{Folder}
use Rattle.spell_types.specs.declared.Lexicon.{Lexicon}
use Rattle.personal_words.specs.declared.items.OwnItem.{OwnItem}
use Rattle.personal_words.specs.declared.faults.OwnLineWhy.{OwnLineWhy}
use Rattle.personal_words.specs.Lists.{added}
use Rattle.personal_words.specs.Dictionaries.{OwnSeen, in_force}
use Rattle.dictionary_swap.specs.Loads.{DictionaryFiles, lexicon_due}
use Rattle.dictionary_swap.specs.declared.fault.LoadFault.{LoadFault}
use Rattle.board_share.specs.edit_core.Events.{SeenEvent, ALoad}
use Rattle.board_share.specs.edit_core.Runs.{asked_of}
use Rattle.board_share.specs.edit_core.Steps.{first_refusal}
use Rattle.board_share.specs.edit_core.declared.refusal.Refusal.{Refusal}
use Rattle.board_share.specs.Events.{IsPublished}
use Rattle.board_share.specs.Eyes.{EyeSeen, IsLater, CountsOne, CountsNothing, events_in}
use Rattle.board_share.specs.Eyes.{last_of}
use Rattle.board_share.specs.declared.told.Told.{Told as ToldOf}
use Rattle.board_share.specs.Eyes.{CountsChecks}
use Rattle.board_share.specs.Settled.{IsSettled}
use Rattle.console_lang.specs.declared.command.Command.{Command}
use Rattle.console_lang.specs.declared.command.Command.TheVariants.{Load, Own, Show, Settle, Quit}
use Rattle.console_lang.specs.declared.reply.Reply.{Reply}
use Rattle.console_lang.specs.declared.reply.Reply.TheVariants.{Done, Dict, NoCommand, NoFiles}
use Rattle.console_lang.specs.declared.reply.Reply.TheVariants.{NoOwn, NoPlace}
use Rattle.console_board.specs.BoardAnswers.{PutsWhole, event_for, look_reply, reply_for}
use Rattle.console_board.specs.OwnConsoles.{fault_reply}
use Rattle.console_board.specs.Transcripts.{IsThere}

-- what a console over a desk has come to: its eye, and its dictionary with its personal words
pub record Seat : Type 0 where
  pub eye : EyeSeen
  pub dictionary : OwnSeen

-- ---- what becomes of an eye

-- it looks: it may know more, and nothing is published through it
pub record Looks (old new : EyeSeen) : Type 0 where
  pub later : IsLater old new
  pub counts : CountsNothing old new

-- no more events that are not of workers are counted than there are now
abbrev pub IsNoMoreAsked : EyeSeen → EyeSeen → Type 0
IsNoMoreAsked old new =
    events_in new.counts + asked_of old.run.entries ≤ asked_of new.run.entries
    + events_in old.counts

-- it goes on by one event of its own at most that is not a check
pub record GoesOneOn (old new : EyeSeen) : Type 0 where
  pub later : IsLater old new
  pub asks : IsNoMoreAsked old new
  pub one : events_in new.counts ≤ events_in old.counts + 1

-- an event is published through it
pub record Publishes (event : SeenEvent) (old new : EyeSeen) (told : ToldOf) : Type 0 where
  pub later : IsLater old new
  pub counts : CountsOne event old new
  pub published : IsPublished event old new told

-- an event is refused by the last board that it then knows, and the refusal is replied
pub record IsEventTurnedDown (event : SeenEvent) (old new : EyeSeen) (reply : Reply) : Type 0 where
  pub looks : Looks old new
  pub refusal : Refusal
  pub first : first_refusal (last_of new.run) event ≡ Some refusal
  pub replied : reply_for refusal ≡ Some reply

-- what is open is checked: all that is published through it are finished checks
pub record Settles (old new : EyeSeen) : Type 0 where
  pub later : IsLater old new
  pub counts : CountsChecks old new
  pub settled : IsSettled old new

-- ---- commands that name a place

-- an event is published, and the reply tells the text's version; or it is turned down
pub data IsEventTold (event : SeenEvent) (old new : EyeSeen) (reply : Reply) : Type 0 where
  Taken : (told : ToldOf) → Publishes event old new told → reply ≡ Done told.text
      → IsEventTold event old new reply
  TurnedDown : IsEventTurnedDown event old new reply → IsEventTold event old new reply

-- a board has no such place, which is told with its number of paragraphs; or the command is this
-- event
abbrev pub IsCommandTold : Option SeenEvent → EyeSeen → EyeSeen → Reply → Type 0
IsCommandTold None looked new reply =
    (new ≡ looked) × (reply ≡ NoPlace (length (last_of looked.run).paragraphs))
IsCommandTold (Some event) looked new reply = IsEventTold event looked new reply

-- A command names a paragraph of a board that it looks at. A text of it that the command replaces
-- whole has whole characters, as each text in memory has.
pub record IsPlaceTold (session : ℕ) (command : Command) (old new : EyeSeen) (reply : Reply) : Type
    0 where
  pub looked : EyeSeen
  pub looks : Looks old looked
  pub whole : PutsWhole (last_of looked.run) command
  pub told : IsCommandTold (event_for session (last_of looked.run) command) looked new reply

-- ---- dictionaries

-- a dictionary came into force, and the reply tells the dictionary's version
pub record IsLexiconTold (lexicon : Lexicon) (old new : EyeSeen) (reply : Reply) : Type 0 where
  pub told : ToldOf
  pub publishes : Publishes (ALoad lexicon) old new told
  pub replied : reply ≡ Dict told.dict

-- the dictionary of a seat came into force
abbrev pub IsReloadTold : EyeSeen → Seat → Reply → Type 0
IsReloadTold old after reply =
    IsLexiconTold (in_force after.dictionary) old after.eye reply

-- `load`: what is due of two files becomes the base, or its fault is told and nothing changes
abbrev pub IsBaseTold : Seat → Result Lexicon LoadFault → Seat → Reply → Type 0
IsBaseTold before (Ok base) after reply =
    (after.dictionary ≡ record before.dictionary { base = base })
    × IsReloadTold before.eye after reply
IsBaseTold before (Err fault) after reply = (after ≡ before) × (reply ≡ fault_reply fault)

-- the two files are those of the folder that is told, where one is; or the files fail
pub data IsLoadTold (folder : Option Folder) (aff dic : List ℕ) (before after : Seat)
    (reply : Reply) : Type 0 where
  Due : (there : DictionaryFiles) → IsThere folder aff dic there
      → IsBaseTold before (lexicon_due there) after reply
      → IsLoadTold folder aff dic before after reply
  FilesFailed : after ≡ before → reply ≡ NoFiles → IsLoadTold folder aff dic before after reply

-- `own`, by what its text says as one more line of the list: nothing, of which a look tells the
-- text's version; an item, which stands behind those of before; or a fault, which is told
abbrev pub IsItemTold : Seat → Result (Option OwnItem) OwnLineWhy → Seat → Reply → Type 0
IsItemTold before (Ok None) after reply =
    (after.dictionary ≡ before.dictionary) × (Looks before.eye after.eye
    × (reply ≡ Done (last_of after.eye.run).text_version))
IsItemTold before (Ok (Some item)) after reply =
    (after.dictionary
    ≡ record before.dictionary { own = before.dictionary.own ++ item ∷ [] })
    × IsReloadTold before.eye after reply
IsItemTold before (Err why) after reply = (after ≡ before) × (reply ≡ NoOwn why)

abbrev pub IsOwnTold : Seat → List ℕ → Seat → Reply → Type 0
IsOwnTold before text after reply =
    IsItemTold before (added before.dictionary.base.affixes before.dictionary.own text) after reply

-- ---- all commands

-- a command leaves the dictionary, and does this to the eye
abbrev pub Keeps : Seat → Seat → (EyeSeen → EyeSeen → Type 0) → Type 0
Keeps before after does =
    (after.dictionary ≡ before.dictionary) × does before.eye after.eye

-- what becomes of the eye by a command that is done without a dictionary
unfoldable pub IsPlainTold : ℕ → Command → EyeSeen → EyeSeen → Reply → Type 0
IsPlainTold session (Load aff dic) old new reply = ⊥
IsPlainTold session (Own text) old new reply = ⊥
IsPlainTold session Show old new reply =
    Looks old new × (reply ≡ look_reply (last_of new.run))
IsPlainTold session Settle old new reply =
    Settles old new × (reply ≡ Done (last_of new.run).text_version)
IsPlainTold session Quit old new reply = ⊥
IsPlainTold session command old new reply = IsPlaceTold session command old new reply

-- how a command is replied to, and what the console has then come to; `quit` is not replied to
unfoldable pub IsToldTo : Option Folder → ℕ → Seat → Command → Seat → Reply → Type 0
IsToldTo folder session before (Load aff dic) after reply =
    IsLoadTold folder aff dic before after reply
IsToldTo folder session before (Own text) after reply = IsOwnTold before text after reply
IsToldTo folder session before Show after reply =
    Keeps before after Looks × (reply ≡ look_reply (last_of after.eye.run))
IsToldTo folder session before Settle after reply =
    Keeps before after Settles × (reply ≡ Done (last_of after.eye.run).text_version)
IsToldTo folder session before Quit after reply = ⊥
IsToldTo folder session before command after reply =
    Keeps before after (λ old new. IsPlaceTold session command old new reply)

-- what is replied where a command is asked for, or a line is none
abbrev pub IsToldOne : Option Folder → ℕ → Seat → Option Command → Seat → Reply → Type 0
IsToldOne folder session before None after reply = (after ≡ before) × (reply ≡ NoCommand)
IsToldOne folder session before (Some command) after reply =
    IsToldTo folder session before command after reply

-- a console replies once to each that is asked for, in order
abbrev pub Told : Option Folder → ℕ → Seat → List (Option Command) → List Reply → Seat → Type 0
Told folder session before [] replies after = (replies ≡ []) × (after ≡ before)
Told folder session before (asked ∷ more) [] after = ⊥
Told folder session before (asked ∷ more) (reply ∷ replies) after =
    (next : Seat) × IsToldOne folder session before asked next reply
    × Told folder session next more replies after
