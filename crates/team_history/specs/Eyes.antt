-- What a session is told through its eye. Each of its commands takes the eye from one state to a
-- later one.
use Rattle.std.specs.Prelude.{◌≡◌, ℕ, ◌+◌, ◌^◌, ◌≤◌, List, [], ◌∷◌, ◌++◌, Option, None, Some}
use Rattle.std.specs.Prelude.{Contains, Result, Ok, Err}
use Rattle.spell_types.specs.declared.Lexicon.{Lexicon}
use Rattle.dictionary_swap.specs.Loads.{DictionaryFiles, lexicon_due}
use Rattle.dictionary_swap.specs.declared.fault.LoadFault.{LoadFault}
use Rattle.board_share.specs.edit_core.Runs.{Entry, last_board}
use Rattle.board_share.specs.edit_core.Seen.{Seen}
use Rattle.board_share.specs.Eyes.{EyeSeen, events_in, last_of}
use Rattle.console_lang.specs.declared.command.Command.{Command}
use Rattle.console_lang.specs.declared.command.Command.TheVariants.{Load}
use Rattle.console_lang.specs.declared.reply.Reply.{Reply}
use Rattle.console_lang.specs.declared.reply.Reply.TheVariants.{NoCommand}
use Rattle.console_board.specs.OwnConsoles.{fault_reply}
use Rattle.console_board.specs.Transcripts.{HasWholeText}
use Rattle.console_history.specs.Told.{IsLexiconTold, IsPlainTold}
use Rattle.team_history.specs.ToldBy.{IsOneToldIn, Session, taken_in}

-- ---- how much is asked for

-- an eye keeps its number, and counts so many events more at most that are not checks
pub record AsksAtMost (most : ℕ) (old new : EyeSeen) : Type 0 where
  pub number : new.number ≡ old.number
  pub asked : events_in new.counts ≤ events_in old.counts + most

-- no event may come any more behind the last board that an eye knows
abbrev pub IsAtLastPoint : EyeSeen → Type 0
IsAtLastPoint eye = 2 ^ 62 ≤ (last_of eye.run).point

-- ---- one command

-- what is due of two files comes into force, or its fault is told and nothing changes
abbrev pub IsLoadedTold : Result Lexicon LoadFault → EyeSeen → EyeSeen → Reply → Type 0
IsLoadedTold (Ok lexicon) old new reply = IsLexiconTold lexicon old new reply
IsLoadedTold (Err fault) old new reply = (new ≡ old) × (reply ≡ fault_reply fault)

-- `load`: the two files are a pair of those that were loaded
pub record IsPairTold (session : Session) (aff dic : List ℕ) (old new : EyeSeen) (reply : Reply) :
    Type 0 where
  pub there : DictionaryFiles
  pub is_there : Contains session.pairs (record { aff = aff; dic = dic; there = there })
  pub done : IsLoadedTold (lexicon_due there) old new reply

-- what is replied to what is asked for
abbrev pub IsSaidTo : Session → EyeSeen → Option Command → EyeSeen → Reply → Type 0
IsSaidTo session old None new reply = (new ≡ old) × (reply ≡ NoCommand)
IsSaidTo session old (Some (Load aff dic)) new reply = IsPairTold session aff dic old new reply
IsSaidTo session old (Some command) new reply =
    HasWholeText command × IsPlainTold session.number command old new reply

-- ---- one after another

-- these events behind a board are cut into a stretch for each that is asked for, and no more
abbrev pub AreToldJust : Session → Seen → List Entry → List (Option Command) → List Reply → Type 0
AreToldJust session board entries [] replies = (entries ≡ []) × (replies ≡ [])
AreToldJust session board entries (asked ∷ more) [] = ⊥
AreToldJust session board entries (asked ∷ more) (reply ∷ replies) =
    (part : List Entry) × (rest : List Entry) × (entries ≡ part ++ rest)
    × IsOneToldIn session board part asked reply
    × AreToldJust session (last_board board part) rest more replies

-- all that an eye knows tells the replies of a session, and as many events are counted as were
-- taken by them
pub record HasHeard (session : Session) (opening : Seen) (commands : List (Option Command))
    (replies : List Reply) (eye : EyeSeen) : Type 0 where
  pub number : eye.number ≡ session.by
  pub opening_is : eye.run.opening ≡ opening
  pub cut : AreToldJust session opening eye.run.entries commands replies
  pub counted : events_in eye.counts ≡ taken_in commands replies
