-- What a worker is, and what it knows of the history.
use Rattle.std.specs.Prelude.{◌≡◌, ℕ, List, Option, IfSome}
use Rattle.std.specs.Arc.{arc_value}
use mathlib.Core.List.{IsPrefix}
use Rattle.mark_types.specs.spell_types.declared.Lexicon.{Lexicon}
use Rattle.board_share.specs.edit_core.Runs.{Entry, Run, last_board}
use Rattle.board_share.specs.edit_core.Seen.{Seen}
use Rattle.board_share.specs.Events.{KnowsCheck}
use Rattle.board_share.specs.Eyes.{EyeSeen}
use Rattle.board_share.specs.declared.claim.Claim.{Claim}
use Rattle.check_workers.specs.declared.keeping.Kept.{Kept}

-- a worker: the number that its claims and its finishes name, and its eye
pub record WorkerSeen : Type 0 where
  pub number : ℕ
  pub eye : EyeSeen

-- a history has the claim's board: one with its dictionary version and its dictionary, on which the
-- paragraph with its id has its rev and its text
abbrev pub KnowsClaim : {J : Type 0} → (J → Lexicon) → Run → Claim J → Type 0
KnowsClaim lexicon_of run claim =
    KnowsCheck run claim.id claim.rev claim.dict (arc_value claim.text)
    (lexicon_of (arc_value claim.judge))

-- a history has a board with this dictionary version and this dictionary
pub record KnowsLexicon (run : Run) (dict : ℕ) (lexicon : Lexicon) : Type 0 where
  pub front : List Entry
  pub begins : IsPrefix front run.entries
  pub dict_is : (last_board run.opening front).dict_version ≡ dict
  pub lexicon_is : (last_board run.opening front).lexicon ≡ lexicon

-- what is kept, if anything is, remembers verdicts by a dictionary that the history has, under the
-- dictionary version that it is kept for
abbrev pub KnowsKept : {J : Type 0} → (J → Lexicon) → Run → Option (Kept J) → Type 0
KnowsKept lexicon_of run kept =
    IfSome kept (λ kept. KnowsLexicon run kept.dict (lexicon_of kept.cache))

-- it is so, and what is kept is by a claim's dictionary
pub record KeepsFor {J : Type 0} (lexicon_of : J → Lexicon) (run : Run) (claim : Claim J)
    (kept : Option (Kept J)) : Type 0 where
  pub known : KnowsKept lexicon_of run kept
  pub same : IfSome kept (λ kept. lexicon_of kept.cache ≡ lexicon_of (arc_value claim.judge))

-- a history has this board
pub record KnowsBoard (run : Run) (board : Seen) : Type 0 where
  pub front : List Entry
  pub begins : IsPrefix front run.entries
  pub board_is : last_board run.opening front ≡ board
