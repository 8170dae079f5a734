-- What an eye may publish and claim, and what it is told.
use Rattle.std.specs.Prelude.{◌≡◌, ℕ, ◌^◌, List, [], ◌∷◌, ◌++◌, Option, None, Some, position}
use Rattle.std.specs.Prelude.{slice_get}
use Rattle.std.specs.Arc.{arc_value}
use Rattle.std.specs.List.{AllByRecursion}
use mathlib.Core.List.{IsPrefix}
use Rattle.mark_types.specs.spell_types.declared.Lexicon.{Lexicon}
use Rattle.edit_core.specs.paragraph_text.Paragraphs.{Paragraph}
use Rattle.edit_core.specs.paragraph_text.declared.edits.Edit.TheVariants.{Insert}
use Rattle.edit_core.specs.Events.{SeenEvent, AnEdit, AClaim, AFinish}
use Rattle.edit_core.specs.Runs.{Entry, IsCheckOf, Run, is_waiting, last_board}
use Rattle.edit_core.specs.Seen.{Seen}
use Rattle.edit_core.specs.declared.state.Standing.TheVariants.{Waiting}
use Rattle.board_share.specs.Eyes.{EyeSeen}
use Rattle.board_share.specs.declared.told.Told.{Told}
use Rattle.board_share.specs.declared.claim.Claim.{Claim}
use Rattle.board_share.specs.declared.claim.ClaimFault.{ClaimFault}
use Rattle.board_share.specs.declared.claim.ClaimFault.TheVariants as fault

-- ---- publish

-- a history has a board under this dictionary version on which a check with this rev is one of the
-- board's own: of its paragraph with this id, by its dictionary
pub record KnowsCheck (run : Run) (id rev dict : ℕ) (text : List ℕ) (lexicon : Lexicon) : Type
    0 where
  pub front : List Entry
  pub begins : IsPrefix front run.entries
  pub dict_is : (last_board run.opening front).dict_version ≡ dict
  pub check : IsCheckOf (last_board run.opening front) id rev text lexicon

-- what an eye that knows a history may publish: a check of a board that it knows, and anything else
abbrev pub MayPublish : Run → SeenEvent → Type 0
MayPublish run (AFinish worker id rev dict text lexicon) = KnowsCheck run id rev dict text lexicon
MayPublish run _ = Unit {0}

-- the id of the paragraph that an event puts in, which is the next one
abbrev pub id_made_by : ℕ → SeenEvent → Option ℕ
id_made_by next_id (AnEdit session (Insert before text)) = Some next_id
id_made_by next_id _ = None

-- what is told of an event that made a board of another
abbrev pub told_of : Seen → SeenEvent → Seen → Told
told_of before event after = record {
  point = after.point;
  text = after.text_version;
  dict = after.dict_version;
  made = id_made_by before.next_id event;
}

-- behind all that the eye knew stand events that it had not seen, and last its own
pub record IsPublished (event : SeenEvent) (old new : EyeSeen) (told : Told) : Type 0 where
  pub between : List Entry
  pub board : Seen
  pub entries : new.run.entries ≡ (old.run.entries ++ between)
      ++ record { by = old.number; event = event; board = board } ∷ []
  pub told_is : told
      ≡ told_of (last_board old.run.opening (old.run.entries ++ between)) event board

-- ---- claim

-- what a worker is told of a paragraph that it has claimed: the paragraph is the first that waits
-- on a board, and the judge is of its dictionary
pub record IsFirstOf {J : Type 0} (lexicon_of : J → Lexicon) (board : Seen) (claim : Claim J) : Type
    0 where
  pub place : ℕ
  pub paragraph : Paragraph
  pub first : position is_waiting board.standings ≡ Some place
  pub at : slice_get board.paragraphs place ≡ Some paragraph
  pub id : claim.id ≡ paragraph.id
  pub rev : claim.rev ≡ paragraph.rev
  pub text : arc_value claim.text ≡ paragraph.text
  pub dict : claim.dict ≡ board.dict_version
  pub lexicon : lexicon_of (arc_value claim.judge) ≡ board.lexicon

-- behind all that the eye knew stand events that it had not seen, and last the worker's claim of
-- the first paragraph that waited on the board before
pub record IsClaimed {J : Type 0} (lexicon_of : J → Lexicon) (worker : ℕ) (old new : EyeSeen)
    (claim : Claim J) : Type 0 where
  pub between : List Entry
  pub board : Seen
  pub entries : new.run.entries ≡ (old.run.entries ++ between)
      ++ record { by = old.number; event = AClaim worker claim.id claim.rev; board = board } ∷ []
  pub first : IsFirstOf lexicon_of (last_board old.run.opening (old.run.entries ++ between)) claim

-- no paragraph waits
abbrev pub NoneWaits : Seen → Type 0
NoneWaits board = AllByRecursion (λ stands. ¬ (stands ≡ Waiting)) board.standings

-- a paragraph waits, and no event may come behind this point, which is the board's
pub record IsSpent (board : Seen) (point : ℕ) : Type 0 where
  pub point_is : point ≡ board.point
  pub last : board.point ≡ 2 ^ 62
  pub place : ℕ
  pub waits : position is_waiting board.standings ≡ Some place

-- why nothing was claimed
abbrev pub IsClaimFault : Seen → ClaimFault → Type 0
IsClaimFault board (fault.Spent point) = IsSpent board point
IsClaimFault board fault.NoMemory = Unit {0}
