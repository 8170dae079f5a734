-- What becomes of the eye of a worker.
use Rattle.board_share.specs.Eyes.{EyeSeen, IsLater}
use Rattle.board_share.specs.Eyes.{CountsChecks}

-- an eye that worked knows more, and only checks are counted
pub record HasWorked (old new : EyeSeen) : Type 0 where
  pub later : IsLater old new
  pub counts : CountsChecks old new
