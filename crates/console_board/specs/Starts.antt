-- What no lines ask for.
use Rattle.std.specs.Prelude.{◌≡◌, []}
use Rattle.std.proofs.Common.{refl}
use Rattle.console_board.specs.Transcripts.{commands_asked_by}

-- no lines ask for nothing
pub asked-nothing : commands_asked_by [] ≡ []
unfolding commands_asked_by
asked-nothing = refl
