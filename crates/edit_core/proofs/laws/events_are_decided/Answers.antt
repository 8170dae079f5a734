-- By the law that edits are decided.
use Rattle.edit_core.proofs.Decide.{decided}
use Rattle.edit_core.proofs.laws.events_are_decided.Goals as goal

pub returns : goal.returns
returns c = decided c.edits_are_decided.ensures.decided
