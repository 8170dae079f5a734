-- The law is a lemma on the definitions alone.
use Rattle.paragraph_text.proofs.Kept.{opening-valid}
use Rattle.paragraph_text.proofs.edits.openings_are_valid.Goals as goal

pub returns : goal.returns
returns c = opening-valid
