-- The law is a lemma on the definitions alone.
use Rattle.paragraph_text.specs.Laws.{changes}
use Rattle.paragraph_text.proofs.edits.edits_are_changes.Goals as goal

pub returns : goal.returns
returns c = changes
